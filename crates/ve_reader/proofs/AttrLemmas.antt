-- The attributes of a tag, one by one: what is still to come, and that no name comes twice.
use Rattle.std.proofs.Common.{◌≡◌, ◌⊎◌, inl, inr, ℕ, zero, suc, ◌+◌, ◌<◌, ◌≤◌, Bool, true, false, not, ◌&&◌, ◌||◌, List, [], ◌∷◌, ◌++◌, length, map, Option, Some, None, Contains, refl, sym, ap, ◌∙◌, subst, arith, append_assoc, append-nil, eqb-true, leb-true, eqb}
use Rattle.std.specs.Prelude.{slice_index, nat_le, chars, IsAscii, ◌==◌, nat_eq}
use Rattle.std.specs.List.{list_any, list_all}
use Rattle.std.specs.Char.{is_ascii_alphanumeric}
use Rattle.std.specs.Int.{is_in_range}
use Rattle.std.proofs.lemmas.List.{map-append}
use Rattle.std.proofs.lemmas.List.Elements.{Contains-append_cases}
use Rattle.std.proofs.lemmas.Str.{chars-IsAscii}
use Rattle.model_spelling.specs.Grammar as g
use Rattle.model_spelling.specs.Grammar.{is_name_byte, is_attr_name, is_attr, has_name, name_same, are_distinct, are_attrs}
use Rattle.model_spelling.proofs.AttrReading.{and_left, and_right}
use Rattle.model_spelling.proofs.ForestLaws.{not_true, same_bytes}
use Rattle.model_page.specs.Heads.{characters, attr_of, attrs_of}
use Rattle.ve_base.specs.declared.attrs.Attr.{Attr}
use Rattle.ve_base.specs.Names.{names}
use Rattle.ve_html_scan.specs.declared.attr_tokens.AttrToken.{AttrToken}
use Rattle.ve_html_scan.specs.declared.attr_tokens.AttrTokens.{AttrTokens}
use Rattle.ve_html_scan.specs.Shown.{ShowsAttrs, ShowsAttr, AttrsStep}
use Rattle.ve_reader.specs.TagAttrs.{IsTagAttrs}

-- ---- names are ASCII, so that their characters tell them apart

or_parts : (a b : Bool) → (a || b) ≡ true → (a ≡ true) ⊎ (b ≡ true)
or_parts true b e = inl refl
or_parts false b e = inr e

below_128 : (lo hi b : ℕ) → hi < 128 → is_in_range lo hi b ≡ true → b < 128
below_128 lo hi b h e = let le = leb-true b hi (and_right (nat_le lo b) (nat_le b hi) e) in omega arith

equal_128 : (b c : ℕ) → c < 128 → (b == c) ≡ true → b < 128
equal_128 b c h e = let same = eqb-true b c e in omega arith

letter_low : (b : ℕ) → is_ascii_alphanumeric b ≡ true → b < 128
letter_low b e =
    elim (or_parts (is_in_range 48 57 b || is_in_range 65 90 b) (is_in_range 97 122 b) e) [
      | inl first ↦ elim (or_parts (is_in_range 48 57 b) (is_in_range 65 90 b) first) [
        | inl digit ↦ below_128 48 57 b (omega arith) digit
        | inr upper ↦ below_128 65 90 b (omega arith) upper
      ]
      | inr lower ↦ below_128 97 122 b (omega arith) lower
    ]

name_low : (b : ℕ) → is_name_byte b ≡ true → b < 128
name_low b e =
    elim (or_parts (is_ascii_alphanumeric b || b == 45 || b == 95 || b == 46) (b == 58) e) [
      | inr colon ↦ equal_128 b 58 (omega arith) colon
      | inl first ↦ elim (or_parts (is_ascii_alphanumeric b || b == 45 || b == 95) (b == 46) first) [
        | inr dot ↦ equal_128 b 46 (omega arith) dot
        | inl second ↦ elim (or_parts (is_ascii_alphanumeric b || b == 45) (b == 95) second) [
          | inr line ↦ equal_128 b 95 (omega arith) line
          | inl third ↦ elim (or_parts (is_ascii_alphanumeric b) (b == 45) third) [
            | inr dash ↦ equal_128 b 45 (omega arith) dash
            | inl letter ↦ letter_low b letter
          ]
        ]
      ]
    ]

bytes_low : (bs : List ℕ) → list_all is_name_byte bs ≡ true → (i : ℕ) → slice_index bs i < 128
bytes_low [] e i = omega arith
bytes_low (b ∷ bs) e zero = name_low b (and_left (is_name_byte b) (list_all is_name_byte bs) e)
bytes_low (b ∷ bs) e (suc i) = bytes_low bs (and_right (is_name_byte b) (list_all is_name_byte bs) e) i

name_ascii : (name : List ℕ) → is_attr_name name ≡ true → IsAscii name
name_ascii [] e = absurd cc
name_ascii (b ∷ bs) e = bytes_low (b ∷ bs) e

named : (a : g.Attr) → is_attr a ≡ true → is_attr_name a.name ≡ true
named a e = and_left (is_attr_name a.name) (a.quote == 34 || a.quote == 39) (and_left (is_attr_name a.name && (a.quote == 34 || a.quote == 39)) (g.is_run a.quote a.value) e)

same_name : (a b : g.Attr) → is_attr a ≡ true → is_attr b ≡ true → chars a.name ≡ chars b.name → a.name ≡ b.name
same_name a b p q e = sym (chars-IsAscii a.name (name_ascii a.name (named a p))) ∙ e ∙ chars-IsAscii b.name (name_ascii b.name (named b q))

-- ---- no name comes twice

or_true : (b : Bool) → (b || true) ≡ true
or_true true = refl
or_true false = refl

or_first : (a b : Bool) → a ≡ true → (a || b) ≡ true
or_first a b e = rw e refl

has_it : (name : List ℕ) (done : List g.Attr) (a : g.Attr) (rest : List g.Attr) → name_same a.name name ≡ true → has_name name (done ++ a ∷ rest) ≡ true
has_it name [] a rest e = or_first (name_same a.name name) (has_name name rest) e
has_it name (d ∷ done) a rest e = ap (λ (b : Bool). name_same d.name name || b) (has_it name done a rest e) ∙ or_true (name_same d.name name)

attr_at : (done : List g.Attr) (a : g.Attr) (rest : List g.Attr) → list_all is_attr (done ++ a ∷ rest) ≡ true → is_attr a ≡ true
attr_at [] a rest e = and_left (is_attr a) (list_all is_attr rest) e
attr_at (d ∷ done) a rest e = attr_at done a rest (and_right (is_attr d) (list_all is_attr (done ++ a ∷ rest)) e)

only_name : (x y : List ℕ) → Contains (x ∷ []) y → x ≡ y
only_name x y (zero, below, here) = here
only_name x y (suc k, below, here) = absurd (let none : ⊥ = omega arith in none)

not_among : (done : List g.Attr) (a : g.Attr) (rest : List g.Attr) → list_all is_attr (done ++ a ∷ rest) ≡ true → are_distinct (done ++ a ∷ rest) ≡ true → ¬ Contains (names (attrs_of done)) (chars a.name)
not_among [] a rest all apart h = absurd (let below = h.1 in omega arith)
not_among (d ∷ done) a rest all apart h =
    let more : List g.Attr = done ++ a ∷ rest in
    elim (Contains-append_cases (chars d.name ∷ []) (names (attrs_of done)) (chars a.name) h) [
      | inl first ↦
          let same : d.name ≡ a.name = same_name d a (and_left (is_attr d) (list_all is_attr more) all) (attr_at (d ∷ done) a rest all) (only_name (chars d.name) (chars a.name) first) in
          let twice : has_name d.name more ≡ true = has_it d.name done a rest (subst (λ (n : List ℕ). name_same n d.name ≡ true) same (same_bytes d.name)) in
          let once : has_name d.name more ≡ false = not_true (has_name d.name more) (and_left (not (has_name d.name more)) (are_distinct more) apart) in
          absurd cc
      | inr later ↦ not_among done a rest (and_right (is_attr d) (list_all is_attr more) all) (and_right (not (has_name d.name more)) (are_distinct more) apart) later
    ]

-- ---- the loop

-- The attributes of a tag made so far, and those still to come.
pub record Left (list : List g.Attr) (slash : Bool) (now : AttrTokens) (made : List Attr) : Type 0 where
  pub done : List g.Attr
  pub rest : List g.Attr
  pub shows : ShowsAttrs now rest slash
  pub split : list ≡ done ++ rest
  pub made_is : made ≡ attrs_of done

abbrev pub LeftOf : AttrTokens → AttrTokens → List Attr → Type 0
LeftOf whole now made = (list : List g.Attr) (slash : Bool) → ShowsAttrs whole list slash → Left list slash now made

pub all_left : (whole : AttrTokens) (made : List Attr) → made ≡ [] → LeftOf whole whole made
all_left whole made e = λ list slash s. record { done = []; rest = list; shows = s; split = refl; made_is = e }

one_more : (list done : List g.Attr) (a : g.Attr) (rest : List g.Attr) → list ≡ done ++ a ∷ rest → list ≡ (done ++ a ∷ []) ++ rest
one_more list done a rest e = e ∙ sym (append_assoc done (a ∷ []) rest)

more_by : (list : List g.Attr) (slash : Bool) (before after : AttrTokens) (token : AttrToken) (made new : List Attr) (attr : Attr) (l : Left list slash before made) (rest : List g.Attr) → l.rest ≡ rest → AttrsStep before (Some token) after → attr.name ≡ chars token.name.now → attr.value ≡ characters token.value.now → new ≡ made ++ attr ∷ [] → Left list slash after new
more_by list slash before after token made new attr l [] e step n v is =
    let h : true ≡ false = (step [] slash (subst (λ (r : List g.Attr). ShowsAttrs before r slash) e l.shows)).0 in absurd cc
more_by list slash before after token made new attr l (a ∷ rest) e step n v is =
    let t = step (a ∷ rest) slash (subst (λ (r : List g.Attr). ShowsAttrs before r slash) e l.shows) in
    let name : attr.name ≡ chars a.name = n ∙ ap chars t.0.name in
    let value : attr.value ≡ characters a.value = v ∙ ap characters t.0.value in
    let same : attr ≡ attr_of a = λ k. record { name = name k; value = value k } in
    record {
      done = l.done ++ a ∷ [];
      rest = rest;
      shows = t.1;
      split = one_more list l.done a rest (l.split ∙ ap (λ (r : List g.Attr). l.done ++ r) e);
      made_is = is ∙ ap (λ (m : List Attr). m ++ attr ∷ []) l.made_is ∙ ap (λ (x : Attr). attrs_of l.done ++ x ∷ []) same ∙ sym (map-append attr_of l.done (a ∷ []));
    }

pub more : (whole before after : AttrTokens) (token : AttrToken) (made new : List Attr) (attr : Attr) → LeftOf whole before made → AttrsStep before (Some token) after → attr.name ≡ chars token.name.now → attr.value ≡ characters token.value.now → new ≡ made ++ attr ∷ [] → LeftOf whole after new
more whole before after token made new attr left step n v is = λ list slash s.
    let l = left list slash s in more_by list slash before after token made new attr l l.rest refl step n v is

new_by : (list : List g.Attr) (slash : Bool) (before after : AttrTokens) (token : AttrToken) (made : List Attr) (attr : Attr) (l : Left list slash before made) (rest : List g.Attr) → l.rest ≡ rest → are_attrs list ≡ true → AttrsStep before (Some token) after → attr.name ≡ chars token.name.now → ¬ Contains (names made) attr.name
new_by list slash before after token made attr l [] e allowed step n =
    let h : true ≡ false = (step [] slash (subst (λ (r : List g.Attr). ShowsAttrs before r slash) e l.shows)).0 in absurd cc
new_by list slash before after token made attr l (a ∷ rest) e allowed step n = λ h.
    let t = step (a ∷ rest) slash (subst (λ (r : List g.Attr). ShowsAttrs before r slash) e l.shows) in
    let split : list ≡ l.done ++ a ∷ rest = l.split ∙ ap (λ (r : List g.Attr). l.done ++ r) e in
    let both = and_left (list_all is_attr list && are_distinct list) (nat_le (length list) 256) allowed in
    let all : list_all is_attr (l.done ++ a ∷ rest) ≡ true = sym (ap (list_all is_attr) split) ∙ and_left (list_all is_attr list) (are_distinct list) both in
    let apart : are_distinct (l.done ++ a ∷ rest) ≡ true = sym (ap are_distinct split) ∙ and_right (list_all is_attr list) (are_distinct list) both in
    let name : attr.name ≡ chars a.name = n ∙ ap chars t.0.name in
    not_among l.done a rest all apart (subst (λ (m : List Attr). Contains (names m) (chars a.name)) l.made_is (subst (λ (x : List ℕ). Contains (names made) x) name h))

pub is_new : (whole before after : AttrTokens) (token : AttrToken) (made : List Attr) (attr : Attr) → IsTagAttrs whole → LeftOf whole before made → AttrsStep before (Some token) after → attr.name ≡ chars token.name.now → ¬ Contains (names made) attr.name
is_new whole before after token made attr tag left step n =
    let l = left tag.attrs tag.slash tag.shows in new_by tag.attrs tag.slash before after token made attr l l.rest refl tag.allowed step n

done_by : (list : List g.Attr) (slash : Bool) (before after : AttrTokens) (made : List Attr) (l : Left list slash before made) (rest : List g.Attr) → l.rest ≡ rest → AttrsStep before None after → made ≡ attrs_of list
done_by list slash before after made l [] e step = l.made_is ∙ sym (ap attrs_of (l.split ∙ ap (λ (r : List g.Attr). l.done ++ r) e ∙ append-nil l.done))
done_by list slash before after made l (a ∷ rest) e step = absurd (step (a ∷ rest) slash (subst (λ (r : List g.Attr). ShowsAttrs before r slash) e l.shows)).0

pub all_made : (whole before after : AttrTokens) (made : List Attr) → LeftOf whole before made → AttrsStep before None after → (list : List g.Attr) (slash : Bool) → ShowsAttrs whole list slash → made ≡ attrs_of list
all_made whole before after made left step list slash s = let l = left list slash s in done_by list slash before after made l l.rest refl step
