-- A text that is read is spelled so.
use Rattle.std.proofs.Common.{◌≡◌, ◌≢◌, ℕ, zero, suc, ◌+◌, ◌-◌, ◌<◌, ◌≤◌, Bool, true, false, cond, not, ◌&&◌, ◌||◌, eqb, List, [], ◌∷◌, ◌++◌, length, drop, take, Option, Some, None, Result, Ok, Err, refl, sym, ap, ◌∙◌, arith, eq-eqb, eqb-true, append_assoc, subst, inl, inr}
use Rattle.std.specs.Prelude.{◌==◌, slice_index}
use Rattle.std.proofs.lemmas.List.{drop-drop, length-drop, length-append, append-nil, take_at, drop_at, take-append-drop}
use Rattle.std.proofs.Math.Seq.{drop-append_seam, take-append_seam}
use Rattle.std.proofs.lemmas.Bool.{cases_Bool}
use Rattle.std.specs.List.{prefix_len, flat_map, list_all}
use Rattle.model_spelling.specs.declared.scan_fault.ScanFault.{ScanFault}
use Rattle.model_spelling.specs.declared.scan_fault.ScanWhat.TheVariants.{BadChar, UnclosedTag}
use Rattle.model_spelling.specs.Grammar.{is_barred, is_name_byte, is_attr_name, is_run, is_attr, has_name, starts_reference, Attr, attr_text}
use Rattle.model_spelling.specs.Reading.{◌>>=◌, fault, byte_fault, reference_fault, run_end, value_end, name_len_at, quote_at, head_at, attr_at, attrs_at, with_name}
use Rattle.model_spelling.proofs.AttrReading.{four_ways, attr_head_fault, attr_many, attr_twice, attr_value_fault, attr_whole, attrs_stop, attrs_fault, attrs_more}
use Rattle.model_spelling.proofs.TokenRuns.{or_parts, run_le, run_found, PartsReferences, double_parts, single_parts, Follows}
use Rattle.model_spelling.proofs.Only.{NoSpace, attr_regrouped, attr_length, flat_length, Apart, and_both}

-- ---- results

abbrev ok_or : {A : Type 0} → A → Result A ScanFault → A
ok_or d (Ok x) = x
ok_or d (Err f) = d

abbrev pub ok : {A : Type 0} → A → Result A ScanFault
ok x = Ok x

pub ok_same : {A : Type 0} (x y : A) → ok x ≡ ok y → x ≡ y
ok_same x y e = ap (ok_or x) e

abbrev is_ok : {A : Type 0} → Result A ScanFault → Bool
is_ok (Ok x) = true
is_ok (Err f) = false

pub not_ok : {A : Type 0} (r : Result A ScanFault) (f : ScanFault) (x : A) → r ≡ Err f → r ≡ Ok x → ⊥
not_ok r f x e g = let h : false ≡ true = ap is_ok (sym e ∙ g) in cc

-- ---- runs

pub record RunFound (end : Option ScanFault) (stop at to : ℕ) (text : List ℕ) : Type 0 where
  pub prefix : List ℕ
  pub suffix : List ℕ
  pub text_is : text ≡ prefix ++ suffix
  pub len : to ≡ at + length prefix
  pub run : is_run stop prefix ≡ true
  pub follows : Follows stop end suffix

run_within : (end : Option ScanFault) (stop at to : ℕ) (text : List ℕ) → run_end end stop at text ≡ Ok to → to ≤ at + length text
unfolding run_end
run_within None stop at to [] e = let same = ok_same at to e in omega arith
run_within (Some f) stop at to [] e = absurd cc
run_within end stop at to (b ∷ bs) e =
    elim (four_ways (eqb b stop) (is_barred b) (eqb b 38 && not (starts_reference (b ∷ bs))) at to (fault at BadChar) (reference_fault end at (b ∷ bs)) (run_end end stop (at + 1) bs) e) [
      | inl stops ↦ omega arith
      | inr on ↦ omega (arith, run_within end stop (at + 1) to bs on.3)
    ]

follows_none : (stop n b : ℕ) (end : Option ScanFault) (bs : List ℕ) → n ≡ 0 → b ≡ stop → Follows stop end (drop n (b ∷ bs))
follows_none stop n b end bs e f = subst (λ (k : ℕ). Follows stop end (drop k (b ∷ bs))) (sym e) f

follows_more : (stop n k b : ℕ) (end : Option ScanFault) (bs : List ℕ) → n ≡ suc k → Follows stop end (drop k bs) → Follows stop end (drop n (b ∷ bs))
follows_more stop n k b end bs e f = subst (λ (j : ℕ). Follows stop end (drop j (b ∷ bs))) (sym e) f

follows_end : (stop n : ℕ) → Follows stop None (drop n [])
follows_end stop zero = refl
follows_end stop (suc n) = refl

run_follows : (end : Option ScanFault) (stop at to : ℕ) (text : List ℕ) → run_end end stop at text ≡ Ok to → Follows stop end (drop (to - at) text)
unfolding run_end
run_follows None stop at to [] e = follows_end stop (to - at)
run_follows (Some f) stop at to [] e = absurd cc
run_follows end stop at to (b ∷ bs) e =
    elim (four_ways (eqb b stop) (is_barred b) (eqb b 38 && not (starts_reference (b ∷ bs))) at to (fault at BadChar) (reference_fault end at (b ∷ bs)) (run_end end stop (at + 1) bs) e) [
      | inl stops ↦ follows_none stop (to - at) b end bs (omega arith) (eqb-true b stop stops.0)
      | inr on ↦ follows_more stop (to - at) (to - (at + 1)) b end bs (omega (arith, run_le end stop (at + 1) to bs on.3)) (run_follows end stop (at + 1) to bs on.3)
    ]

pub run_parts : (end : Option ScanFault) (stop at to : ℕ) (text : List ℕ) → PartsReferences stop → run_end end stop at text ≡ Ok to → RunFound end stop at to text
run_parts end stop at to text parts e =
    let whole : text ≡ take (to - at) text ++ drop (to - at) text = sym (take-append-drop (to - at) text) in
    record {
      prefix = take (to - at) text;
      suffix = drop (to - at) text;
      text_is = whole;
      len = omega (arith, run_le end stop at to text e, run_within end stop at to text e, ap length whole, length-append (take (to - at) text) (drop (to - at) text), length-drop (to - at) text);
      run = run_found end stop at to text parts e;
      follows = run_follows end stop at to text e;
    }

-- ---- names

abbrev pub Stops : (ℕ → Bool) → List ℕ → Type 0
Stops p [] = Unit {0}
Stops p (b ∷ bs) = p b ≡ false

pub record Split (p : ℕ → Bool) (text : List ℕ) : Type 0 where
  pub prefix : List ℕ
  pub suffix : List ℕ
  pub text_is : text ≡ prefix ++ suffix
  pub len : prefix_len p text ≡ length prefix
  pub all : list_all p prefix ≡ true
  pub stops : Stops p suffix

split_by : (p : ℕ → Bool) (b : ℕ) (bs : List ℕ) (c : Bool) → p b ≡ c → Split p bs → Split p (b ∷ bs)
split_by p b bs true e s = record { prefix = b ∷ s.prefix; suffix = s.suffix; text_is = ap (λ (l : List ℕ). b ∷ l) s.text_is; len = rw e (omega (arith, s.len)); all = rw e s.all; stops = s.stops }
split_by p b bs false e s = record { prefix = []; suffix = b ∷ bs; text_is = refl; len = rw e refl; all = refl; stops = e }

pub split : (p : ℕ → Bool) (text : List ℕ) → Split p text
split p [] = record { prefix = []; suffix = []; text_is = refl; len = refl; all = refl; stops = tt }
split p (b ∷ bs) = split_by p b bs (p b) refl (split p bs)

split_take : (p : ℕ → Bool) (text : List ℕ) (s : Split p text) → take (length s.prefix) text ≡ s.prefix
split_take p text s = ap (take (length s.prefix)) s.text_is ∙ take-append_seam s.prefix s.suffix

pub split_drop : (p : ℕ → Bool) (text : List ℕ) (s : Split p text) → drop (length s.prefix) text ≡ s.suffix
split_drop p text s = ap (drop (length s.prefix)) s.text_is ∙ drop-append_seam s.prefix s.suffix

named_by : {A : Type 0} (after : List ℕ → ℕ → List ℕ → A) (at n : ℕ) (text name rest : List ℕ) → prefix_len is_name_byte text ≡ n → take n text ≡ name → drop n text ≡ rest → with_name after at text ≡ after name (at + n) rest
named_by after at n text name rest e f g = rw (e, f, g) refl

pub named_as : {A : Type 0} (after : List ℕ → ℕ → List ℕ → A) (at : ℕ) (text : List ℕ) (s : Split is_name_byte text) → with_name after at text ≡ after s.prefix (at + length s.prefix) s.suffix
named_as after at text s = named_by after at (length s.prefix) text s.prefix s.suffix s.len (split_take is_name_byte text s) (split_drop is_name_byte text s)

-- ---- the head of an attribute

abbrev pub pair_of : ℕ → ℕ → Result (ℕ × ℕ) ScanFault
pair_of k q = Ok (k, q)

abbrev pub quoted : ℕ → ℕ → List ℕ → ℕ → Result (ℕ × ℕ) ScanFault
quoted tag place text n = quote_at tag place (place + 1 + n) (drop n text) >>= pair_of n

pub head_as : (tag place k : ℕ) (text : List ℕ) → prefix_len is_name_byte text ≡ k → head_at tag place text ≡ (name_len_at tag place k text >>= quoted tag place text)
unfolding head_at
head_as tag place k text e = rw e refl

pub record HeadFound (n q : ℕ) (text : List ℕ) : Type 0 where
  pub name : List ℕ
  pub rest : List ℕ
  pub text_is : text ≡ name ++ (61 ∷ (q ∷ rest))
  pub len : length name ≡ n
  pub named : is_attr_name name ≡ true
  pub quote : (q == 34 || q == 39) ≡ true

no_name : (tag place n q : ℕ) (text : List ℕ) → (name_len_at tag place 0 text >>= quoted tag place text) ≡ Ok (n, q) → ⊥
no_name tag place n q [] e = not_ok (Err (fault tag UnclosedTag)) (fault tag UnclosedTag) (n, q) refl e
no_name tag place n q (c ∷ cs) e = not_ok (name_len_at tag place 0 (c ∷ cs) >>= quoted tag place (c ∷ cs)) _ (n, q) refl e

quote_by : (e1 q1 : Bool) (d k n q : ℕ) (f g : ScanFault) → (cond e1 (cond q1 (Ok d) (Err f)) (Err g) >>= pair_of k) ≡ Ok (n, q) → (e1 ≡ true) × (q1 ≡ true) × (k ≡ n) × (d ≡ q)
quote_by true true d k n q f g e = let same = ok_same (k, d) (n, q) e in (refl, refl, ap (λ (p : ℕ × ℕ). p.0) same, ap (λ (p : ℕ × ℕ). p.1) same)
quote_by true false d k n q f g e = absurd (not_ok (Err f) f (n, q) refl e)
quote_by false q1 d k n q f g e = absurd (not_ok (Err g) g (n, q) refl e)

only_equals : (e1 : Bool) (n q : ℕ) (f g : ScanFault) → (k : ℕ) → (cond e1 (Err f) (Err g) >>= pair_of k) ≡ Ok (n, q) → ⊥
only_equals true n q f g k e = not_ok (Err f) f (n, q) refl e
only_equals false n q f g k e = not_ok (Err g) g (n, q) refl e

quote_found : (tag place at k n q : ℕ) (suffix : List ℕ) → (quote_at tag place at suffix >>= pair_of k) ≡ Ok (n, q) → (rest : List ℕ) × (suffix ≡ 61 ∷ (q ∷ rest)) × ((q == 34 || q == 39) ≡ true) × (k ≡ n)
quote_found tag place at k n q [] e = absurd (not_ok (Err (fault tag UnclosedTag)) (fault tag UnclosedTag) (n, q) refl e)
quote_found tag place at k n q (c ∷ []) e = absurd (only_equals (c == 61) n q (fault tag UnclosedTag) (byte_fault at c (fault place _)) k e)
quote_found tag place at k n q (c ∷ d ∷ rest) e =
    let p = quote_by (c == 61) (d == 34 || d == 39) d k n q _ _ e in
    (rest, (λ i. eqb-true c 61 p.0 i ∷ p.3 i ∷ rest), subst (λ (x : ℕ). (x == 34 || x == 39) ≡ true) p.3 p.1, p.2)

head_found_by : (tag place n q : ℕ) (text prefix suffix : List ℕ) → prefix_len is_name_byte text ≡ length prefix → text ≡ prefix ++ suffix → list_all is_name_byte prefix ≡ true → drop (length prefix) text ≡ suffix → head_at tag place text ≡ Ok (n, q) → HeadFound n q text
head_found_by tag place n q text [] suffix len t all d e = absurd (no_name tag place n q text (sym (head_as tag place 0 text len) ∙ e))
head_found_by tag place n q text (b ∷ bs) suffix len t all d e =
    let read : (quote_at tag place (place + 1 + length (b ∷ bs)) suffix >>= pair_of (length (b ∷ bs))) ≡ Ok (n, q) = ap (λ (l : List ℕ). quote_at tag place (place + 1 + length (b ∷ bs)) l >>= pair_of (length (b ∷ bs))) (sym d) ∙ sym (head_as tag place (length (b ∷ bs)) text len) ∙ e in
    let p = quote_found tag place (place + 1 + length (b ∷ bs)) (length (b ∷ bs)) n q suffix read in
    record { name = b ∷ bs; rest = p.0; text_is = t ∙ ap (λ (l : List ℕ). b ∷ bs ++ l) p.1; len = p.3; named = all; quote = p.2 }

pub head_found : (tag place n q : ℕ) (text : List ℕ) → head_at tag place text ≡ Ok (n, q) → HeadFound n q text
head_found tag place n q text e =
    let s = split is_name_byte text in
    head_found_by tag place n q text s.prefix s.suffix s.len s.text_is s.all (split_drop is_name_byte text s) e

-- ---- an attribute

pub record AttrFound (room place : ℕ) (before : List Attr) (text : List ℕ) (a : Attr) (to : ℕ) : Type 0 where
  pub rest : List ℕ
  pub text_is : text ≡ a.name ++ (61 ∷ (a.quote ∷ (a.value ++ (a.quote ∷ rest))))
  pub to_is : to ≡ place + length (attr_text a)
  pub allowed : is_attr a ≡ true
  pub new : has_name a.name before ≡ false
  pub some : 0 < room

quote_parts : (q : ℕ) → (q == 34 || q == 39) ≡ true → PartsReferences q
quote_parts q e =
    elim (or_parts (q == 34) (q == 39) e) [
      | inl double ↦ subst PartsReferences (sym (eqb-true q 34 double)) double_parts
      | inr single ↦ subst PartsReferences (sym (eqb-true q 39 single)) single_parts
    ]

stop_here : (f : ScanFault) (q : ℕ) (suffix : List ℕ) → Follows q (Some f) suffix → (rest : List ℕ) × (suffix ≡ q ∷ rest)
stop_here f q [] e = absurd cc
stop_here f q (b ∷ rest) e = (rest, ap (λ (x : ℕ). x ∷ rest) e)

attr_made : (room tag place n q x : ℕ) (before : List Attr) (text : List ℕ) → HeadFound n q text → has_name (take n text) before ≡ false → value_end tag q (place + n + 3) (drop (n + 2) text) ≡ Ok x
    → AttrFound (suc room) place before text (record { name = take n text; value = take (x - (place + n + 3)) (drop (n + 2) text); quote = q }) (x + 1)
attr_made room tag place n q x before text h new v =
    let name : take n text ≡ h.name = ap (take n) h.text_is ∙ take_at h.name (61 ∷ (q ∷ h.rest)) n h.len in
    let beyond : drop n text ≡ 61 ∷ (q ∷ h.rest) = ap (drop n) h.text_is ∙ drop_at h.name (61 ∷ (q ∷ h.rest)) n h.len in
    let left : drop (n + 2) text ≡ h.rest = sym (drop-drop 2 n text) ∙ ap (drop 2) beyond in
    let r = run_parts (Some (fault tag UnclosedTag)) q (place + n + 3) x (drop (n + 2) text) (quote_parts q h.quote) v in
    let s = stop_here (fault tag UnclosedTag) q r.suffix r.follows in
    let len : length r.prefix ≡ x - (place + n + 3) = omega (arith, r.len) in
    let value : take (x - (place + n + 3)) (drop (n + 2) text) ≡ r.prefix = ap (take (x - (place + n + 3))) r.text_is ∙ take_at r.prefix r.suffix (x - (place + n + 3)) len in
    let attr : Attr = record { name = take n text; value = take (x - (place + n + 3)) (drop (n + 2) text); quote = q } in
    let same : attr ≡ record { name = h.name; value = r.prefix; quote = q } = (λ i. record { name = name i; value = value i; quote = q }) in
    record {
      rest = s.0;
      text_is = h.text_is ∙ ap (λ (l : List ℕ). h.name ++ (61 ∷ (q ∷ l))) (sym left ∙ r.text_is ∙ ap (λ (l : List ℕ). r.prefix ++ l) s.1) ∙ ap (λ (a : Attr). a.name ++ (61 ∷ (a.quote ∷ (a.value ++ (a.quote ∷ s.0))))) (sym same);
      to_is = omega (arith, r.len, h.len, attr_length attr, ap (λ (a : Attr). length a.name + length a.value) same);
      allowed = ap is_attr same ∙ and_both (is_attr_name h.name && (q == 34 || q == 39)) (is_run q r.prefix) (and_both (is_attr_name h.name) (q == 34 || q == 39) h.named h.quote) r.run;
      new = new;
      some = omega arith;
    }

attr_by_value : (room tag place n q : ℕ) (before : List Attr) (text : List ℕ) (a : Attr) (to : ℕ) (d : Bool) (v : Result ℕ ScanFault) → head_at tag place text ≡ Ok (n, q) → has_name (take n text) before ≡ d → value_end tag q (place + n + 3) (drop (n + 2) text) ≡ v
    → attr_at (suc room) tag before place text ≡ Ok (a, to) → AttrFound (suc room) place before text a to
attr_by_value room tag place n q before text a to true v h d w e = absurd (not_ok (attr_at (suc room) tag before place text) _ (a, to) (attr_twice room tag place n q before text h d) e)
attr_by_value room tag place n q before text a to false (Err f) h d w e = absurd (not_ok (attr_at (suc room) tag before place text) f (a, to) (attr_value_fault room tag place n q before text f h d w) e)
attr_by_value room tag place n q before text a to false (Ok x) h d w e =
    let made : Attr × ℕ = (record { name = take n text; value = take (x - (place + n + 3)) (drop (n + 2) text); quote = q }, x + 1) in
    let same : made ≡ (a, to) = ok_same made (a, to) (sym (attr_whole room tag place n q x before text h d w) ∙ e) in
    subst (λ (p : Attr × ℕ). AttrFound (suc room) place before text p.0 p.1) same (attr_made room tag place n q x before text (head_found tag place n q text h) d w)

attr_by_head : (room tag place : ℕ) (before : List Attr) (text : List ℕ) (a : Attr) (to : ℕ) (h : Result (ℕ × ℕ) ScanFault) → head_at tag place text ≡ h → attr_at room tag before place text ≡ Ok (a, to) → AttrFound room place before text a to
attr_by_head room tag place before text a to (Err f) h e = absurd (not_ok (attr_at room tag before place text) f (a, to) (attr_head_fault room tag place before text f h) e)
attr_by_head zero tag place before text a to (Ok (n, q)) h e = absurd (not_ok (attr_at 0 tag before place text) _ (a, to) (attr_many tag place n q before text h) e)
attr_by_head (suc room) tag place before text a to (Ok (n, q)) h e =
    attr_by_value room tag place n q before text a to (has_name (take n text) before) (value_end tag q (place + n + 3) (drop (n + 2) text)) h refl refl e

pub attr_found : (room tag place : ℕ) (before : List Attr) (text : List ℕ) (a : Attr) (to : ℕ) → attr_at room tag before place text ≡ Ok (a, to) → AttrFound room place before text a to
attr_found room tag place before text a to e = attr_by_head room tag place before text a to (head_at tag place text) refl e

-- ---- all attributes

pub record AttrsFound (room at : ℕ) (before : List Attr) (text : List ℕ) (attrs : List Attr) (to : ℕ) : Type 0 where
  pub more : List Attr
  pub rest : List ℕ
  pub attrs_are : attrs ≡ before ++ more
  pub text_is : text ≡ flat_map attr_text more ++ rest
  pub to_is : to ≡ at + length (flat_map attr_text more)
  pub allowed : list_all is_attr more ≡ true
  pub apart : Apart before more
  pub few : length more ≤ room
  pub no_space : NoSpace rest

space_first : (text : List ℕ) → slice_index text 0 ≡ 32 → text ≡ 32 ∷ drop 1 text
space_first [] e = absurd cc
space_first (b ∷ bs) e = ap (λ (x : ℕ). x ∷ bs) e

attrs_end : (room tag at : ℕ) (before : List Attr) (text : List ℕ) (attrs : List Attr) (to : ℕ) → slice_index text 0 ≢ 32 → attrs_at room tag before at text ≡ Ok (attrs, to) → AttrsFound room at before text attrs to
attrs_end room tag at before text attrs to n e =
    let same = ok_same {A = List Attr × ℕ} (before, at) (attrs, to) (sym (attrs_stop room tag at before text n) ∙ e) in
    record { more = []; rest = text; attrs_are = sym (ap (λ (p : List Attr × ℕ). p.0) same) ∙ sym (append-nil before); text_is = refl; to_is = omega (arith, ap (λ (p : List Attr × ℕ). p.1) same); allowed = refl; apart = tt; few = omega arith; no_space = n }

attrs_step : (room at x : ℕ) (before : List Attr) (text : List ℕ) (a : Attr) (attrs : List Attr) (to : ℕ) → slice_index text 0 ≡ 32 → AttrFound (suc room) at before (drop 1 text) a x → AttrsFound room x (before ++ a ∷ []) (drop (x - at) text) attrs to → AttrsFound (suc room) at before text attrs to
attrs_step room at x before text a attrs to s f m =
    let whole : text ≡ attr_text a ++ f.rest = space_first text s ∙ ap (λ (l : List ℕ). 32 ∷ l) f.text_is ∙ sym (attr_regrouped a f.rest) in
    let len : x - at ≡ length (attr_text a) = omega (arith, f.to_is) in
    let left : drop (x - at) text ≡ f.rest = ap (λ (k : ℕ). drop k text) len ∙ ap (drop (length (attr_text a))) whole ∙ drop-append_seam (attr_text a) f.rest in
    record {
      more = a ∷ m.more;
      rest = m.rest;
      attrs_are = m.attrs_are ∙ append_assoc before (a ∷ []) m.more;
      text_is = whole ∙ ap (λ (l : List ℕ). attr_text a ++ l) (sym left ∙ m.text_is) ∙ sym (append_assoc (attr_text a) (flat_map attr_text m.more) m.rest);
      to_is = omega (arith, m.to_is, f.to_is, flat_length a m.more);
      allowed = and_both (is_attr a) (list_all is_attr m.more) f.allowed m.allowed;
      apart = (f.new, m.apart);
      few = omega (arith, m.few);
      no_space = m.no_space;
    }

not_both : (n : ℕ) → (n == 32) ≡ false → n ≡ 32 → ⊥
not_both n e f = let h : false ≡ true = sym e ∙ eq-eqb n 32 f in cc

attrs_none : (tag at : ℕ) (before : List Attr) (text : List ℕ) (attrs : List Attr) (to : ℕ) (r : Result (Attr × ℕ) ScanFault) → slice_index text 0 ≡ 32 → attr_at 0 tag before at (drop 1 text) ≡ r → attrs_at 0 tag before at text ≡ Ok (attrs, to) → ⊥
attrs_none tag at before text attrs to (Err f) s r e = not_ok (attrs_at 0 tag before at text) f (attrs, to) (attrs_fault 0 tag at before text f s r) e
attrs_none tag at before text attrs to (Ok (a, x)) s r e = let f = attr_found 0 tag at before (drop 1 text) a x r in omega (arith, f.some)

-- what comes after an attribute
abbrev Later : ℕ → ℕ → List Attr → ℕ → Type 0
Later room tag attrs to = (at : ℕ) (before : List Attr) (text : List ℕ) → attrs_at room tag before at text ≡ Ok (attrs, to) → AttrsFound room at before text attrs to

attrs_space : (room tag at : ℕ) (before : List Attr) (text : List ℕ) (attrs : List Attr) (to : ℕ) (r : Result (Attr × ℕ) ScanFault) → slice_index text 0 ≡ 32 → attr_at (suc room) tag before at (drop 1 text) ≡ r → attrs_at (suc room) tag before at text ≡ Ok (attrs, to) → Later room tag attrs to → AttrsFound (suc room) at before text attrs to
attrs_space room tag at before text attrs to (Err f) s r e later = absurd (not_ok (attrs_at (suc room) tag before at text) f (attrs, to) (attrs_fault (suc room) tag at before text f s r) e)
attrs_space room tag at before text attrs to (Ok (a, x)) s r e later =
    attrs_step room at x before text a attrs to s (attr_found (suc room) tag at before (drop 1 text) a x r)
    (later x (before ++ a ∷ []) (drop (x - at) text) (sym (attrs_more room tag at x before text a s r) ∙ e))

pub attrs_found : (room tag at : ℕ) (before : List Attr) (text : List ℕ) (attrs : List Attr) (to : ℕ) → attrs_at room tag before at text ≡ Ok (attrs, to) → AttrsFound room at before text attrs to
attrs_found zero tag at before text attrs to e =
    elim (cases_Bool (slice_index text 0 == 32)) [
      | inl space ↦ absurd (attrs_none tag at before text attrs to (attr_at 0 tag before at (drop 1 text)) (eqb-true (slice_index text 0) 32 space) refl e)
      | inr other ↦ attrs_end 0 tag at before text attrs to (λ h. not_both (slice_index text 0) other h) e
    ]
attrs_found (suc room) tag at before text attrs to e =
    elim (cases_Bool (slice_index text 0 == 32)) [
      | inl space ↦ attrs_space room tag at before text attrs to (attr_at (suc room) tag before at (drop 1 text)) (eqb-true (slice_index text 0) 32 space) refl e (λ x b t g. attrs_found room tag x b t attrs to g)
      | inr other ↦ attrs_end (suc room) tag at before text attrs to (λ h. not_both (slice_index text 0) other h) e
    ]
