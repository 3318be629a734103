-- What a line can write: texts, attributes, marks and items, and what is made of them.
use Rattle.std.proofs.Common.{◌≡◌, ℕ, zero, suc, Bool, true, false, not, ◌&&◌, ◌||◌, if◌then◌else◌, List, [], ◌∷◌, ◌++◌, map, take, drop, Option, Some, None, refl, sym, ap, ◌∙◌, subst}
use Rattle.std.specs.Prelude.{codes, encode_utf8_all}
use Rattle.std.specs.List.{list_all, list_any}
use Rattle.std.specs.Str.{all_scalars}
use Rattle.std.proofs.lemmas.Bool.{and_from, and_parts, not-true}
use Rattle.std.proofs.lemmas.List.Folds.{list_any-append}
use Rattle.std.proofs.lemmas.Str.{encodes-append}
use Rattle.ve_base.specs.declared.attrs.Attr.{Attr}
use Rattle.ve_base.specs.declared.head.Head.{Head}
use Rattle.ve_base.specs.declared.marks.Mark.{Mark}
use Rattle.ve_kinds.specs.declared.kind.Kind.{Kind}
use Rattle.ve_kinds.specs.declared.kind.Kind.TheVariants.{Root, P, H1, H2, H3, H4, H5, H6, Pre, InternalItem, InternalList}
use Rattle.ve_kinds.specs.Table.{is_content_branch, is_element, is_inline_leaf, kind_same}
use Rattle.model_spelling.specs.Grammar.{is_barred}
use Rattle.model_items.specs.declared.plain_item.PlainItem.{PlainItem}
use Rattle.model_items.specs.declared.plain_item.PlainItem.TheVariants.{Char, Closing, Opening}
use Rattle.model_items.specs.Marks.{has_mark, with_mark, without_mark}
use Rattle.model_items.specs.Same.{head_same, mark_same, option_same, text_same}
use Rattle.model_items.proofs.SameLemmas.{Means-head_same, Means-option_same, Means-text_same}
use Rattle.model_change.specs.Attributes.{AttrChange, allows, attr_added, attr_removed, attr_replaced, attrs_changed, is_reserved, item_changed, value_of}
use Rattle.model_edit.specs.Brackets.{closing_for, closing_of, copy_of, opening_of}
use Rattle.model_edit.specs.Insert.{text_pieces}
use Rattle.model_edit.specs.Marking.{remarked}
use Rattle.model_page_write.specs.Written.{is_empty}
use Rattle.model_site_law.specs.ItemLaws.{AllPass, AttrsPass, SettingKeeps, attr_of}
use Rattle.model_world.specs.Attributes.{are_allowed, are_free, holds_whole}
use Rattle.model_world.specs.ItemWords.{may_close, may_open}
use Rattle.model_world_law.specs.PutBack.{is_outer}
use Rattle.model_world_law.specs.ShownLaws.{plain_head}
use Rattle.model_world_law.specs.Writable.{are_marks, is_attr, is_head_attr, is_origin, is_plain_head, is_text, is_whitespace, is_writable, is_writable_mark}

abbrev pub Writes : PlainItem → Type 0
Writes item = is_writable item ≡ true

abbrev pub AllWrite : List PlainItem → Type 0
AllWrite items = AllPass is_writable items

-- ---- tests

either_true : (b c : Bool) → c ≡ true → (b || c) ≡ true
either_true true c h = refl
either_true false c h = h

unless : (b c : Bool) → (b ≡ true → c ≡ true) → (not b || c) ≡ true
unless true c h = h refl
unless false c h = refl

pub holds_then : (b c : Bool) → (not b || c) ≡ true → b ≡ true → c ≡ true
holds_then true c h e = h
holds_then false c h e = cc

module _ {A : Type 0} (test : A → Bool) where
  pub each-append : (xs ys : List A) → list_all test xs ≡ true → list_all test ys ≡ true → list_all test (xs ++ ys) ≡ true
  each-append [] ys p q = q
  each-append (x ∷ xs) ys p q = let r = and_parts (test x) (list_all test xs) p in and_from (test x) (list_all test (xs ++ ys)) r.0 (each-append xs ys r.1 q)

  each-take : (n : ℕ) (xs : List A) → list_all test xs ≡ true → list_all test (take n xs) ≡ true
  each-take zero xs p = refl
  each-take (suc n) [] p = refl
  each-take (suc n) (x ∷ xs) p = let r = and_parts (test x) (list_all test xs) p in and_from (test x) (list_all test (take n xs)) r.0 (each-take n xs r.1)

  each-drop : (n : ℕ) (xs : List A) → list_all test xs ≡ true → list_all test (drop n xs) ≡ true
  each-drop zero xs p = p
  each-drop (suc n) [] p = refl
  each-drop (suc n) (x ∷ xs) p = each-drop n xs (and_parts (test x) (list_all test xs) p).1

-- ---- texts

abbrev free : List ℕ → Bool
free text = not (list_any is_barred (encode_utf8_all text))

none_of : (x y : Bool) → not x ≡ true → not y ≡ true → not (x || y) ≡ true
none_of true y h k = cc
none_of false y h k = k

neither : (x y : Bool) → not (x || y) ≡ true → (not x ≡ true) × (not y ≡ true)
neither true y h = cc
neither false y h = (refl, h)

barred_in : (c : ℕ) (text : List ℕ) → list_any is_barred (encode_utf8_all (c ∷ text)) ≡ (list_any is_barred (encode_utf8_all (c ∷ [])) || list_any is_barred (encode_utf8_all text))
barred_in c text = ap (list_any is_barred) (encodes-append (c ∷ []) text) ∙ list_any-append is_barred (encode_utf8_all (c ∷ [])) (encode_utf8_all text)

pub text_parts : (c : ℕ) (text : List ℕ) → is_text (c ∷ text) ≡ true → (is_text (c ∷ []) ≡ true) × (is_text text ≡ true)
text_parts c text h =
    let p = and_parts (all_scalars (c ∷ text)) (free (c ∷ text)) h in
    let q = and_parts _ (all_scalars text) p.0 in
    let r = neither (list_any is_barred (encode_utf8_all (c ∷ []))) (list_any is_barred (encode_utf8_all text)) (ap not (sym (barred_in c text)) ∙ p.1) in
    (and_from (all_scalars (c ∷ [])) (free (c ∷ [])) (and_from _ true q.0 refl) r.0, and_from (all_scalars text) (free text) q.1 r.1)

pub text_more : (c : ℕ) (text : List ℕ) → is_text (c ∷ []) ≡ true → is_text text ≡ true → is_text (c ∷ text) ≡ true
text_more c text h k =
    let p = and_parts (all_scalars (c ∷ [])) (free (c ∷ [])) h in
    let q = and_parts (all_scalars text) (free text) k in
    and_from (all_scalars (c ∷ text)) (free (c ∷ text)) (and_from _ (all_scalars text) (and_parts _ true p.0).0 q.0)
    (ap not (barred_in c text) ∙ none_of (list_any is_barred (encode_utf8_all (c ∷ []))) (list_any is_barred (encode_utf8_all text)) p.1 q.1)

pub pieces_write : (marks : List Mark) (text : List ℕ) → are_marks marks ≡ true → is_text text ≡ true → AllWrite (text_pieces marks text)
pieces_write marks [] m t = tt
pieces_write marks (c ∷ text) m t =
    let p = text_parts c text t in (and_from (is_text (c ∷ [])) (are_marks marks) p.0 m, pieces_write marks text m p.1)

-- ---- attributes

removed_attrs : (name : List ℕ) (attrs : List Attr) → list_all is_head_attr attrs ≡ true → list_all is_head_attr (attr_removed name attrs) ≡ true
removed_attrs name [] p = refl
removed_attrs name (a ∷ attrs) p = by (text_same a.name name) (removed_attrs name attrs (and_parts (is_head_attr a) (list_all is_head_attr attrs) p).1)
  where
    by : (b : Bool) → list_all is_head_attr (attr_removed name attrs) ≡ true → list_all is_head_attr (if b then attrs else a ∷ attr_removed name attrs) ≡ true
    by true q = (and_parts (is_head_attr a) (list_all is_head_attr attrs) p).1
    by false q = and_from (is_head_attr a) (list_all is_head_attr (attr_removed name attrs)) (and_parts (is_head_attr a) (list_all is_head_attr attrs) p).0 q

added_attrs : (kept : Option ℕ) (a : Attr) (attrs : List Attr) → is_head_attr a ≡ true → list_all is_head_attr attrs ≡ true → list_all is_head_attr (attr_added kept a attrs) ≡ true
added_attrs None a attrs one p = each-append is_head_attr attrs (a ∷ []) p (and_from (is_head_attr a) true one refl)
added_attrs (Some at) a attrs one p =
    each-append is_head_attr (take at attrs) (a ∷ drop at attrs) (each-take is_head_attr at attrs p)
    (and_from (is_head_attr a) (list_all is_head_attr (drop at attrs)) one (each-drop is_head_attr at attrs p))

replaced_attrs : (name value : List ℕ) (attrs : List Attr) → is_head_attr (record { name = name; value = value }) ≡ true → list_all is_head_attr attrs ≡ true →
    list_all is_head_attr (attr_replaced name value attrs) ≡ true
replaced_attrs name value [] one p = refl
replaced_attrs name value (a ∷ attrs) one p = by (text_same a.name name) refl (replaced_attrs name value attrs one (and_parts (is_head_attr a) (list_all is_head_attr attrs) p).1)
  where
    by : (b : Bool) → text_same a.name name ≡ b → list_all is_head_attr (attr_replaced name value attrs) ≡ true →
        list_all is_head_attr (if b then record { name = a.name; value = value } ∷ attrs else a ∷ attr_replaced name value attrs) ≡ true
    by true e q =
        and_from (is_head_attr (record { name = a.name; value = value })) (list_all is_head_attr attrs)
        (subst (λ n. is_head_attr (record { name = n; value = value }) ≡ true) (sym (Means-text_same.equal a.name name e)) one) (and_parts (is_head_attr a) (list_all is_head_attr attrs) p).1
    by false e q = and_from (is_head_attr a) (list_all is_head_attr (attr_replaced name value attrs)) (and_parts (is_head_attr a) (list_all is_head_attr attrs) p).0 q

-- a name that is not reserved says nothing of the whole
pub free_attr : (a : Attr) → is_reserved a.name ≡ false → is_attr a ≡ true → is_head_attr a ≡ true
free_attr a free h = and_from (is_attr a) (not (holds_whole a)) h (ap not (by (text_same a.name (codes "about")) (text_same a.name (codes "typeof")) _ free))
  where
    by : (about typed whole : Bool) → (about || typed) ≡ false → (about || (typed && whole)) ≡ false
    by false false whole e = refl
    by true typed whole e = cc
    by false true whole e = cc

pub free_heads : (attrs : List Attr) → list_all is_attr attrs ≡ true → are_free attrs ≡ true → list_all is_head_attr attrs ≡ true
free_heads [] p h = refl
free_heads (a ∷ attrs) p h =
    let q = and_parts (is_attr a) (list_all is_attr attrs) p in
    let r = neither (is_reserved a.name) (list_any (λ (b : Attr). is_reserved b.name) attrs) h in
    and_from (is_head_attr a) (list_all is_head_attr attrs) (free_attr a (not-true (is_reserved a.name) r.0) q.0) (free_heads attrs q.1 r.1)

exact_heads : (attrs : List Attr) → list_all is_attr attrs ≡ true → are_allowed true attrs ≡ true → list_all is_head_attr attrs ≡ true
exact_heads [] p h = refl
exact_heads (a ∷ attrs) p h =
    let q = and_parts (is_attr a) (list_all is_attr attrs) p in
    let r = neither (holds_whole a) (list_any holds_whole attrs) h in
    and_from (is_head_attr a) (list_all is_head_attr attrs) (and_from (is_attr a) (not (holds_whole a)) q.0 r.0) (exact_heads attrs q.1 r.1)

pub heads_allowed : (attrs : List Attr) → list_all is_head_attr attrs ≡ true → are_allowed true attrs ≡ true
heads_allowed [] p = refl
heads_allowed (a ∷ attrs) p =
    let q = and_parts (is_head_attr a) (list_all is_head_attr attrs) p in
    both (holds_whole a) (list_any holds_whole attrs) (and_parts (is_attr a) (not (holds_whole a)) q.0).1 (heads_allowed attrs q.1)
  where
    both : (b c : Bool) → not b ≡ true → not c ≡ true → not (b || c) ≡ true
    both true c h k = cc
    both false c h k = k

pub allowed_heads : (exact : Bool) (attrs : List Attr) → list_all is_attr attrs ≡ true → are_allowed exact attrs ≡ true → list_all is_head_attr attrs ≡ true
allowed_heads true attrs p h = exact_heads attrs p h
allowed_heads false attrs p h = free_heads attrs p h

changed_attrs : (name : List ℕ) (kept : Option ℕ) (from to : Option (List ℕ)) (attrs : List Attr) → is_reserved name ≡ false → AttrsPass is_attr (attr_of name to) →
    list_all is_head_attr attrs ≡ true → list_all is_head_attr (attrs_changed name kept from to attrs) ≡ true
changed_attrs name kept None None attrs free set p = p
changed_attrs name kept None (Some value) attrs free set p = added_attrs kept (record { name = name; value = value }) attrs (free_attr (record { name = name; value = value }) free set.0) p
changed_attrs name kept (Some old) (Some value) attrs free set p = replaced_attrs name value attrs (free_attr (record { name = name; value = value }) free set.0) p
changed_attrs name kept (Some old) None attrs free set p = removed_attrs name attrs p

had_attr : (name : List ℕ) (attrs : List Attr) → list_all is_head_attr attrs ≡ true → AttrsPass is_attr (attr_of name (value_of name attrs))
had_attr name [] p = tt
had_attr name (a ∷ attrs) p = by (text_same a.name name) refl (had_attr name attrs (and_parts (is_head_attr a) (list_all is_head_attr attrs) p).1)
  where
    by : (b : Bool) → text_same a.name name ≡ b → AttrsPass is_attr (attr_of name (value_of name attrs)) → AttrsPass is_attr (attr_of name (if b then Some a.value else value_of name attrs))
    by true e q =
        let one = (and_parts (is_attr a) (not (holds_whole a)) (and_parts (is_head_attr a) (list_all is_head_attr attrs) p).0).0 in
        (subst (λ n. is_attr (record { name = n; value = a.value }) ≡ true) (Means-text_same.equal a.name name e) one, tt)
    by false e q = q

-- ---- kinds

pub element_outer : (k : Kind) → is_element k ≡ true → is_outer k ≡ true
element_outer Root e = cc
element_outer InternalItem e = cc
element_outer InternalList e = cc
element_outer _ e = refl

-- of a content branch: it is an element, and no leaf
pub branch_kind : (k : Kind) → is_content_branch k ≡ true → (is_element k ≡ true) × (is_inline_leaf k ≡ false)
branch_kind P e = (refl, refl)
branch_kind H1 e = (refl, refl)
branch_kind H2 e = (refl, refl)
branch_kind H3 e = (refl, refl)
branch_kind H4 e = (refl, refl)
branch_kind H5 e = (refl, refl)
branch_kind H6 e = (refl, refl)
branch_kind Pre e = (refl, refl)
branch_kind _ e = cc

-- ---- openings

pub record OpeningParts (kind : Kind) (head : Head) (marks : List Mark) (pre : List ℕ) (origin : Option ℕ) (generated : Bool) : Type 0 where
  pub own : is_element kind ≡ true → is_plain_head head ≡ true
  pub white : is_whitespace pre ≡ true
  pub may : may_open kind marks pre ≡ true
  pub known : is_origin origin ≡ true
  pub made : (not generated || kind_same kind P) ≡ true

module _ (kind : Kind) (head : Head) (marks : List Mark) (pre : List ℕ) (origin : Option ℕ) (generated : Bool) where
  abbrev own_head : Bool
  own_head = not (is_element kind) || is_plain_head head

  abbrev made_so : Bool
  made_so = not generated || kind_same kind P

  abbrev as_outer : Bool
  as_outer = own_head && is_whitespace pre && may_open kind marks pre && is_origin origin && made_so

  pub opening_writes : are_marks marks ≡ true → (is_outer kind ≡ true → OpeningParts kind head marks pre origin generated) → Writes (Opening kind head marks pre origin generated)
  opening_writes m h = and_from (are_marks marks) (not (is_outer kind) || as_outer) m (unless (is_outer kind) as_outer (λ outer.
      let p = h outer in
      and_from (own_head && is_whitespace pre && may_open kind marks pre && is_origin origin) made_so
      (and_from (own_head && is_whitespace pre && may_open kind marks pre) (is_origin origin)
      (and_from (own_head && is_whitespace pre) (may_open kind marks pre)
      (and_from own_head (is_whitespace pre) (unless (is_element kind) (is_plain_head head) p.own) p.white) p.may) p.known) p.made))

  pub opening_marks : Writes (Opening kind head marks pre origin generated) → are_marks marks ≡ true
  opening_marks h = (and_parts (are_marks marks) (not (is_outer kind) || as_outer) h).0

  pub opening_parts : Writes (Opening kind head marks pre origin generated) → is_outer kind ≡ true → OpeningParts kind head marks pre origin generated
  opening_parts h outer =
      let whole = holds_then (is_outer kind) as_outer (and_parts (are_marks marks) (not (is_outer kind) || as_outer) h).1 outer in
      let a = and_parts (own_head && is_whitespace pre && may_open kind marks pre && is_origin origin) made_so whole in
      let b = and_parts (own_head && is_whitespace pre && may_open kind marks pre) (is_origin origin) a.0 in
      let c = and_parts (own_head && is_whitespace pre) (may_open kind marks pre) b.0 in
      let d = and_parts own_head (is_whitespace pre) c.0 in
      record { own = holds_then (is_element kind) (is_plain_head head) d.0; white = d.1; may = c.1; known = b.1; made = a.1 }

pub plain : (attrs : List Attr) → list_all is_head_attr attrs ≡ true → is_plain_head (plain_head attrs) ≡ true
plain attrs p = and_from (head_same (plain_head attrs) (plain_head attrs)) (list_all is_head_attr attrs) (Means-head_same.itself (plain_head attrs)) p

no_white : is_whitespace [] ≡ true
no_white = refl

opens_free : (kind : Kind) → may_open kind [] [] ≡ true
opens_free kind = elim (is_inline_leaf kind) as (λ b. (if b then is_empty {A = ℕ} [] else is_empty {A = Mark} []) ≡ true) [ true ↦ refl | false ↦ refl ]

pub plain_writes : (kind : Kind) (attrs : List Attr) → (is_element kind ≡ true → list_all is_head_attr attrs ≡ true) → Writes (opening_of kind attrs)
plain_writes kind attrs h =
    opening_writes kind (plain_head attrs) [] [] None false refl
    (λ outer. record { own = λ e. plain attrs (h e); white = no_white; may = opens_free kind; known = refl; made = refl })

head_attrs : (head : Head) → is_plain_head head ≡ true → list_all is_head_attr head.attrs ≡ true
head_attrs head h = (and_parts (head_same head (plain_head head.attrs)) (list_all is_head_attr head.attrs) h).1

pub closing_passes : (kind : Kind) (pre : List ℕ) → is_whitespace pre ≡ true → may_close kind pre ≡ true → Writes (Closing kind pre)
closing_passes kind pre w m = either_true (not (is_outer kind)) (is_whitespace pre && may_close kind pre) (and_from (is_whitespace pre) (may_close kind pre) w m)

pub closing_writes : (kind : Kind) → Writes (closing_of kind)
closing_writes kind = closing_passes kind [] no_white refl

pub closing_for_writes : (item : PlainItem) → Writes item → Writes (closing_for item)
closing_for_writes (Char c marks) h = h
closing_for_writes (Opening kind head marks pre origin generated) h = closing_writes kind
closing_for_writes (Closing kind pre) h = h

pub copy_writes : (item : PlainItem) → Writes item → Writes (copy_of item)
copy_writes (Char c marks) h = h
copy_writes (Opening kind head marks pre origin generated) h =
    plain_writes kind (attr_removed (codes "id") head.attrs)
    (λ e. removed_attrs (codes "id") head.attrs (head_attrs head ((opening_parts kind head marks pre origin generated h (element_outer kind e)).own e)))
copy_writes (Closing kind pre) h = h

-- a content branch that is given another kind
pub converted_writes : (old kind : Kind) (head : Head) (marks : List Mark) (pre : List ℕ) (origin : Option ℕ) (generated : Bool) → is_content_branch old ≡ true → is_content_branch kind ≡ true →
    Writes (Opening old head marks pre origin generated) → Writes (Opening kind head marks pre None false)
converted_writes old kind head marks pre origin generated a b h =
    let was = branch_kind old a in
    let now = branch_kind kind b in
    let p = opening_parts old head marks pre origin generated h (element_outer old was.0) in
    let may : may_open kind marks pre ≡ true =
    ap (λ c. if c then is_empty pre else is_empty marks) now.1 ∙ sym (ap (λ c. if c then is_empty pre else is_empty marks) was.1) ∙ p.may in
    opening_writes kind head marks pre None false (opening_marks old head marks pre origin generated h) (λ outer. record { own = λ e. p.own was.0; white = p.white; may = may; known = refl; made = refl })

-- ---- marks

pub with_marks : (m : Mark) (marks : List Mark) → is_writable_mark m ≡ true → are_marks marks ≡ true → are_marks (with_mark m marks) ≡ true
with_marks m marks one p = by (has_mark m marks)
  where
    by : (b : Bool) → are_marks (if b then marks else marks ++ m ∷ []) ≡ true
    by true = p
    by false = each-append is_writable_mark marks (m ∷ []) p (and_from (is_writable_mark m) true one refl)

pub without_marks : (m : Mark) (marks : List Mark) → are_marks marks ≡ true → are_marks (without_mark m marks) ≡ true
without_marks m [] p = refl
without_marks m (one ∷ marks) p = by (not (mark_same m one)) (without_marks m marks (and_parts (is_writable_mark one) (are_marks marks) p).1)
  where
    by : (b : Bool) → are_marks (without_mark m marks) ≡ true → are_marks (Rattle.std.proofs.Common.cond b (one ∷ without_mark m marks) (without_mark m marks)) ≡ true
    by true q = and_from (is_writable_mark one) (are_marks (without_mark m marks)) (and_parts (is_writable_mark one) (are_marks marks) p).0 q
    by false q = q

pub remarked_writes : (f : List Mark → List Mark) → ((marks : List Mark) → are_marks marks ≡ true → are_marks (f marks) ≡ true) → (item : PlainItem) → Writes item → Writes (remarked f item)
remarked_writes f keeps (Char c marks) h =
    let p = and_parts (is_text (c ∷ [])) (are_marks marks) h in and_from (is_text (c ∷ [])) (are_marks (f marks)) p.0 (keeps marks p.1)
remarked_writes f keeps (Opening kind head marks pre origin generated) h =
    opening_writes kind head (if is_inline_leaf kind then f marks else marks) pre origin generated (marked (is_inline_leaf kind) (opening_marks kind head marks pre origin generated h)) (λ outer.
    let p = opening_parts kind head marks pre origin generated h outer in
    record { own = p.own; white = p.white; may = opens (is_inline_leaf kind) p.may; known = p.known; made = p.made })
  where
    marked : (b : Bool) → are_marks marks ≡ true → are_marks (if b then f marks else marks) ≡ true
    marked true m = keeps marks m
    marked false m = m

    opens : (b : Bool) → (if b then is_empty pre else is_empty marks) ≡ true → (if b then is_empty pre else is_empty (if b then f marks else marks)) ≡ true
    opens true may = may
    opens false may = may
remarked_writes f keeps (Closing kind pre) h = h

-- ---- an attribute set

changed_head : (head : Head) (attrs : List Attr) → is_plain_head head ≡ true → list_all is_head_attr attrs ≡ true →
    is_plain_head (record { tag = head.tag; attrs = attrs; raw = head.raw; reference = head.reference; owner = head.owner }) ≡ true
changed_head head attrs h p =
    let q = and_parts (head_same head (plain_head head.attrs)) (list_all is_head_attr head.attrs) h in
    let same : head ≡ plain_head head.attrs = Means-head_same.equal head (plain_head head.attrs) q.0 in
    let with : Head → Head = λ (k : Head). record { tag = k.tag; attrs = attrs; raw = k.raw; reference = k.reference; owner = k.owner } in
    subst (λ (k : Head). is_plain_head (with k) ≡ true) (sym same) (plain attrs p)

abbrev Allowed : AttrChange → Kind → Head → Bool
Allowed c kind head = option_same text_same (value_of c.name head.attrs) c.from && not (is_reserved c.name)

stays : (c : AttrChange) (item : PlainItem) → allows c item ≡ true → AttrsPass is_attr (attr_of c.name c.to) → Writes item → Writes (item_changed c item)
stays c (Char ch marks) h set p = cc
stays c (Closing kind pre) h set p = cc
stays c (Opening kind head marks pre origin generated) h set p =
    let q = and_parts (is_element kind) (Allowed c kind head) h in
    let unreserved = not-true (is_reserved c.name) (and_parts (option_same text_same (value_of c.name head.attrs) c.from) (not (is_reserved c.name)) q.1).1 in
    let was = opening_parts kind head marks pre origin generated p (element_outer kind q.0) in
    let own = was.own q.0 in
    let attrs = changed_attrs c.name c.kept c.from c.to head.attrs unreserved set (head_attrs head own) in
    opening_writes kind (record { tag = head.tag; attrs = attrs_changed c.name c.kept c.from c.to head.attrs; raw = head.raw; reference = head.reference; owner = head.owner }) marks pre origin generated
    (opening_marks kind head marks pre origin generated p) (λ outer. record { own = λ e. changed_head head (attrs_changed c.name c.kept c.from c.to head.attrs) own attrs; white = was.white; may = was.may; known = was.known; made = was.made })

had : (c : AttrChange) (item : PlainItem) → allows c item ≡ true → Writes item → AttrsPass is_attr (attr_of c.name c.from)
had c (Char ch marks) h p = cc
had c (Closing kind pre) h p = cc
had c (Opening kind head marks pre origin generated) h p =
    let q = and_parts (is_element kind) (Allowed c kind head) h in
    let same = (and_parts (option_same text_same (value_of c.name head.attrs) c.from) (not (is_reserved c.name)) q.1).0 in
    let equal : value_of c.name head.attrs ≡ c.from = (Means-option_same text_same Means-text_same).equal (value_of c.name head.attrs) c.from same in
    let was = opening_parts kind head marks pre origin generated p (element_outer kind q.0) in
    subst (λ v. AttrsPass is_attr (attr_of c.name v)) equal (had_attr c.name head.attrs (head_attrs head (was.own q.0)))

pub setting_writes : SettingKeeps is_writable is_attr
setting_writes = record { stays = stays; was = had }
