-- The bodies that the references at the positions of a node carry.
use Rattle.std.proofs.Common.{◌≡◌, ℕ, zero, suc, ◌+◌, ◌-◌, ◌≤◌, Bool, true, false, List, [], ◌∷◌, ◌++◌, take, drop, refl, sym, ap, ◌∙◌, arith, subst, eq-eqb}
use Rattle.std.specs.Prelude.{slice_get, Option, Some, None, option_map, if◌then◌else◌, ◌||◌}
use Rattle.std.specs.List.{list_any, slice_range}
use Rattle.std.proofs.Math.Seq.{take-add}
use Rattle.std.proofs.lemmas.List.{take-take}
use Rattle.std.proofs.lemmas.List.Folds.{list_any-append}
use Rattle.ve_kinds.specs.declared.kind.Kind.TheVariants.{Ref}
use Rattle.ve_kinds.specs.Table.{kind_same}
use Rattle.ve_base.specs.declared.head.RefKey.{RefKey}
use Rattle.model_items.specs.declared.plain_item.PlainItem.{PlainItem}
use Rattle.model_items.specs.declared.plain_item.PlainItem.TheVariants.{Char, Opening, Closing}
use Rattle.model_page.specs.References.{RefAt, ref_at, refs_of, place_of_body, table}
use Rattle.model_page_write.specs.Nodes.{body_carried}
use Rattle.model_page_write.specs.PageText.{item_without_pre}
use Rattle.ve_origin.specs.Kept.{opens_notes}
use Rattle.ve_origin.specs.Rows.{carried_place, carried_at}
use Rattle.ve_origin.specs.Without.{first_plain}
use Rattle.ve_origin.proofs.ReferLemmas.{own_refs, ref_in, ref_here, RefThere, own_there, find_row, place_there, body_there}
use Rattle.ve_origin.proofs.SplitLemmas.{body_for, for_without}
use Rattle.ve_origin.proofs.ValueLemmas.{IsInside}

-- ---- no internal list

or_parts : (a b : Bool) → (a || b) ≡ false → (a ≡ false) × (b ≡ false)
or_parts false b h = (refl, h)
or_parts true b h = absurd cc

any_take : (n : ℕ) (xs : List PlainItem) → list_any opens_notes xs ≡ false → list_any opens_notes (take n xs) ≡ false
any_take zero xs h = refl
any_take (suc n) [] h = refl
any_take (suc n) (x ∷ xs) h = let p = or_parts (opens_notes x) (list_any opens_notes xs) h in rw p.0 (any_take n xs p.1)

any_drop : (n : ℕ) (xs : List PlainItem) → list_any opens_notes xs ≡ false → list_any opens_notes (drop n xs) ≡ false
any_drop zero xs h = h
any_drop (suc n) [] h = refl
any_drop (suc n) (x ∷ xs) h = any_drop n xs (or_parts (opens_notes x) (list_any opens_notes xs) h).1

notes_without : (x : PlainItem) → opens_notes (item_without_pre x) ≡ opens_notes x
notes_without (Char c marks) = refl
notes_without (Closing kind pre) = refl
notes_without (Opening kind head marks pre origin generated) = refl

notes_first : (xs : List PlainItem) → list_any opens_notes (first_plain xs) ≡ list_any opens_notes xs
notes_first [] = refl
notes_first (x ∷ xs) = ap (λ b. b || list_any opens_notes xs) (notes_without x)

range_take : (xs : List PlainItem) (from n : ℕ) → take (from + n) xs ≡ take from xs ++ slice_range xs from (from + n)
range_take xs from n = take-add from n xs ∙ ap (λ m. take from xs ++ take m (drop from xs)) (let e : n ≡ from + n - from = omega arith in e)

-- none opens up to a node's end, where none opens before the node and none in one that has the same
-- items
pub none_opens : (xs ys : List PlainItem) (from a n : ℕ) → list_any opens_notes (take from xs) ≡ false → list_any opens_notes (take (a + n) ys) ≡ false →
    first_plain (slice_range xs from (from + n)) ≡ first_plain (slice_range ys a (a + n)) → list_any opens_notes (take (from + n) xs) ≡ false
none_opens xs ys from a n before other same =
    let there : (list_any opens_notes (take a ys) || list_any opens_notes (slice_range ys a (a + n))) ≡ false =
    sym (ap (list_any opens_notes) (range_take ys a n) ∙ list_any-append opens_notes (take a ys) (slice_range ys a (a + n))) ∙ other in
    let here : list_any opens_notes (slice_range xs from (from + n)) ≡ false =
    sym (notes_first (slice_range xs from (from + n))) ∙ ap (list_any opens_notes) same ∙ notes_first (slice_range ys a (a + n)) ∙ (or_parts _ _ there).1 in
    ap (list_any opens_notes) (range_take xs from n) ∙ list_any-append opens_notes (take from xs) (slice_range xs from (from + n)) ∙ both _ _ before here
  where
    both : (a b : Bool) → a ≡ false → b ≡ false → (a || b) ≡ false
    both true b h k = h
    both false b h k = k

pub none_up_to : (xs : List PlainItem) (n p : ℕ) → p ≤ n → list_any opens_notes (take n xs) ≡ false → list_any opens_notes (take p xs) ≡ false
none_up_to xs n p le h = ap (list_any opens_notes) (sym (take-take p n xs le)) ∙ any_take p (take n xs) h

-- ---- one position

own_without : (at : ℕ) (inside : Bool) (x : PlainItem) → own_refs at inside (item_without_pre x) ≡ own_refs at inside x
own_without at inside (Char c marks) = refl
own_without at inside (Closing kind pre) = refl
own_without at inside (Opening kind head marks pre origin generated) = refl

-- the reference at a position of a list, where the internal list opens past it
there : (xs : List PlainItem) (p : ℕ) (x : PlainItem) → slice_get xs p ≡ Some x → list_any opens_notes (take p xs) ≡ false → ref_in p (refs_of xs) ≡ ref_in p (own_refs p false x)
there xs p x e h =
    let z : 0 + p ≡ p = omega arith in
    ap (λ n. ref_in n (refs_of xs)) (sym z) ∙ ref_here 0 p false xs x e h ∙ ap (λ n. ref_in n (own_refs n false x)) z

pub ref_there : (xs : List PlainItem) (p : ℕ) (x : PlainItem) → slice_get xs p ≡ Some x → list_any opens_notes (take p xs) ≡ false → RefThere (ref_in p (refs_of xs))
ref_there xs p x e h = subst RefThere (sym (there xs p x e h)) (own_there p x)

-- the body of an item, by the table
pub place_for : (xs : List PlainItem) (p : ℕ) (x y : PlainItem) → slice_get xs p ≡ Some x → item_without_pre x ≡ item_without_pre y → list_any opens_notes (take p xs) ≡ false →
    place_of_body (body_for (body_carried xs p) y) ≡ carried_at (table xs) p
place_for xs p x y e same h =
    ap place_of_body (sym (for_without (body_carried xs p) y) ∙ ap (body_for (body_carried xs p)) (sym same) ∙ for_without (body_carried xs p) x) ∙ by x e
  where
    by : (x : PlainItem) → slice_get xs p ≡ Some x → place_of_body (body_for (body_carried xs p) x) ≡ carried_at (table xs) p
    by (Char c marks) f = sym (ap carried_place (find_row xs p (refs_of xs) ∙ ap (option_map _) (there xs p _ f h)))
    by (Closing kind pre) f = sym (ap carried_place (find_row xs p (refs_of xs) ∙ ap (option_map _) (there xs p _ f h)))
    by (Opening kind head marks pre origin generated) f = sym (place_there xs p (ref_there xs p _ f h))

pub inside_for : (xs : List PlainItem) (p : ℕ) (y : PlainItem) → IsInside xs (body_for (body_carried xs p) y)
inside_for xs p (Char c marks) b e = cc
inside_for xs p (Closing kind pre) b e = cc
inside_for xs p (Opening kind head marks pre origin generated) b e = body_there xs p b e

-- where no reference stands in the one list, none stands in the other at the position of an item
-- that differs in its whitespace alone
own_none : (p q : ℕ) (x : PlainItem) → ref_in p (own_refs p false x) ≡ None → ref_in q (own_refs q false x) ≡ None
own_none p q (Char c marks) e = refl
own_none p q (Closing kind pre) e = refl
own_none p q (Opening kind head marks pre origin generated) e = cases (kind_same kind Ref) head.reference e
  where
    cases : (b : Bool) (key : Option RefKey) → ref_in p (if b then ref_at p false head.owner key else []) ≡ None → ref_in q (if b then ref_at q false head.owner key else []) ≡ None
    cases false key h = refl
    cases true None h = refl
    cases true (Some key) h =
        let r : RefAt = record { at = p; key = key; owner = head.owner; inside = false } in
        let f : ref_in p (r ∷ []) ≡ Some r = rw (eq-eqb p p refl) refl in
        let g : None ≡ Some r = sym h ∙ f in
        absurd cc

pub none_either : (xs ys : List PlainItem) (p q : ℕ) (x y : PlainItem) → slice_get xs p ≡ Some x → slice_get ys q ≡ Some y → item_without_pre x ≡ item_without_pre y →
    list_any opens_notes (take p xs) ≡ false → list_any opens_notes (take q ys) ≡ false → ref_in p (refs_of xs) ≡ None → ref_in q (refs_of ys) ≡ None
none_either xs ys p q x y e f same h k none =
    let here : ref_in q (own_refs q false x) ≡ None = own_none p q x (sym (there xs p x e h) ∙ none) in
    there ys q y f k ∙ ap (ref_in q) (sym (own_without q false y) ∙ ap (own_refs q false) (sym same) ∙ own_without q false x) ∙ here
