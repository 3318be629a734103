-- The references and the bodies of a list with one more item.
use Rattle.std.proofs.Common.{◌≡◌, ℕ, suc, ◌+◌, Bool, true, false, ◌&&◌, ◌||◌, List, [], ◌∷◌, ◌++◌, length, refl, sym, ap, ◌∙◌, arith}
use Rattle.std.specs.Prelude.{Option, Some, None, if◌then◌else◌}
use Rattle.std.specs.Option.{option_or}
use Rattle.ve_kinds.specs.declared.kind.Kind.TheVariants.{InternalItem, InternalList, Ref}
use Rattle.ve_kinds.specs.Table.{kind_same}
use Rattle.ve_base.specs.declared.head.RefKey.{RefKey}
use Rattle.model_items.specs.declared.plain_item.PlainItem.{PlainItem}
use Rattle.model_items.specs.declared.plain_item.PlainItem.TheVariants.{Char, Opening, Closing}
use Rattle.model_items.specs.Same.{ref_key_same, option_same}
use Rattle.model_page.specs.References.{RefAt, Body, ref_at, refs_from, refs_of, body_from, body_after, body_of, place_of_body}
use Rattle.ve_internal.specs.Noted.{place_if}

-- the reference that an item is, if it is one
abbrev pub own_refs : ℕ → Bool → PlainItem → List RefAt
own_refs at inside (Char c marks) = []
own_refs at inside (Closing kind pre) = []
own_refs at inside (Opening kind head marks pre origin generated) = if kind_same kind Ref then ref_at at inside head.owner head.reference else []

-- whether the internal list opened, before the items or in them
abbrev pub inside_after : Bool → List PlainItem → Bool
inside_after inside [] = inside
inside_after inside (Char c marks ∷ items) = inside_after inside items
inside_after inside (Closing kind pre ∷ items) = inside_after inside items
inside_after inside (Opening kind head marks pre origin generated ∷ items) = inside_after (inside || kind_same kind InternalList) items

-- the item opens the body of the key
abbrev pub opens_body : RefKey → PlainItem → Bool
opens_body key (Char c marks) = false
opens_body key (Closing kind pre) = false
opens_body key (Opening kind head marks pre origin generated) = kind_same kind InternalItem && option_same ref_key_same head.reference (Some key)

append_nil_own : (refs : List RefAt) → refs ++ [] ≡ refs
append_nil_own [] = refl
append_nil_own (r ∷ refs) = ap (λ rs. r ∷ rs) (append_nil_own refs)

one_item : (at : ℕ) (inside : Bool) (x : PlainItem) → refs_from at inside (x ∷ []) ≡ own_refs at inside x
one_item at inside (Char c marks) = refl
one_item at inside (Closing kind pre) = refl
one_item at inside (Opening kind head marks pre origin generated) = append_nil_own _

-- positions after a first item
place_after : (at n : ℕ) → suc at + n ≡ at + suc n
place_after at n = omega arith

refs_more_from : (at : ℕ) (inside : Bool) (items : List PlainItem) (x : PlainItem) →
    refs_from at inside (items ++ x ∷ []) ≡ refs_from at inside items ++ own_refs (at + length items) (inside_after inside items) x
refs_more_from at inside [] x = one_item at inside x ∙ ap (λ n. own_refs n inside x) (let e : at ≡ at + 0 = omega arith in e)
refs_more_from at inside (Char c marks ∷ items) x =
    refs_more_from (suc at) inside items x
    ∙ ap (λ n. refs_from (suc at) inside items ++ own_refs n (inside_after inside items) x) (place_after at (length items))
refs_more_from at inside (Closing kind pre ∷ items) x =
    refs_more_from (suc at) inside items x
    ∙ ap (λ n. refs_from (suc at) inside items ++ own_refs n (inside_after inside items) x) (place_after at (length items))
refs_more_from at inside (Opening kind head marks pre origin generated ∷ items) x =
    let within = inside || kind_same kind InternalList in
    let own = own_refs at inside (Opening kind head marks pre origin generated) in
    ap (λ rs. own ++ rs) (refs_more_from (suc at) within items x ∙ ap (λ n. refs_from (suc at) within items ++ own_refs n (inside_after within items) x) (place_after at (length items)))
    ∙ sym (joined own (refs_from (suc at) within items) (own_refs (at + suc (length items)) (inside_after within items) x))
  where
    joined : (xs ys zs : List RefAt) → (xs ++ ys) ++ zs ≡ xs ++ (ys ++ zs)
    joined [] ys zs = refl
    joined (x ∷ xs) ys zs = ap (λ rs. x ∷ rs) (joined xs ys zs)

-- the references of a list with one more item
pub refs_more : (items : List PlainItem) (x : PlainItem) → refs_of (items ++ x ∷ []) ≡ refs_of items ++ own_refs (length items) (inside_after false items) x
refs_more items x = refs_more_from 0 false items x ∙ ap (λ n. refs_of items ++ own_refs n (inside_after false items) x) (let e : 0 + length items ≡ length items = omega arith in e)

own_body : (at : ℕ) (key : RefKey) (x : PlainItem) → place_of_body (body_from at key (x ∷ [])) ≡ place_if (opens_body key x) at
own_body at key (Char c marks) = refl
own_body at key (Closing kind pre) = refl
own_body at key (Opening kind head marks pre origin generated) = cases (kind_same kind InternalItem && option_same ref_key_same head.reference (Some key))
  where
    cases : (b : Bool) → place_of_body (if b then Some (record { at = at; items = []; pre = [] }) else None) ≡ place_if b at
    cases true = refl
    cases false = refl

body_more_from : (at : ℕ) (key : RefKey) (items : List PlainItem) (x : PlainItem) →
    place_of_body (body_from at key (items ++ x ∷ [])) ≡ option_or (place_of_body (body_from at key items)) (place_if (opens_body key x) (at + length items))
body_more_from at key [] x = own_body at key x ∙ ap (place_if (opens_body key x)) (let e : at ≡ at + 0 = omega arith in e)
body_more_from at key (Char c marks ∷ items) x =
    body_more_from (suc at) key items x
    ∙ ap (λ n. option_or (place_of_body (body_from (suc at) key items)) (place_if (opens_body key x) n)) (place_after at (length items))
body_more_from at key (Closing kind pre ∷ items) x =
    body_more_from (suc at) key items x
    ∙ ap (λ n. option_or (place_of_body (body_from (suc at) key items)) (place_if (opens_body key x) n)) (place_after at (length items))
body_more_from at key (Opening kind head marks pre origin generated ∷ items) x =
    cases (kind_same kind InternalItem && option_same ref_key_same head.reference (Some key)) (body_after at (items ++ x ∷ [])) (body_after at items) _ _ refl
    (body_more_from (suc at) key items x
    ∙ ap (λ n. option_or (place_of_body (body_from (suc at) key items)) (place_if (opens_body key x) n)) (place_after at (length items)))
  where
    cases : (b : Bool) (here there : Body) (e f : Option Body) → here.at ≡ there.at →
        place_of_body e ≡ option_or (place_of_body f) (place_if (opens_body key x) (at + suc (length items))) →
        place_of_body (if b then Some here else e) ≡ option_or (place_of_body (if b then Some there else f)) (place_if (opens_body key x) (at + suc (length items)))
    cases true here there e f p h = ap Some p
    cases false here there e f p h = h

-- the position of a key's body in a list with one more item
pub body_more : (key : RefKey) (items : List PlainItem) (x : PlainItem) →
    place_of_body (body_of key (items ++ x ∷ [])) ≡ option_or (place_of_body (body_of key items)) (place_if (opens_body key x) (length items))
body_more key items x = body_more_from 0 key items x ∙ ap (λ n. option_or (place_of_body (body_of key items)) (place_if (opens_body key x) n)) (let e : 0 + length items ≡ length items = omega arith in e)
