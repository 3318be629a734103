-- Where the internal list opens, and which references stand in it.
use Rattle.std.proofs.Common.{◌≡◌, ℕ, suc, ◌+◌, ◌<◌, ◌≤◌, ◌==◌, Bool, true, false, List, [], ◌∷◌, ◌++◌, length, drop, drop-drop, refl, sym, ap, ◌∙◌, arith, eqb-true, ltb-true, ltb-false, Option, Some, None}
use Rattle.std.specs.Prelude.{nat_lt, ◌||◌, if◌then◌else◌}
use Rattle.std.specs.List.{slice_get, slice_range}
use Rattle.std.specs.Option.{option_or}
use Rattle.std.proofs.lemmas.List.{take-append-drop, length-map, map-append}
use Rattle.std.proofs.lemmas.List.Folds.{find-append}
use Rattle.ve_base.specs.declared.head.RefKey.{RefKey}
use Rattle.ve_base.specs.declared.value.Value.{Value}
use Rattle.ve_kinds.specs.declared.kind.Kind.TheVariants.{Ref}
use Rattle.ve_kinds.specs.Table.{kind_same}
use Rattle.model_items.specs.declared.item.Item.{Item}
use Rattle.model_items.specs.declared.plain_item.PlainItem.{PlainItem}
use Rattle.model_items.specs.declared.plain_item.PlainItem.TheVariants.{Char, Opening, Closing}
use Rattle.model_items.specs.Plain.{plain, plain_list}
use Rattle.model_page.specs.References.{RefAt, ref_at, refs_from}
use Rattle.ve_write.proofs.SiblingLemmas.{found_at}
use Rattle.ve_origin.specs.Kept.{opens_notes}
use Rattle.ve_origin.proofs.AlikeLemmas.{piece_is}
use Rattle.ve_origin.proofs.ReferLemmas.{inside_after, none_before, own_refs, ref_in, refs_first}
use Rattle.ve_write.specs.BodyTexts.{notes_place}

-- ---- the first item that opens it

opens_here : (x : PlainItem) (xs : List PlainItem) → opens_notes x ≡ true → notes_place (x ∷ xs) ≡ 0
opens_here x xs h = rw h refl

opens_later : (x : PlainItem) (xs : List PlainItem) → opens_notes x ≡ false → notes_place (x ∷ xs) ≡ 1 + notes_place xs
opens_later x xs h = rw h refl

pub found_here : (values : List Value) (items : List Item) (at : ℕ) (x : Item) → slice_get items at ≡ Some x → opens_notes (plain values x) ≡ true → notes_place (plain_list values (drop at items)) ≡ 0
found_here values items at x found h = ap (λ l. notes_place (plain_list values l)) (found_at items at x found) ∙ opens_here (plain values x) (plain_list values (drop (at + 1) items)) h

pub found_later : (values : List Value) (items : List Item) (at : ℕ) (x : Item) → slice_get items at ≡ Some x → opens_notes (plain values x) ≡ false →
    notes_place (plain_list values (drop at items)) ≡ 1 + notes_place (plain_list values (drop (at + 1) items))
found_later values items at x found h = ap (λ l. notes_place (plain_list values l)) (found_at items at x found) ∙ opens_later (plain values x) (plain_list values (drop (at + 1) items)) h

pub none_left : (values : List Value) (items : List Item) (at : ℕ) → drop at items ≡ [] → notes_place (plain_list values (drop at items)) ≡ 0
none_left values items at e = ap (λ l. notes_place (plain_list values l)) e

-- ---- in a list whose first items are a piece

lent : (items piece : List Item) (at : ℕ) → piece ≡ slice_range items at (at + length piece) → drop at items ≡ piece ++ drop (at + length piece) items
lent items piece at is =
    sym (take-append-drop (length piece) (drop at items))
    ∙ ap (λ l. l ++ drop (length piece) (drop at items)) (sym (piece_is items piece at is))
    ∙ ap (λ l. piece ++ l) (drop-drop (length piece) at items)

parted : (values : List Value) (items piece : List Item) (at : ℕ) → piece ≡ slice_range items at (at + length piece) →
    notes_place (plain_list values (drop at items)) ≡ notes_place (plain_list values piece ++ plain_list values (drop (at + length piece) items))
parted values items piece at is = ap (λ l. notes_place (plain_list values l)) (lent items piece at is) ∙ ap notes_place (map-append (plain values) piece (drop (at + length piece) items))

first_in : (xs ys : List PlainItem) → notes_place xs < length xs → notes_place (xs ++ ys) ≡ notes_place xs
first_in [] ys less = absurd (omega (arith, less))
first_in (x ∷ xs) ys less = cases (opens_notes x) refl (first_in xs ys)
  where
    cases : (b : Bool) → opens_notes x ≡ b → (notes_place xs < length xs → notes_place (xs ++ ys) ≡ notes_place xs) → notes_place (x ∷ xs ++ ys) ≡ notes_place (x ∷ xs)
    cases true h more = opens_here x (xs ++ ys) h ∙ sym (opens_here x xs h)
    cases false h more = let one = opens_later x xs h in opens_later x (xs ++ ys) h ∙ ap (λ n. 1 + n) (more (omega (arith, one, less))) ∙ sym one

none_in : (xs ys : List PlainItem) → length xs ≤ notes_place xs → notes_place (xs ++ ys) ≡ length xs + notes_place ys
none_in [] ys all = omega arith
none_in (x ∷ xs) ys all = cases (opens_notes x) refl (none_in xs ys)
  where
    cases : (b : Bool) → opens_notes x ≡ b → (length xs ≤ notes_place xs → notes_place (xs ++ ys) ≡ length xs + notes_place ys) → notes_place (x ∷ xs ++ ys) ≡ suc (length xs) + notes_place ys
    cases true h more = let one = opens_here x xs h in absurd (omega (arith, one, all))
    cases false h more =
        let one = opens_later x xs h in
        let both = opens_later x (xs ++ ys) h in
        let rest = more (omega (arith, one, all)) in
        omega (arith, both, rest)

pub found_in : (values : List Value) (items piece : List Item) (at n : ℕ) → piece ≡ slice_range items at (at + length piece) → n ≡ notes_place (plain_list values piece) → n < length piece →
    notes_place (plain_list values (drop at items)) ≡ n
found_in values items piece at n is place less =
    let count = length-map piece (plain values) in
    parted values items piece at is ∙ first_in (plain_list values piece) (plain_list values (drop (at + length piece) items)) (omega (arith, place, less, count)) ∙ sym place

pub not_found_in : (values : List Value) (items piece : List Item) (at n : ℕ) → piece ≡ slice_range items at (at + length piece) → n ≡ notes_place (plain_list values piece) → n ≡ length piece →
    notes_place (plain_list values (drop at items)) ≡ n + notes_place (plain_list values (drop (at + n) items))
not_found_in values items piece at n is place all =
    let count = length-map piece (plain values) in
    parted values items piece at is
    ∙ none_in (plain_list values piece) (plain_list values (drop (at + length piece) items)) (omega (arith, place, all, count))
    ∙ (λ i. (count ∙ sym all) i + notes_place (plain_list values (drop (at + sym all i) items)))

-- ---- references in it

not_less : (m n : ℕ) → n ≤ m → nat_lt m n ≡ false
not_less m n le = cases (nat_lt m n) refl
  where
    cases : (b : Bool) → nat_lt m n ≡ b → b ≡ false
    cases false e = refl
    cases true e = absurd (omega (arith, le, ltb-true m n e))

is_less : (m n : ℕ) → m < n → nat_lt m n ≡ true
is_less m n less = cases (nat_lt m n) refl
  where
    cases : (b : Bool) → nat_lt m n ≡ b → b ≡ true
    cases true e = refl
    cases false e = absurd (omega (arith, less, ltb-false m n e))

-- a reference that an item is
record IsOwn (at p : ℕ) (inside : Bool) (r : RefAt) : Type 0 where
  place : p ≡ at
  stands : r.inside ≡ inside

own_is : (at p : ℕ) (inside : Bool) (x : PlainItem) (r : RefAt) → ref_in p (own_refs at inside x) ≡ Some r → IsOwn at p inside r
own_is at p inside (Char c marks) r e = cc
own_is at p inside (Closing kind pre) r e = cc
own_is at p inside (Opening kind head marks pre origin generated) r e = cases (kind_same kind Ref) head.reference e
  where
    alone : (key : RefKey) (b : Bool) → (at == p) ≡ b → (if b then Some (record { at = at; key = key; owner = head.owner; inside = inside }) else None) ≡ Some r → IsOwn at p inside r
    alone key true same h =
        let is : record { at = at; key = key; owner = head.owner; inside = inside } ≡ r = cc in
        record { place = sym (eqb-true _ _ same); stands = sym (ap (λ (s : RefAt). s.inside) is) }
    alone key false same h = cc

    cases : (b : Bool) (key : Option RefKey) → ref_in p (if b then ref_at at inside head.owner key else []) ≡ Some r → IsOwn at p inside r
    cases false key h = cc
    cases true None h = cc
    cases true (Some key) h = alone key (at == p) refl h

or_true : (a b : Bool) → ((a || true) || b) ≡ (a || true)
or_true true b = refl
or_true false b = refl

or_false : (a b : Bool) → ((a || false) || b) ≡ (a || b)
or_false true b = refl
or_false false b = refl

or_none : (a : Bool) → a ≡ (a || false)
or_none true = refl
or_none false = refl

-- it stands in the internal list where that opens before it
pub inside_is : (at p : ℕ) (inside : Bool) (xs : List PlainItem) (r : RefAt) → ref_in p (refs_from at inside xs) ≡ Some r → r.inside ≡ (inside || nat_lt (at + notes_place xs) p)
inside_is at p inside [] r e = cc
inside_is at p inside (x ∷ xs) r e = first (ref_in p (own_refs at inside x)) refl (λ some. inside_is (suc at) p (inside_after inside x) xs r some)
  where
    split : (o : Option RefAt) → ref_in p (own_refs at inside x) ≡ o → option_or o (ref_in p (refs_from (suc at) (inside_after inside x) xs)) ≡ Some r
    split o is =
        sym (ap (ref_in p) (refs_first at inside x xs) ∙ find-append (λ s. s.at == p) (own_refs at inside x) (refs_from (suc at) (inside_after inside x) xs) ∙ ap (λ o. option_or o (ref_in p (refs_from (suc at) (inside_after inside x) xs))) is) ∙ e

    past : (b : Bool) → nat_lt p (suc at) ≡ b → ref_in p (refs_from (suc at) (inside_after inside x) xs) ≡ Some r → at < p
    past true less some = let none : None ≡ Some r = sym (none_before (suc at) p (inside_after inside x) xs (ltb-true p (suc at) less)) ∙ some in absurd cc
    past false more some = omega (arith, ltb-false p (suc at) more)

    later : (b : Bool) → opens_notes x ≡ b → at < p → r.inside ≡ ((inside || b) || nat_lt (suc at + notes_place xs) p) → r.inside ≡ (inside || nat_lt (at + notes_place (x ∷ xs)) p)
    later true opens less is =
        let here : nat_lt (at + notes_place (x ∷ xs)) p ≡ true = is_less _ p (let z = opens_here x xs opens in omega (arith, z, less)) in
        is ∙ or_true inside _ ∙ ap (λ b. inside || b) (sym here)
    later false opens less is =
        let n : suc at + notes_place xs ≡ at + notes_place (x ∷ xs) = let z = opens_later x xs opens in omega (arith, z) in
        is ∙ or_false inside _ ∙ ap (λ m. inside || nat_lt m p) n

    first : (o : Option RefAt) → ref_in p (own_refs at inside x) ≡ o →
        (ref_in p (refs_from (suc at) (inside_after inside x) xs) ≡ Some r → r.inside ≡ (inside_after inside x || nat_lt (suc at + notes_place xs) p)) → r.inside ≡ (inside || nat_lt (at + notes_place (x ∷ xs)) p)
    first (Some s) is more =
        let same : s ≡ r = let h = split (Some s) is in cc in
        let own = own_is at p inside x r (is ∙ ap Some same) in
        own.stands ∙ or_none inside ∙ ap (λ b. inside || b) (sym (not_less (at + notes_place (x ∷ xs)) p (let z = own.place in omega (arith, z))))
    first None is more =
        let some = split None is in
        later (opens_notes x) refl (past (nat_lt p (suc at)) refl some) (more some)
