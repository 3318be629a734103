-- Filling in the positions changes nothing else; and names stay apart.
use Rattle.std.proofs.Common.{◌≡◌, ℕ, zero, suc, ◌+◌, ◌^◌, nat_le, true, not, ◌&&◌, List, [], ◌∷◌, ◌++◌, length, take, drop, refl, sym, ap, ◌∙◌, subst, append-nil}
use Rattle.model_items.specs.declared.plain_item.PlainItem.{PlainItem}
use Rattle.model_items.specs.declared.plain_item.PlainItem.TheVariants.{Char, Opening, Closing}
use Rattle.model_items.specs.Same.{text_same}
use Rattle.model_change.specs.Attributes.{AttrChange, item_changed, allows, change_filled, change_back, AllNamesApart}
use Rattle.model_change.specs.Transaction.{Op, Retain, Replace, Attribute, Transaction, old_length, all_inserted, total_length, on_first, edited, is_something, may_precede, is_reduced, InsertedApart}
use Rattle.model_change.specs.Fault.{first_allows, Applies, NamesStayApart}
use Rattle.model_change.specs.Inverse.{first_filled, filled, FirstPutsBack, IsRestorable, attribute_ops, inverse_after, inverse, FillingIsNeutral}
use Rattle.model_change.proofs.Fits.{Fits, parts_of_Applies, Applies_from}
use Rattle.model_change.proofs.AttributeLemmas.{item_apart, item_changed-change_filled, change_filled-PutsBack}
use Rattle.model_change.proofs.InverseLemmas.{AllNamesApart-drop}

-- the first item under a filled change
first_same : (c : AttrChange) (items : List PlainItem) → on_first (item_changed (first_filled c items)) items ≡ on_first (item_changed c) items
first_same c [] = refl
first_same c (item ∷ items) = ap (λ x. x ∷ items) (item_changed-change_filled c item)

first_PutsBack : (c : AttrChange) (items : List PlainItem) → first_allows c items ≡ true → FirstPutsBack (first_filled c items) items
first_PutsBack c [] h = tt
first_PutsBack c (item ∷ items) h = change_filled-PutsBack c item h

IsRestorable-filled : (ops : Transaction) (items : List PlainItem) → Fits ops items → IsRestorable (filled ops items) items
IsRestorable-filled [] items fits = tt
IsRestorable-filled (Retain count ∷ ops) items fits = IsRestorable-filled ops (drop count items) fits
IsRestorable-filled (Replace removed inserted ∷ ops) items fits = IsRestorable-filled ops (drop (length removed) items) fits.1
IsRestorable-filled (Attribute c ∷ ops) items fits = (
  first_PutsBack c items fits.0,
  subst (IsRestorable (filled ops (on_first (item_changed c) items))) (sym (first_same c items)) (IsRestorable-filled ops (on_first (item_changed c) items) fits.1),
)

edited-filled : (ops : Transaction) (items : List PlainItem) → edited (filled ops items) items ≡ edited ops items
edited-filled [] items = refl
edited-filled (Retain count ∷ ops) items = ap (λ rest. take count items ++ rest) (edited-filled ops (drop count items))
edited-filled (Replace removed inserted ∷ ops) items = ap (λ rest. inserted ++ rest) (edited-filled ops (drop (length removed) items))
edited-filled (Attribute c ∷ ops) items =
    ap (edited (filled ops (on_first (item_changed c) items))) (first_same c items) ∙ edited-filled ops (on_first (item_changed c) items)

allows-filled : (c : AttrChange) (item : PlainItem) → allows (change_filled c item) item ≡ allows c item
allows-filled c (Char ch marks) = refl
allows-filled c (Opening kind head marks pre origin generated) = refl
allows-filled c (Closing kind pre) = refl

first_allows-filled : (c : AttrChange) (items : List PlainItem) → first_allows (first_filled c items) items ≡ first_allows c items
first_allows-filled c [] = refl
first_allows-filled c (item ∷ items) = allows-filled c item

Fits-filled : (ops : Transaction) (items : List PlainItem) → Fits ops items → Fits (filled ops items) items
Fits-filled [] items fits = tt
Fits-filled (Retain count ∷ ops) items fits = Fits-filled ops (drop count items) fits
Fits-filled (Replace removed inserted ∷ ops) items fits = (fits.0, Fits-filled ops (drop (length removed) items) fits.1)
Fits-filled (Attribute c ∷ ops) items fits = (
  first_allows-filled c items ∙ fits.0,
  subst (Fits (filled ops (on_first (item_changed c) items))) (sym (first_same c items)) (Fits-filled ops (on_first (item_changed c) items) fits.1),
)

old_length-filled : (ops : Transaction) (items : List PlainItem) → old_length (filled ops items) ≡ old_length ops
old_length-filled [] items = refl
old_length-filled (Retain count ∷ ops) items = ap (λ n. count + n) (old_length-filled ops (drop count items))
old_length-filled (Replace removed inserted ∷ ops) items = ap (λ n. length removed + n) (old_length-filled ops (drop (length removed) items))
old_length-filled (Attribute c ∷ ops) items = old_length-filled ops (on_first (item_changed c) items)

-- positions are of no matter to the reduced form

name-first_filled : (c : AttrChange) (items : List PlainItem) → (first_filled c items).name ≡ c.name
name-first_filled c [] = refl
name-first_filled c (item ∷ items) = refl

attribute_precedes-filled : (c : AttrChange) (ops : Transaction) (here items : List PlainItem) →
    may_precede (Attribute (first_filled c here)) (filled ops items) ≡ may_precede (Attribute c) ops
attribute_precedes-filled c [] here items = refl
attribute_precedes-filled c (Retain count ∷ ops) here items = refl
attribute_precedes-filled c (Replace removed inserted ∷ ops) here items = refl
attribute_precedes-filled c (Attribute d ∷ ops) here items =
    let rest = attribute_precedes-filled c ops here (on_first (item_changed d) items) in
    λ i. not (text_same (name-first_filled c here i) (name-first_filled d items i)) && rest i

precedes-filled : (op : Op) (ops : Transaction) (items : List PlainItem) (count : ℕ) → may_precede (Retain count) (filled ops items) ≡ may_precede (Retain count) ops
precedes-filled op [] items count = refl
precedes-filled op (Retain n ∷ ops) items count = refl
precedes-filled op (Replace removed inserted ∷ ops) items count = refl
precedes-filled op (Attribute c ∷ ops) items count = refl

replace_precedes-filled : (removed inserted : List PlainItem) (ops : Transaction) (items : List PlainItem) →
    may_precede (Replace removed inserted) (filled ops items) ≡ may_precede (Replace removed inserted) ops
replace_precedes-filled removed inserted [] items = refl
replace_precedes-filled removed inserted (Retain n ∷ ops) items = refl
replace_precedes-filled removed inserted (Replace r i ∷ ops) items = refl
replace_precedes-filled removed inserted (Attribute c ∷ ops) items = refl

is_reduced-filled : (ops : Transaction) (items : List PlainItem) → is_reduced (filled ops items) ≡ is_reduced ops
is_reduced-filled [] items = refl
is_reduced-filled (Retain count ∷ ops) items =
    λ i. is_something (Retain count) && (precedes-filled (Retain count) ops (drop count items) count i && is_reduced-filled ops (drop count items) i)
is_reduced-filled (Replace removed inserted ∷ ops) items =
    λ i. is_something (Replace removed inserted) && (replace_precedes-filled removed inserted ops (drop (length removed) items) i && is_reduced-filled ops (drop (length removed) items) i)
is_reduced-filled (Attribute c ∷ ops) items =
    λ i. true && (attribute_precedes-filled c ops items (on_first (item_changed c) items) i && is_reduced-filled ops (on_first (item_changed c) items) i)

inserted-filled : (ops : Transaction) (items : List PlainItem) → all_inserted (filled ops items) ≡ all_inserted ops
inserted-filled [] items = refl
inserted-filled (Retain count ∷ ops) items = inserted-filled ops (drop count items)
inserted-filled (Replace removed inserted ∷ ops) items = ap (λ rest. inserted ++ rest) (inserted-filled ops (drop (length removed) items))
inserted-filled (Attribute c ∷ ops) items = inserted-filled ops (on_first (item_changed c) items)

total-filled : (ops : Transaction) (items : List PlainItem) → total_length (filled ops items) ≡ total_length ops
total-filled ops items = λ i. old_length-filled ops items i + length (inserted-filled ops items i)

pub filling_is_neutral : FillingIsNeutral
filling_is_neutral t items applies =
    let p = parts_of_Applies t items applies in
    record {
      applies = Applies_from (filled t items) items (old_length-filled t items ∙ p.0) (Fits-filled t items p.1);
      same = edited-filled t items;
      restorable = IsRestorable-filled t items p.1;
      reduced = is_reduced-filled t items;
      normal = λ i. is_reduced-filled t items i && nat_le (total-filled t items i) (2 ^ 60);
    }

-- names apart

AllNamesApart-append : (xs ys : List PlainItem) → AllNamesApart xs → AllNamesApart ys → AllNamesApart (xs ++ ys)
AllNamesApart-append [] ys p q = q
AllNamesApart-append (x ∷ xs) ys p q = (p.0, AllNamesApart-append xs ys p.1 q)

AllNamesApart-take : (n : ℕ) (items : List PlainItem) → AllNamesApart items → AllNamesApart (take n items)
AllNamesApart-take zero items apart = tt
AllNamesApart-take (suc n) [] apart = tt
AllNamesApart-take (suc n) (item ∷ items) apart = (apart.0, AllNamesApart-take n items apart.1)

apart_from : (ops : Transaction) (items : List PlainItem) → Fits ops items → InsertedApart ops → AllNamesApart items → AllNamesApart (edited ops items)
apart_from [] items fits given apart = apart
apart_from (Retain count ∷ ops) items fits given apart =
    AllNamesApart-append (take count items) (edited ops (drop count items)) (AllNamesApart-take count items apart)
    (apart_from ops (drop count items) fits given (AllNamesApart-drop count items apart))
apart_from (Replace removed inserted ∷ ops) items fits given apart =
    AllNamesApart-append inserted (edited ops (drop (length removed) items)) given.0
    (apart_from ops (drop (length removed) items) fits.1 given.1 (AllNamesApart-drop (length removed) items apart))
apart_from (Attribute c ∷ ops) [] fits given apart = absurd (let e = fits.0 in cc)
apart_from (Attribute c ∷ ops) (item ∷ items) fits given apart =
    apart_from ops (item_changed c item ∷ items) fits.1 given (item_apart c item fits.0 apart.0, apart.1)

pub names_stay_apart : NamesStayApart
names_stay_apart t items applies given apart = apart_from t items (parts_of_Applies t items applies).1 given apart

-- what a transaction removes from a list whose names are apart, the inverse inserts

AllNamesApart_prefix : (xs ys : List PlainItem) → AllNamesApart (xs ++ ys) → AllNamesApart xs
AllNamesApart_prefix [] ys p = tt
AllNamesApart_prefix (x ∷ xs) ys p = (p.0, AllNamesApart_prefix xs ys p.1)

InsertedApart-attribute_ops : (changes : List AttrChange) (ops : Transaction) → InsertedApart ops → InsertedApart (attribute_ops changes ++ ops)
InsertedApart-attribute_ops [] ops p = p
InsertedApart-attribute_ops (c ∷ changes) ops p = InsertedApart-attribute_ops changes ops p

InsertedApart-inverse_after : (ops : Transaction) (changes : List AttrChange) (items : List PlainItem) → Fits ops items → AllNamesApart items →
    InsertedApart (inverse_after changes ops)
InsertedApart-inverse_after [] changes items fits apart = subst InsertedApart (append-nil (attribute_ops changes)) (InsertedApart-attribute_ops changes [] tt)
InsertedApart-inverse_after (Retain count ∷ ops) changes items fits apart =
    InsertedApart-attribute_ops changes (Retain count ∷ inverse ops) (InsertedApart-inverse_after ops [] (drop count items) fits (AllNamesApart-drop count items apart))
InsertedApart-inverse_after (Replace removed inserted ∷ ops) changes items fits apart =
    InsertedApart-attribute_ops changes (Replace inserted removed ∷ inverse ops) (
      AllNamesApart_prefix removed (drop (length removed) items) (subst AllNamesApart fits.0 apart),
      InsertedApart-inverse_after ops [] (drop (length removed) items) fits.1 (AllNamesApart-drop (length removed) items apart),
    )
InsertedApart-inverse_after (Attribute c ∷ ops) changes [] fits apart = absurd (let e = fits.0 in cc)
InsertedApart-inverse_after (Attribute c ∷ ops) changes (item ∷ items) fits apart =
    InsertedApart-inverse_after ops (change_back c ∷ changes) (item_changed c item ∷ items) fits.1 (item_apart c item fits.0 apart.0, apart.1)

pub InsertedApart-inverse : (t : Transaction) (items : List PlainItem) → Applies t items → AllNamesApart items → InsertedApart (inverse t)
InsertedApart-inverse t items applies apart = InsertedApart-inverse_after t [] items (parts_of_Applies t items applies).1 apart
