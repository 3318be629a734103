-- The list to which a transaction applies cites the values of the items that it removes.
use Rattle.std.proofs.Common.{◌≡◌, ℕ, zero, suc, Bool, true, false, List, [], ◌∷◌, ◌++◌, length, take, drop, Contains, refl, sym, ap, ◌∙◌, subst, append_assoc, inl, inr}
use Rattle.std.proofs.lemmas.List.{take-append-drop}
use Rattle.std.proofs.lemmas.List.Elements.{Contains-append_left, Contains-append_right, Contains-append_cases}
use Rattle.ve_base.specs.declared.value.Value.{Value}
use Rattle.model_items.specs.declared.plain_item.PlainItem.{PlainItem}
use Rattle.model_change.specs.Attributes.{AttrChange, item_changed}
use Rattle.model_change.specs.Fault.{Applies}
use Rattle.model_change.specs.Store.{cited, cited_by}
use Rattle.model_change.specs.Transaction.{Attribute, Replace, Retain, Transaction, all_removed, is_reduced, is_something, may_precede, on_first}
use Rattle.model_change.proofs.Fits.{Fits, parts_of_Applies}
use Rattle.model_change.proofs.InverseLemmas.{reduced_parts}
use Rattle.model_change.proofs.StoreLemmas.{contains_none}

-- each of the values is in the list
abbrev pub AllIn : (store vs : List Value) → Type 0
AllIn store vs = (v : Value) → Contains vs v → Contains store v

cited-append : (xs ys : List PlainItem) → cited (xs ++ ys) ≡ cited xs ++ cited ys
cited-append [] ys = refl
cited-append (x ∷ xs) ys = ap (λ vs. cited_by x ++ vs) (cited-append xs ys) ∙ sym (append_assoc (cited_by x) (cited xs) (cited ys))

both_in : (S : List Value) (xs ys : List PlainItem) → AllIn S (cited xs) → AllIn S (cited ys) → AllIn S (cited (xs ++ ys))
both_in S xs ys p q v within =
    elim (Contains-append_cases (cited xs) (cited ys) v (subst (λ vs. Contains vs v) (cited-append xs ys) within)) [ inl first ↦ p v first | inr second ↦ q v second ]

parts_in : (S : List Value) (xs ys : List PlainItem) → AllIn S (cited (xs ++ ys)) → AllIn S (cited xs) × AllIn S (cited ys)
parts_in S xs ys p = (
  λ v within. p v (subst (λ vs. Contains vs v) (sym (cited-append xs ys)) (Contains-append_left (cited xs) (cited ys) v within)),
  λ v within. p v (subst (λ vs. Contains vs v) (sym (cited-append xs ys)) (Contains-append_right (cited xs) (cited ys) v within)),
)

past : (S : List Value) (n : ℕ) (xs : List PlainItem) → AllIn S (cited xs) → AllIn S (cited (drop n xs))
past S n xs p = (parts_in S (take n xs) (drop n xs) (subst (λ l. AllIn S (cited l)) (sym (take-append-drop n xs)) p)).1

-- the items, or all but the first one, whose attributes were changed
abbrev Held : List Value → Bool → List PlainItem → Type 0
Held S false items = AllIn S (cited items)
Held S true [] = Unit {0}
Held S true (item ∷ items) = AllIn S (cited items)

-- after an attribute operation a retain comes
Followed : Bool → Transaction → Type 0
Followed false t = Unit {0}
Followed true t = (c : AttrChange) × (may_precede (Attribute c) t ≡ true)

first_changed : (S : List Value) (c : AttrChange) (changed : Bool) (items : List PlainItem) → Held S changed items → Held S true (on_first (item_changed c) items)
first_changed S c changed [] p = tt
first_changed S c false (item ∷ items) p = λ v within. p v (Contains-append_right (cited_by item) (cited items) v within)
first_changed S c true (item ∷ items) p = p

retained : (S : List Value) (changed : Bool) (count : ℕ) (items : List PlainItem) → is_something (Retain count) ≡ true → Held S changed items → AllIn S (cited (drop count items))
retained S false count items n p = past S count items p
retained S true zero items n p = cc
retained S true (suc count) [] n p = λ v within. absurd (contains_none v within)
retained S true (suc count) (item ∷ items) n p = past S count items p

removed_from : (S : List Value) (changed : Bool) (t : Transaction) (items : List PlainItem) → is_reduced t ≡ true → Followed changed t → Fits t items → Held S changed items →
    AllIn S (cited (all_removed t))
unfolding Followed
removed_from S changed [] items n f fits p = λ v within. absurd (contains_none v within)
removed_from S changed (Retain count ∷ ops) items n f fits p =
    let parts = reduced_parts (Retain count) ops n in
    removed_from S false ops (drop count items) parts.2 tt fits (retained S changed count items parts.0 p)
removed_from S false (Replace gone new ∷ ops) items n f fits p =
    let parts = reduced_parts (Replace gone new) ops n in
    let two = parts_in S gone (drop (length gone) items) (subst (λ l. AllIn S (cited l)) fits.0 p) in
    both_in S gone (all_removed ops) two.0 (removed_from S false ops (drop (length gone) items) parts.2 tt fits.1 two.1)
removed_from S true (Replace gone new ∷ ops) items n f fits p = let e = f.1 in cc
removed_from S changed (Attribute change ∷ ops) items n f fits p =
    let parts = reduced_parts (Attribute change) ops n in
    removed_from S true ops (on_first (item_changed change) items) parts.2 (change, parts.1) fits.1 (first_changed S change changed items p)

pub removed_held : (S : List Value) (t : Transaction) (items : List PlainItem) → is_reduced t ≡ true → Applies t items → AllIn S (cited items) → AllIn S (cited (all_removed t))
unfolding Followed
removed_held S t items n applies p = removed_from S false t items n tt (parts_of_Applies t items applies).1 p
