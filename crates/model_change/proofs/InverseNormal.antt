-- The inverse is reduced, and in normal form.
use Rattle.std.proofs.Common.{◌≡◌, ℕ, ◌+◌, ◌^◌, true, false, not, nat_lt, nat_le, List, [], ◌∷◌, ◌++◌, length, refl, sym, ap, ◌∙◌, add_comm, append-nil, arith}
use Rattle.std.proofs.lemmas.List.{length-append}
use Rattle.std.proofs.lemmas.Bool.{and_parts, and_from, not-true, not_from_false}
use Rattle.model_items.specs.declared.plain_item.PlainItem.{PlainItem}
use Rattle.model_items.specs.Same.{text_same}
use Rattle.model_change.specs.Attributes.{AttrChange, change_back}
use Rattle.model_change.specs.Transaction.{Retain, Replace, Attribute, Transaction, all_inserted, all_removed, old_length, total_length, may_precede, is_reduced}
use Rattle.model_change.specs.Inverse.{attribute_ops, inverse_after, inverse, InverseIsReduced, InverseIsNormal}
use Rattle.model_change.proofs.AttributeLemmas.{text_other}
use Rattle.model_change.proofs.InverseLemmas.{reduced_parts}
use Rattle.model_change.proofs.JoinNormal.{reduced_from}

-- its name is none of theirs
abbrev IsOther : AttrChange → List AttrChange → Type 0
IsOther c [] = Unit {0}
IsOther c (d ∷ changes) = (text_same c.name d.name ≡ false) × IsOther c changes

-- the changes have different names, and each may stand before the operations
abbrev IsPending : List AttrChange → Transaction → Type 0
IsPending [] ops = Unit {0}
IsPending (c ∷ changes) ops = (may_precede (Attribute c) ops ≡ true) × IsOther c changes × IsPending changes ops

-- one more attribute operation
IsPending_after : (d : AttrChange) (changes : List AttrChange) (ops : Transaction) → IsPending changes (Attribute d ∷ ops) → IsOther d changes × IsPending changes ops
IsPending_after d [] ops pending = (tt, tt)
IsPending_after d (c ∷ changes) ops pending =
    let p = and_parts (not (text_same c.name d.name)) (may_precede (Attribute c) ops) pending.0 in
    let rest = IsPending_after d changes ops pending.2 in
    ((text_other c.name d.name (not-true (text_same c.name d.name) p.0), rest.0), (p.1, pending.1, rest.1))

-- changes with different names before a retain
precedes_all : (c : AttrChange) (changes : List AttrChange) (count : ℕ) (ops : Transaction) → IsOther c changes →
    may_precede (Attribute c) (attribute_ops changes ++ Retain count ∷ ops) ≡ true
precedes_all c [] count ops other = refl
precedes_all c (d ∷ changes) count ops other =
    and_from (not (text_same c.name d.name)) (may_precede (Attribute c) (attribute_ops changes ++ Retain count ∷ ops))
    (not_from_false (text_same c.name d.name) other.0) (precedes_all c changes count ops other.1)

reduced-attribute_ops : (changes : List AttrChange) (count : ℕ) (ops before : Transaction) → IsPending changes before → is_reduced (Retain count ∷ ops) ≡ true →
    is_reduced (attribute_ops changes ++ Retain count ∷ ops) ≡ true
reduced-attribute_ops [] count ops before pending h = h
reduced-attribute_ops (c ∷ changes) count ops before pending h =
    reduced_from (Attribute c) (attribute_ops changes ++ Retain count ∷ ops) refl (precedes_all c changes count ops pending.1)
    (reduced-attribute_ops changes count ops before pending.2 h)

-- what may stand before operations may stand before what undoes them

retain_precedes-inverse_after : (count : ℕ) (ops : Transaction) (c : AttrChange) (changes : List AttrChange) → may_precede (Retain count) (inverse_after (c ∷ changes) ops) ≡ true
retain_precedes-inverse_after count [] c changes = refl
retain_precedes-inverse_after count (Retain n ∷ ops) c changes = refl
retain_precedes-inverse_after count (Replace removed inserted ∷ ops) c changes = refl
retain_precedes-inverse_after count (Attribute d ∷ ops) c changes = retain_precedes-inverse_after count ops (change_back d) (c ∷ changes)

replace_precedes-inverse_after : (removed inserted : List PlainItem) (ops : Transaction) (c : AttrChange) (changes : List AttrChange) →
    may_precede (Replace removed inserted) (inverse_after (c ∷ changes) ops) ≡ true
replace_precedes-inverse_after removed inserted [] c changes = refl
replace_precedes-inverse_after removed inserted (Retain n ∷ ops) c changes = refl
replace_precedes-inverse_after removed inserted (Replace r i ∷ ops) c changes = refl
replace_precedes-inverse_after removed inserted (Attribute d ∷ ops) c changes = replace_precedes-inverse_after removed inserted ops (change_back d) (c ∷ changes)

retain_precedes-inverse : (count : ℕ) (ops : Transaction) → may_precede (Retain count) ops ≡ true → may_precede (Retain count) (inverse ops) ≡ true
retain_precedes-inverse count [] h = refl
retain_precedes-inverse count (Retain n ∷ ops) h = h
retain_precedes-inverse count (Replace removed inserted ∷ ops) h = refl
retain_precedes-inverse count (Attribute d ∷ ops) h = retain_precedes-inverse_after count ops (change_back d) []

replace_precedes-inverse : (removed inserted : List PlainItem) (ops : Transaction) → may_precede (Replace removed inserted) ops ≡ true →
    may_precede (Replace inserted removed) (inverse ops) ≡ true
replace_precedes-inverse removed inserted [] h = refl
replace_precedes-inverse removed inserted (Retain n ∷ ops) h = refl
replace_precedes-inverse removed inserted (Replace r i ∷ ops) h = h
replace_precedes-inverse removed inserted (Attribute d ∷ ops) h = replace_precedes-inverse_after inserted removed ops (change_back d) []

reduced-inverse_after : (ops : Transaction) (changes : List AttrChange) → IsPending changes ops → is_reduced ops ≡ true → is_reduced (inverse_after changes ops) ≡ true
reduced-inverse_after [] [] pending h = refl
reduced-inverse_after [] (c ∷ changes) pending h = absurd (let e = pending.0 in cc)
reduced-inverse_after (Retain count ∷ ops) changes pending h =
    let p = reduced_parts (Retain count) ops h in
    reduced-attribute_ops changes count (inverse ops) (Retain count ∷ ops) pending
    (reduced_from (Retain count) (inverse ops) p.0 (retain_precedes-inverse count ops p.1) (reduced-inverse_after ops [] tt p.2))
reduced-inverse_after (Replace removed inserted ∷ ops) (c ∷ changes) pending h = absurd (let e = pending.0 in cc)
reduced-inverse_after (Replace removed inserted ∷ ops) [] pending h =
    let p = reduced_parts (Replace removed inserted) ops h in
    reduced_from (Replace inserted removed) (inverse ops)
    (ap (nat_lt 0) (add_comm (length inserted) (length removed)) ∙ p.0)
    (replace_precedes-inverse removed inserted ops p.1) (reduced-inverse_after ops [] tt p.2)
reduced-inverse_after (Attribute d ∷ ops) changes pending h =
    let p = reduced_parts (Attribute d) ops h in
    let rest = IsPending_after d changes ops pending in
    reduced-inverse_after ops (change_back d ∷ changes) (back_precedes ops p.1, rest.0, rest.1) p.2
  where
    back_precedes : (ops : Transaction) → may_precede (Attribute d) ops ≡ true → may_precede (Attribute (change_back d)) ops ≡ true
    back_precedes [] h = h
    back_precedes (Retain count ∷ ops) h = h
    back_precedes (Replace removed inserted ∷ ops) h = h
    back_precedes (Attribute e ∷ ops) h =
        let p = and_parts (not (text_same d.name e.name)) (may_precede (Attribute d) ops) h in
        and_from (not (text_same d.name e.name)) (may_precede (Attribute (change_back d)) ops) p.0 (back_precedes ops p.1)

pub inverse_is_reduced : InverseIsReduced
inverse_is_reduced t h = reduced-inverse_after t [] tt h

-- what is removed and what is inserted change places

inserted-attribute_ops : (changes : List AttrChange) (ops : Transaction) → all_inserted (attribute_ops changes ++ ops) ≡ all_inserted ops
inserted-attribute_ops [] ops = refl
inserted-attribute_ops (c ∷ changes) ops = inserted-attribute_ops changes ops

old_length-attribute_ops : (changes : List AttrChange) (ops : Transaction) → old_length (attribute_ops changes ++ ops) ≡ old_length ops
old_length-attribute_ops [] ops = refl
old_length-attribute_ops (c ∷ changes) ops = old_length-attribute_ops changes ops

total-attribute_ops : (changes : List AttrChange) (ops : Transaction) → total_length (attribute_ops changes ++ ops) ≡ total_length ops
total-attribute_ops changes ops = λ i. old_length-attribute_ops changes ops i + length (inserted-attribute_ops changes ops i)

inserted-inverse_after : (ops : Transaction) (changes : List AttrChange) → all_inserted (inverse_after changes ops) ≡ all_removed ops
inserted-inverse_after [] changes = ap all_inserted (sym (append-nil (attribute_ops changes))) ∙ inserted-attribute_ops changes []
inserted-inverse_after (Retain count ∷ ops) changes = inserted-attribute_ops changes (Retain count ∷ inverse ops) ∙ inserted-inverse_after ops []
inserted-inverse_after (Replace removed inserted ∷ ops) changes =
    inserted-attribute_ops changes (Replace inserted removed ∷ inverse ops) ∙ ap (λ rest. removed ++ rest) (inserted-inverse_after ops [])
inserted-inverse_after (Attribute c ∷ ops) changes = inserted-inverse_after ops (change_back c ∷ changes)

pub inverse_inserts : (t : Transaction) → all_inserted (inverse t) ≡ all_removed t
inverse_inserts t = inserted-inverse_after t []

total-inverse_after : (ops : Transaction) (changes : List AttrChange) → total_length (inverse_after changes ops) ≡ total_length ops
total-inverse_after [] changes = ap total_length (sym (append-nil (attribute_ops changes))) ∙ total-attribute_ops changes []
total-inverse_after (Retain count ∷ ops) changes =
    let rest = total-inverse_after ops [] in
    total-attribute_ops changes (Retain count ∷ inverse ops) ∙ omega arith
total-inverse_after (Replace removed inserted ∷ ops) changes =
    let rest = total-inverse_after ops [] in
    let a = length-append removed (all_inserted (inverse ops)) in
    let b = length-append inserted (all_inserted ops) in
    total-attribute_ops changes (Replace inserted removed ∷ inverse ops) ∙ omega arith
total-inverse_after (Attribute c ∷ ops) changes = total-inverse_after ops (change_back c ∷ changes)

pub inverse_is_normal : InverseIsNormal
inverse_is_normal t h =
    let p = and_parts (is_reduced t) (nat_le (total_length t) (2 ^ 60)) h in
    and_from (is_reduced (inverse t)) (nat_le (total_length (inverse t)) (2 ^ 60)) (inverse_is_reduced t p.0) (ap (λ n. nat_le n (2 ^ 60)) (total-inverse_after t []) ∙ p.1)
