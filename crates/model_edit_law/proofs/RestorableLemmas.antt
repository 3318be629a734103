-- The transaction of edits can put back each attribute that it removes; and how long it is.
use Rattle.std.proofs.Common.{subst, ◌≡◌, ℕ, zero, suc, ◌+◌, ◌-◌, true, List, [], ◌∷◌, length, take, drop, Option, None, sym, ap, ◌∙◌, arith, length-append, zero-add}
use Rattle.model_items.specs.declared.plain_item.PlainItem.{PlainItem}
use Rattle.model_items.specs.declared.plain_item.PlainItem.TheVariants.{Char, Opening, Closing}
use Rattle.model_change.specs.Attributes.{item_changed, value_of}
use Rattle.model_change.specs.Transaction.{Retain, Replace, Attribute, Transaction, on_first}
use Rattle.model_change.specs.Inverse.{IsRestorable, FirstPutsBack}
use Rattle.model_change.proofs.AttributeLemmas.{filled_puts_back}
use Rattle.model_edit.specs.Edits.{Edit, Change, Set, retaining, merged, replacing, setting, transaction_from, transaction_of, InOrder, MaySet, may_set}
use Rattle.model_edit_law.proofs.EditLemmas.{order_ends, drop-add, transaction_from-on_first, MaySet-on_first, setting_allowed, earlier_order, rest_end, after_count, count_fits, length-on_first}

restorable-retaining : (n : ℕ) (t : Transaction) (items : List PlainItem) → IsRestorable t (drop n items) → IsRestorable (retaining n t) items
restorable-retaining zero t items h = h
restorable-retaining (suc n) [] items h = tt
restorable-retaining (suc n) (Replace removed inserted ∷ ops) items h = h
restorable-retaining (suc n) (Attribute change ∷ ops) items h = h
restorable-retaining (suc n) (Retain count ∷ ops) items h = subst (IsRestorable ops) (sym (drop-add (suc n) count items)) h

restorable-merged : (removed inserted : List PlainItem) (t : Transaction) (items : List PlainItem) → IsRestorable t (drop (length removed) items) →
    IsRestorable (merged removed inserted t) items
restorable-merged removed inserted [] items h = tt
restorable-merged removed inserted (Retain count ∷ ops) items h = h
restorable-merged removed inserted (Attribute change ∷ ops) items h = h
restorable-merged removed inserted (Replace next others ∷ ops) items h =
    subst (IsRestorable ops) (sym (ap (λ k. drop k items) (length-append removed next) ∙ drop-add (length removed) (length next) items)) h

restorable-replacing : (removed inserted : List PlainItem) (t : Transaction) (items : List PlainItem) → IsRestorable t (drop (length removed) items) →
    IsRestorable (replacing removed inserted t) items
restorable-replacing [] [] t items h = h
restorable-replacing [] (one ∷ inserted) t items h = restorable-merged [] (one ∷ inserted) t items h
restorable-replacing (one ∷ removed) inserted t items h = restorable-merged (one ∷ removed) inserted t items h

-- what an edit sets would be put back
setting_back : (name : List ℕ) (to : Option (List ℕ)) (items : List PlainItem) → may_set name items ≡ true → FirstPutsBack (setting name to items) items
setting_back name to [] h = cc
setting_back name to (Char ch marks ∷ items) h = cc
setting_back name to (Closing kind pre ∷ items) h = cc
setting_back name to (Opening kind head marks pre origin generated ∷ items) h =
    (filled_puts_back (record { name = name; from = value_of name head.attrs; to = to; kept = None }) (Opening kind head marks pre origin generated)
    (setting_allowed name to (Opening kind head marks pre origin generated ∷ items) h)).1

restorable-transaction_from : (at : ℕ) (items : List PlainItem) (edits : List Edit) → InOrder at (at + length items) edits → MaySet at items edits →
    IsRestorable (transaction_from at items edits) items
restorable-transaction_from at items [] h m = restorable-retaining (length items) [] items tt
restorable-transaction_from at items (Change place count inserted ∷ edits) h m =
    let rest = drop (place - at) items in
    let low = h.0 in
    let high = order_ends (place + count) (at + length items) edits h.1 in
    let t = transaction_from (place + count) (drop count rest) edits in
    let step : IsRestorable t (drop count rest) =
    restorable-transaction_from (place + count) (drop count rest) edits (rw (after_count at place items low (omega arith) count high) (h.1)) m in
    restorable-retaining (place - at) (replacing (take count rest) inserted t) items
    (restorable-replacing (take count rest) inserted t rest
    (subst (λ n. IsRestorable t (drop n rest)) (sym (count_fits at place items low (omega arith) count high)) step))
restorable-transaction_from at items (Set place name to ∷ edits) h m =
    let rest = drop (place - at) items in
    let low = h.0 in
    let high = order_ends (suc place) (at + length items) edits h.1 in
    let f = item_changed (setting name to rest) in
    let new = on_first f rest in
    let e : place + length new ≡ at + length items = ap (λ n. place + n) (length-on_first f rest) ∙ rest_end at place items low (omega arith) in
    let step : IsRestorable (transaction_from place new edits) new =
    restorable-transaction_from place new edits (rw e (earlier_order place (at + length items) edits h.1)) (MaySet-on_first f place (at + length items) rest edits h.1 m.1) in
    let t = transaction_from place rest edits in
    restorable-retaining (place - at) (Attribute (setting name to rest) ∷ t) items
    (setting_back name to rest m.0, subst (λ t. IsRestorable t new) (transaction_from-on_first f place (at + length items) rest edits h.1) step)

pub restorable-transaction_of : (items : List PlainItem) (edits : List Edit) → InOrder 0 (length items) edits → MaySet 0 items edits →
    IsRestorable (transaction_of items edits) items
restorable-transaction_of items edits h m = restorable-transaction_from 0 items edits (rw zero-add h) m
