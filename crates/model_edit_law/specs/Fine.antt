-- Every edit is a transaction that cannot be written shorter, and that applies to the list.
use Rattle.std.specs.Prelude.{◌≡◌, ◌+◌, true, nat_le, List, length}
use Rattle.ve_base.specs.Limits.{max_total_length}
use Rattle.model_items.specs.declared.plain_item.PlainItem.{PlainItem}
use Rattle.model_change.specs.Transaction.{Transaction, all_inserted, edited, is_reduced, is_normal}
use Rattle.model_change.specs.Fault.{Applies}
use Rattle.model_change.specs.Inverse.{IsRestorable}
use Rattle.model_edit.specs.Edits.{Edit, InOrder, MaySet, transaction_of, substituted}

-- It can also put back each attribute that it removes.
pub record Fine (items : List PlainItem) (t : Transaction) : Type 0 where
  pub reduced : is_reduced t ≡ true
  pub applies : Applies t items
  pub restorable : IsRestorable t items

-- Then it is in normal form exactly where the list's length and all that it inserts add up to at
-- most 2^60.
abbrev pub FineIsNormal : Type 0
FineIsNormal = (items : List PlainItem) (t : Transaction) → Fine items t →
    is_normal t ≡ nat_le (length items + length (all_inserted t)) max_total_length

-- Edits that stand in order, and set what may be set, are such a transaction, which gives the list
-- with the edits made.
abbrev pub EditsAreFine : Type 0
EditsAreFine = (items : List PlainItem) (edits : List Edit) → InOrder 0 (length items) edits → MaySet 0 items edits →
    Fine items (transaction_of items edits)

abbrev pub EditsSubstitute : Type 0
EditsSubstitute = (items : List PlainItem) (edits : List Edit) → InOrder 0 (length items) edits →
    edited (transaction_of items edits) items ≡ substituted items edits
