-- A transaction that was applied applies.
use Rattle.std.proofs.Common.{◌≡◌, List, Option, Some, None, Ok, refl}
use Rattle.model_items.specs.declared.item.Item.{Item}
use Rattle.model_items.specs.declared.plain_item.PlainItem.{PlainItem}
use Rattle.model_items.specs.Plain.{plain_list}
use Rattle.model_change.specs.declared.tx_fault.TxFault.{TxFault}
use Rattle.model_change.specs.Fault.{apply_unless, fault}
use Rattle.ve_tx.specs.Operation.{Operation, by_value}
use Rattle.ve_repair.specs.Change.{CanApply, new_list}
use Rattle.ve_edit_tests.specs.Makes.{Makes}

no_fault : (o : Option TxFault) (made new : List PlainItem) → apply_unless o made ≡ Ok new → o ≡ None
no_fault None made new h = refl
no_fault (Some f) made new h = cc

pub can_apply : (tx : List Operation) (old new : List Item) → Makes tx old new → CanApply tx old
can_apply tx old new m = record {
  values = m.values;
  applies = no_fault (fault (by_value m.values tx) (plain_list m.values old)) (new_list m.values tx old) (plain_list m.others new) m.made;
}
