-- Transactions that were applied.
use Rattle.std.specs.Prelude.{◌≡◌, List, Ok}
use Rattle.ve_base.specs.declared.value.Value.{Value}
use Rattle.model_items.specs.declared.item.Item.{Item}
use Rattle.model_items.specs.Plain.{plain_list}
use Rattle.ve_tx.specs.Operation.{Operation}
use Rattle.ve_tx.specs.Applied.{applied_to}

-- over some values that the old items cite it makes the new items, over some that these cite
pub record Makes (tx : List Operation) (old new : List Item) : Type 0 where
  pub values : List Value
  pub others : List Value
  pub made : applied_to values tx old ≡ Ok (plain_list others new)
