-- Pages, operations and transactions without values: they cite well over every list of values.
use Rattle.std.specs.Prelude.{List, All, None}
use Rattle.ve_base.specs.declared.value.Value.{Value}
use Rattle.model_items.specs.declared.item.Item.{Item}
use Rattle.model_items.specs.Plain.{CitesWell}
use Rattle.ve_tx.specs.declared.op.Op.{Op}
use Rattle.ve_tx.specs.Operation.{Operation, with_position, unkept}
use Rattle.ve_tx.specs.Cites.{OperationCites, TxCites}

-- these items cite no value
abbrev pub ItemsCiteNothing : List Item → Type 0
ItemsCiteNothing items = (values : List Value) → All (CitesWell values) items

-- the items that the operation removes and inserts cite no value
abbrev pub OpCitesNothing : Op → Type 0
OpCitesNothing op = (values : List Value) → OperationCites values (with_position op None)

-- nor do those of these operations
abbrev pub OpsCiteNothing : List Op → Type 0
OpsCiteNothing ops = (values : List Value) → TxCites values (unkept ops)

-- nor those of the transaction
abbrev pub TxCitesNothing : List Operation → Type 0
TxCitesNothing tx = (values : List Value) → TxCites values tx
