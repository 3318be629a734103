-- Which values the items of transactions cite.
use Rattle.std.specs.Prelude.{List, All}
use Rattle.ve_base.specs.declared.value.Value.{Value}
use Rattle.model_items.specs.Plain.{CitesWell}
use Rattle.ve_tx.specs.Operation.{Operation, Retain, Replace, Attribute}

-- each item that it removes or inserts cites values that stand in the list, and are of the sort
-- that it asks for
abbrev pub OperationCites : List Value → Operation → Type 0
OperationCites values (Retain count) = Unit {0}
OperationCites values (Replace removed inserted) = All (CitesWell values) removed × All (CitesWell values) inserted
OperationCites values (Attribute change) = Unit {0}

-- so does each operation of a transaction
abbrev pub TxCites : List Value → List Operation → Type 0
TxCites values tx = All (OperationCites values) tx
