-- Parcels: entries with the values that their items cite.
use Rattle.std.specs.Prelude.{List, [], ◌++◌, flat_map}
use Rattle.ve_base.specs.declared.value.Value.{Value}
use Rattle.model_change.specs.Store.{cited}
use Rattle.model_change.specs.Transaction.{Op, Retain, Replace, Attribute, Transaction}
use Rattle.ve_tx.specs.Operation.{Operation, operation_by_value, by_value}

-- the values that an operation's items cite, in order, those of removed items first
abbrev pub operation_cited : Op → List Value
operation_cited (Retain count) = []
operation_cited (Replace removed inserted) = cited removed ++ cited inserted
operation_cited (Attribute change) = []

abbrev pub transaction_cited : Transaction → List Value
transaction_cited t = flat_map operation_cited t

abbrev pub all_cited : List Transaction → List Value
all_cited txs = flat_map transaction_cited txs

-- the values that an operation cites in a store
abbrev pub operation_cited_in : List Value → Operation → List Value
operation_cited_in store operation = operation_cited (operation_by_value store operation)

-- the values that a transaction cites in a store
abbrev pub transaction_cited_in : List Value → List Operation → List Value
transaction_cited_in store tx = transaction_cited (by_value store tx)
