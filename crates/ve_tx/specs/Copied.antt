-- Values that are copied out of a store, each once, and the numbers that cite the copies.
use Rattle.std.specs.Prelude.{◌≡◌, ℕ, ◌<◌, List, [], ◌++◌, map, length, slice_get, Option, Some, None, is_some, option_to_list}
use Rattle.ve_base.specs.declared.value.Value.{Value}
use Rattle.ve_base.specs.declared.value.ValueId.{ValueId}
use Rattle.model_items.specs.Plain.{value_at}
use Rattle.ve_tx.specs.Cites.{OperationCites, TxCites}
use Rattle.ve_tx.specs.Operation.{Operation, operation_by_value, by_value}

-- the values are those that stand in the store at these positions
abbrev pub AreCopied : (store : List Value) → List ℕ → List Value → Type 0
AreCopied store places values = map Some values ≡ map (slice_get store) places

-- a cited number stands in the list
abbrev pub Stands : List Value → Option ValueId → Type 0
Stands values None = Unit {0}
Stands values (Some id) = id.0 < length values

-- the value cited, where there is one
abbrev pub one_cited : List Value → Option ValueId → List Value
one_cited values None = []
one_cited values (Some id) = option_to_list (slice_get values id.0)

-- the second cites a value where the first does: over the values, with any others after them, the
-- one that the first cites in the store
abbrev pub CitesAlike : (store values : List Value) → Option ValueId → Option ValueId → Type 0
CitesAlike store values old new = (is_some new ≡ is_some old) × ((more : List Value) → value_at (values ++ more) new ≡ value_at store old)

-- The second reads over the values, with any others after them, as the first over the store, and
-- cites well.
abbrev pub ReadsAlike : {X Y : Type 0} → (List Value → X → Y) → (List Value → X → Type 0) → (store values : List Value) → X → X → Type 0
ReadsAlike read Cites store values old new = (more : List Value) → (read (values ++ more) new ≡ read store old) × Cites (values ++ more) new

-- so an operation, over its items
abbrev pub OperationsAlike : (store values : List Value) → Operation → Operation → Type 0
OperationsAlike = ReadsAlike operation_by_value OperationCites

-- so a transaction
abbrev pub TransactionsAlike : (store values : List Value) → List Operation → List Operation → Type 0
TransactionsAlike = ReadsAlike by_value TxCites
