-- Values of a list that a store has taken, and the numbers that cite them there.
use Rattle.std.specs.Prelude.{ℕ, List, map, Contains}
use Rattle.ve_base.specs.declared.value.Value.{Value}
use Rattle.ve_base.specs.declared.value.ValueId.{ValueId}
use Rattle.model_change.specs.Store.{cited}
use Rattle.model_change.specs.Transaction.{all_removed}
use Rattle.ve_tx.specs.Copied.{AreCopied}
use Rattle.ve_tx.specs.Operation.{Operation, by_value}

abbrev pub place_of : ValueId → ℕ
place_of id = id.0

-- one after the other, the values at these positions of the list stand in the store where these
-- citations say
abbrev pub AreTaken : (values store : List Value) → List ℕ → List ValueId → Type 0
AreTaken values store places ids = (taken : List Value) × AreCopied values places taken × AreCopied store (map place_of ids) taken

-- Each value that the items which a transaction removes cite is in the store.
abbrev pub HasRemoved : (values store : List Value) → List Operation → Type 0
HasRemoved values store tx = (v : Value) → Contains (cited (all_removed (by_value values tx))) v → Contains store v
