-- What operations change, as a site keeps them: no value is read. For private functions.
use Rattle.std.specs.Prelude.{ℕ, ◌+◌, List, [], ◌∷◌, ◌++◌, length, map}
use Rattle.model_site.specs.declared.patch.Patch.{Patch}
use Rattle.ve_tx.specs.declared.op.Op.{Op}
use Rattle.ve_tx.specs.declared.op.Op.TheVariants.{Retain, Replace, Attribute}
use Rattle.ve_tx.specs.Operation.{Operation, bare}
use Rattle.ve_tx.specs.Turned.{op_back}

-- what an operation changes, from a position of the new list on
abbrev pub changed_at : (at : ℕ) → Op → List Patch
changed_at at (Retain count) = []
changed_at at (Replace removed inserted) = record { at = at; removed = length removed; inserted = length inserted } ∷ []
changed_at at (Attribute name from to) = record { at = at; removed = 1; inserted = 1 } ∷ []

-- the position after it
abbrev pub after_op : (at : ℕ) → Op → ℕ
after_op at (Retain count) = at + count
after_op at (Replace removed inserted) = at + length inserted
after_op at (Attribute name from to) = at

-- one operation after the other
abbrev pub all_changed : (at : ℕ) → List Op → List Patch
all_changed at [] = []
all_changed at (o ∷ ops) = changed_at at o ++ all_changed (after_op at o) ops

-- each operation turned round: what undoing them changes
abbrev pub all_turned : List Op → List Op
all_turned = map op_back

-- one transaction after the other
abbrev pub changed_by_all : List (List Operation) → List Patch
changed_by_all [] = []
changed_by_all (tx ∷ txs) = all_changed 0 (map bare tx) ++ changed_by_all txs

-- the last transaction undone first
abbrev pub undone_by_all : List (List Operation) → List Patch
undone_by_all [] = []
undone_by_all (tx ∷ txs) = undone_by_all txs ++ all_changed 0 (all_turned (map bare tx))
