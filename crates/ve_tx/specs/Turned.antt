-- The inverse as one pass over the operations makes it.
use Rattle.std.specs.Prelude.{◌≡◌, List, [], ◌∷◌, ◌++◌, map, reverse}
use Rattle.model_change.specs.Attributes.{change_back}
use Rattle.ve_tx.specs.declared.op.Op.{Op}
use Rattle.ve_tx.specs.declared.op.Op.TheVariants as op
use Rattle.ve_tx.specs.declared.inverse.Undone.{Undone}
use Rattle.ve_tx.specs.Operation.{Operation, Retain, Replace, Attribute, with_position}

-- the inverse of an operation
abbrev pub op_back : Op → Op
op_back (op.Retain count) = op.Retain count
op_back (op.Replace removed inserted) = op.Replace inserted removed
op_back (op.Attribute name from to) = op.Attribute name to from

-- the inverse of the operations, after that of the attribute operations just before them: those of
-- one position come in reverse order
abbrev pub turned_after : List Operation → List Operation → List Operation
turned_after changes [] = changes
turned_after changes (Retain count ∷ ops) = changes ++ Retain count ∷ turned_after [] ops
turned_after changes (Replace removed inserted ∷ ops) = changes ++ Replace inserted removed ∷ turned_after [] ops
turned_after changes (Attribute change ∷ ops) = turned_after (Attribute (change_back change) ∷ changes) ops

abbrev pub turned : List Operation → List Operation
turned = turned_after []

-- what undoes the attribute operations of a position, in their order
abbrev pub run_of : List Undone → List Operation
run_of run = map (λ undone. with_position undone.op undone.kept) run

-- the operations so far, and after them those of the present position in reverse order, with the
-- inverse of the rest
abbrev pub finished : List Operation → List Operation → List Operation → List Operation
finished back run rest = back ++ turned_after (reverse run) rest

-- The new operations and the new run undo one operation more than the old ones: whatever follows,
-- finished with it they are the old ones finished with the operation and what follows.
abbrev pub UndoesAlso : (old run : List Operation) → Operation → (new next : List Operation) → Type 0
UndoesAlso old run operation new next = (rest : List Operation) → finished new next rest ≡ finished old run (operation ∷ rest)
