-- Counts of one pass over the operations of a transaction. It reads no value that they cite.
use Rattle.std.specs.Prelude.{ℕ, ◌+◌, true, false, List, [], ◌∷◌, length}
use Rattle.ve_tx.specs.declared.op.Op.{Op}
use Rattle.ve_tx.specs.declared.op.Op.TheVariants.{Retain, Replace, Attribute}
use Rattle.ve_rebase.specs.declared.totals.Totals.{Totals}

-- with one more operation
abbrev pub with_op : Totals → Op → Totals
with_op t (Retain count) = record t { old = t.old + count; new = t.new + count; end = count }
with_op t (Replace removed inserted) = record t { old = t.old + length removed; new = t.new + length inserted; end = 0; has_replace = true }
with_op t (Attribute name from to) = record t { end = 0; has_attribute = true }

-- with all these
abbrev pub with_ops : Totals → List Op → Totals
with_ops t [] = t
with_ops t (op ∷ ops) = with_ops (with_op t op) ops

abbrev pub nothing : Totals
nothing = record { old = 0; new = 0; end = 0; has_replace = false; has_attribute = false }

-- how many items they insert
abbrev pub inserted_size : List Op → ℕ
inserted_size [] = 0
inserted_size (Retain count ∷ ops) = inserted_size ops
inserted_size (Replace removed inserted ∷ ops) = length inserted + inserted_size ops
inserted_size (Attribute name from to ∷ ops) = inserted_size ops
