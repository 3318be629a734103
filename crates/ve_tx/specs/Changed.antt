-- The change of a list, as it is answered before it is made.
use Rattle.std.specs.Prelude.{◌≡◌, ℕ, ◌+◌, List, [], ◌∷◌, length, Option, Some, None}
use Rattle.model_change.specs.Transaction.{Transaction, Retain, Replace, Attribute}
use Rattle.model_change.specs.declared.tx_fault.TxFault.{TxFault}
use Rattle.model_change.specs.declared.tx_fault.TxFault.TheVariants.{Memory}
use Rattle.ve_tx.specs.declared.op.Op.{Op}
use Rattle.ve_tx.specs.declared.op.Op.TheVariants as op
use Rattle.ve_tx.specs.declared.splice.Splice.{Splice}
use Rattle.ve_tx.specs.Spliced.{LieBetween}

-- The splices lie within the range; without a range there are none.
abbrev pub IsOver : Option (ℕ × ℕ) → List Splice → Type 0
IsOver (Some (start, end)) splices = LieBetween start end splices
IsOver None splices = splices ≡ []

-- how many items a transaction itself brings: those that it inserts, and an opening for each
-- attribute operation
abbrev pub brought_count : Transaction → ℕ
brought_count [] = 0
brought_count (Retain count ∷ ops) = brought_count ops
brought_count (Replace removed inserted ∷ ops) = length inserted + brought_count ops
brought_count (Attribute change ∷ ops) = 1 + brought_count ops

-- the same by the operations, as they cite their items
abbrev pub brought_by : List Op → ℕ
brought_by [] = 0
brought_by (op.Retain count ∷ ops) = brought_by ops
brought_by (op.Replace removed inserted ∷ ops) = length inserted + brought_by ops
brought_by (op.Attribute name from to ∷ ops) = 1 + brought_by ops

-- The refusal is the fault, where there is one; where there is none it can only be want of memory.
abbrev pub IsRefusal : Option TxFault → TxFault → Type 0
IsRefusal (Some fault) why = why ≡ fault
IsRefusal None why = why ≡ Memory
