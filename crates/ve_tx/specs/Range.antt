-- The active range as one pass over the operations finds it.
use Rattle.std.specs.Prelude.{ℕ, ◌+◌, max, List, [], ◌∷◌, length, Option, Some, None}
use Rattle.ve_tx.specs.declared.op.Op.{Op}
use Rattle.ve_tx.specs.declared.op.Op.TheVariants.{Retain, Replace, Attribute}

-- so far a range, or none, and then a piece of it
abbrev pub widened : Option (ℕ × ℕ) → ℕ → ℕ → Option (ℕ × ℕ)
widened None from to = Some (from, to)
widened (Some (start, end)) from to = Some (start, max end to)

-- the range once the operations from the position `at` on are passed
abbrev pub range_from : ℕ → Option (ℕ × ℕ) → List Op → Option (ℕ × ℕ)
range_from at range [] = range
range_from at range (Retain count ∷ ops) = range_from (at + count) range ops
range_from at range (Replace removed inserted ∷ ops) = range_from (at + length removed) (widened range at (at + length removed)) ops
range_from at range (Attribute name from to ∷ ops) = range_from at (widened range at (at + 1)) ops
