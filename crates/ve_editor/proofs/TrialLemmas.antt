-- The steps of an attempt: of a page without text, and of the changes.
use Rattle.std.proofs.Common.{◌≤◌, ◌+◌, ℕ, arith}
use Rattle.ve_editor.specs.Counted.{steps_of_blank}

pub within_blank : (start blank made cost : ℕ) → blank ≤ start + steps_of_blank → made ≤ blank + cost → made ≤ start + steps_of_blank + cost
within_blank start blank made cost h k = omega (arith, h, k)
