-- Operations between a first and a last retain, as the code finds them and puts them together.
use Rattle.std.specs.Prelude.{ℕ, zero, suc, ◌-◌, List, [], ◌∷◌, take, drop}
use Rattle.ve_tx.specs.declared.op.Op.{Op}
use Rattle.ve_tx.specs.declared.op.Op.TheVariants as op
use Rattle.ve_tx.specs.Operation.{Operation, Retain}

-- how many operations stand before those that are neither the first nor the last retain
abbrev pub core_start : List Op → ℕ
core_start [] = 0
core_start (op.Retain count ∷ ops) = 1
core_start (op.Replace removed inserted ∷ ops) = 0
core_start (op.Attribute name from to ∷ ops) = 0

-- how many stand before the last retain, or how many there are
abbrev pub core_end : List Op → ℕ
core_end [] = 0
core_end (op.Retain count ∷ []) = 0
core_end (o ∷ ops) = suc (core_end ops)

abbrev pub core_of : List Op → List Operation → List Operation
core_of ops tx = take (core_end ops - core_start ops) (drop (core_start ops) tx)

-- a retain of so many items, left out where there are none
abbrev pub retain_of : ℕ → List Operation
retain_of zero = []
retain_of (suc n) = Retain (suc n) ∷ []
