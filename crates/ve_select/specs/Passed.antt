-- Offsets as one pass over operations moves them.
use Rattle.std.specs.Prelude.{ℕ, ◌+◌, ◌-◌, min, if◌then◌else◌, List, [], ◌∷◌, length}
use Rattle.model_edit.specs.Translate.{is_before}
use Rattle.model_edit.specs.declared.selection.Bias.{Bias}
use Rattle.ve_tx.specs.declared.op.Op.{Op}
use Rattle.ve_tx.specs.declared.op.Op.TheVariants.{Retain, Replace, Attribute}

-- how many of the items that the operations leave come before an offset of the old list, whose
-- items up to `at` are passed
abbrev pub passed_before : Bias → (offset at : ℕ) → List Op → ℕ
passed_before bias offset at [] = 0
passed_before bias offset at (Retain count ∷ ops) = min count (offset - at) + passed_before bias offset (at + count) ops
passed_before bias offset at (Replace removed inserted ∷ ops) =
    (if is_before bias at offset then length inserted else 0) + passed_before bias offset (at + length removed) ops
passed_before bias offset at (Attribute name from to ∷ ops) = passed_before bias offset at ops
