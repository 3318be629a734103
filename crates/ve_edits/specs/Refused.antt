-- How a builder refuses.
use Rattle.std.specs.Prelude.{◌≡◌, ◌⊎◌, Result, Err}
use Rattle.model_change.specs.Transaction.{Transaction}
use Rattle.model_edit.specs.Causes.{BuildCause, build_fault}
use Rattle.model_edit.specs.declared.build_fault.BuildFault.{BuildFault}
use Rattle.model_edit.specs.declared.build_fault.BuildFault.TheVariants.{Memory}

-- the fault tells of the cause for which the model refuses the edit, or of want of memory
abbrev pub IsRefusal : BuildFault → Result Transaction BuildCause → Type 0
IsRefusal fault meant = (fault ≡ Memory) ⊎ ((cause : BuildCause) × (meant ≡ Err cause) × (fault ≡ build_fault cause))
