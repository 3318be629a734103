-- How a table is refused.
use Rattle.std.specs.Prelude.{◌≡◌, ◌⊎◌, Result, Err}
use Rattle.model_edit.specs.Causes.{TableCause, table_fault}
use Rattle.model_edit.specs.declared.table_fault.TableFault.{TableFault}
use Rattle.model_edit.specs.declared.table_fault.TableFault.TheVariants.{Memory}

-- the fault tells of the cause for which the model refuses, or of want of memory
abbrev pub IsTableRefusal : {A : Type 0} → Result A TableCause → TableFault → Type 0
IsTableRefusal meant fault = (fault ≡ Memory) ⊎ ((cause : TableCause) × (meant ≡ Err cause) × (fault ≡ table_fault cause))
