-- Which refusal a table's fault is.
use Rattle.std.specs.Prelude.{Option, Some, None}
use Rattle.model_edit.specs.declared.table_fault.TableFault.{TableFault}
use Rattle.model_edit.specs.declared.table_fault.TableFault.TheVariants as table
use Rattle.model_world.specs.declared.refusal.Refusal.{Refusal}
use Rattle.model_world.specs.declared.refusal.Refusal.TheVariants as refusal

-- none for want of memory
abbrev pub refusal_by : TableFault → Option Refusal
refusal_by (table.NotTable at) = Some (refusal.NotTable at)
refusal_by (table.Crooked at) = Some (refusal.Crooked at)
refusal_by (table.BadRow row rows) = Some (refusal.BadRow row rows)
refusal_by (table.BadColumn column columns) = Some (refusal.BadColumn column columns)
refusal_by (table.TooWide columns) = Some (refusal.TooWide columns)
refusal_by (table.Ragged row) = Some (refusal.Ragged row)
refusal_by (table.Spanned at) = Some (refusal.Spanned at)
refusal_by (table.SpanFull at) = Some (refusal.SpanFull at)
refusal_by table.Memory = None
