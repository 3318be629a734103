-- Why what a line asks for isn't done.
use Rattle.std.specs.Prelude.{◌≡◌, Result, Err}
use Rattle.model_edit.specs.declared.build_fault.BuildFault.{BuildFault}
use Rattle.model_edit.specs.declared.build_fault.BuildFault.TheVariants as build
use Rattle.model_edit.specs.declared.table_fault.TableFault.{TableFault}
use Rattle.model_edit.specs.declared.table_fault.TableFault.TheVariants as table
use Rattle.model_edit.specs.declared.list_fault.ListFault.{ListFault}
use Rattle.model_edit.specs.declared.list_fault.ListFault.TheVariants as moved
use Rattle.model_site.specs.declared.edit_fault.EditFault.{EditFault}
use Rattle.model_site.specs.declared.edit_fault.EditFault.TheVariants as edit
use Rattle.model_world.specs.declared.refusal.Refusal.{Refusal}
use Rattle.model_world.specs.declared.refusal.Refusal.TheVariants as refusal
use Rattle.ve_changes.specs.declared.faults.ChangeStop.{ChangeStop}
use Rattle.ve_changes.specs.declared.faults.ChangeStop.TheVariants as stop

-- A refusal is the model's; memory may be wanting at any time.
abbrev pub IsRefused : {A : Type 0} → ChangeStop → Result A Refusal → Type 0
IsRefused (stop.Refused refusal) meant = meant ≡ Err refusal
IsRefused stop.Memory meant = Unit {0}

-- ---- the fault of each builder as what stops it, and that of performing a transaction

abbrev pub build_stop : BuildFault → ChangeStop
build_stop (build.BadOffset at) = stop.Refused (refusal.BadOffset at)
build_stop (build.NoPlace at) = stop.Refused (refusal.NoPlace at)
build_stop (build.NotContent at) = stop.Refused (refusal.NotContent at)
build_stop (build.BadDepth depth) = stop.Refused (refusal.BadDepth depth)
build_stop (build.BadRange from to) = stop.Refused (refusal.BadRange from to)
build_stop build.BadMark = stop.Refused refusal.BadMark
build_stop (build.TooManyMarks at) = stop.Refused (refusal.TooManyMarks at)
build_stop (build.NotWrapped at) = stop.Refused (refusal.NotWrapped at)
build_stop (build.NotBranch at) = stop.Refused (refusal.NotBranch at)
build_stop (build.NotOpening at) = stop.Refused (refusal.NotOpening at)
build_stop (build.BadAttr at) = stop.Refused (refusal.BadAttr at)
build_stop build.Memory = stop.Memory

abbrev pub table_stop : TableFault → ChangeStop
table_stop (table.NotTable at) = stop.Refused (refusal.NotTable at)
table_stop (table.Crooked at) = stop.Refused (refusal.Crooked at)
table_stop (table.BadRow row rows) = stop.Refused (refusal.BadRow row rows)
table_stop (table.BadColumn column columns) = stop.Refused (refusal.BadColumn column columns)
table_stop (table.TooWide columns) = stop.Refused (refusal.TooWide columns)
table_stop (table.Ragged row) = stop.Refused (refusal.Ragged row)
table_stop (table.Spanned at) = stop.Refused (refusal.Spanned at)
table_stop (table.SpanFull at) = stop.Refused (refusal.SpanFull at)
table_stop table.Memory = stop.Memory

abbrev pub list_stop : ListFault → ChangeStop
list_stop (moved.NotListItem at) = stop.Refused (refusal.NotListItem at)
list_stop (moved.NoSibling at) = stop.Refused (refusal.NoSibling at)
list_stop (moved.NotNested at) = stop.Refused (refusal.NotNested at)
list_stop moved.Memory = stop.Memory

abbrev pub edit_stop : EditFault → ChangeStop
edit_stop (edit.BadLength has needs) = stop.Refused (refusal.BadLength has needs)
edit_stop (edit.Mismatch at) = stop.Refused refusal.StoreFull
edit_stop (edit.BadAttr at) = stop.Refused (refusal.BadAttr at)
edit_stop (edit.Unlawful at) = stop.Refused (refusal.Unlawful at)
edit_stop (edit.TooDeep at) = stop.Refused (refusal.TooDeep at)
edit_stop (edit.TooManyItems count) = stop.Refused (refusal.TooManyItems count)
edit_stop edit.StoreFull = stop.Refused refusal.StoreFull
edit_stop edit.Memory = stop.Memory
