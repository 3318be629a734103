-- Why an edit of a list, of a table or of a list item is refused. Want of memory is none of these:
-- no definition answers it.
use Rattle.std.specs.Prelude.{ℕ}
use Rattle.model_edit.specs.declared.build_fault.BuildFault.{BuildFault}
use Rattle.model_edit.specs.declared.build_fault.BuildFault.TheVariants as build
use Rattle.model_edit.specs.declared.table_fault.TableFault.{TableFault}
use Rattle.model_edit.specs.declared.table_fault.TableFault.TheVariants as table
use Rattle.model_edit.specs.declared.list_fault.ListFault.{ListFault}
use Rattle.model_edit.specs.declared.list_fault.ListFault.TheVariants as moved

pub data BuildCause : Type 0 where
  BadOffset : (at : ℕ) → BuildCause
  NoPlace : (at : ℕ) → BuildCause
  NotContent : (at : ℕ) → BuildCause
  BadDepth : (depth : ℕ) → BuildCause
  BadRange : (from to : ℕ) → BuildCause
  BadMark : BuildCause
  TooManyMarks : (at : ℕ) → BuildCause
  NotWrapped : (at : ℕ) → BuildCause
  NotBranch : (at : ℕ) → BuildCause
  NotOpening : (at : ℕ) → BuildCause
  BadAttr : (at : ℕ) → BuildCause

pub data TableCause : Type 0 where
  NotTable : (at : ℕ) → TableCause
  Crooked : (at : ℕ) → TableCause
  BadRow : (row rows : ℕ) → TableCause
  BadColumn : (column columns : ℕ) → TableCause
  TooWide : (columns : ℕ) → TableCause
  Ragged : (row : ℕ) → TableCause
  Spanned : (at : ℕ) → TableCause
  SpanFull : (at : ℕ) → TableCause

pub data ListCause : Type 0 where
  NotListItem : (at : ℕ) → ListCause
  NoSibling : (at : ℕ) → ListCause
  NotNested : (at : ℕ) → ListCause

-- the fault by which a call tells of a cause
abbrev pub build_fault : BuildCause → BuildFault
build_fault (BadOffset at) = build.BadOffset at
build_fault (NoPlace at) = build.NoPlace at
build_fault (NotContent at) = build.NotContent at
build_fault (BadDepth depth) = build.BadDepth depth
build_fault (BadRange from to) = build.BadRange from to
build_fault BadMark = build.BadMark
build_fault (TooManyMarks at) = build.TooManyMarks at
build_fault (NotWrapped at) = build.NotWrapped at
build_fault (NotBranch at) = build.NotBranch at
build_fault (NotOpening at) = build.NotOpening at
build_fault (BadAttr at) = build.BadAttr at

abbrev pub table_fault : TableCause → TableFault
table_fault (NotTable at) = table.NotTable at
table_fault (Crooked at) = table.Crooked at
table_fault (BadRow row rows) = table.BadRow row rows
table_fault (BadColumn column columns) = table.BadColumn column columns
table_fault (TooWide columns) = table.TooWide columns
table_fault (Ragged row) = table.Ragged row
table_fault (Spanned at) = table.Spanned at
table_fault (SpanFull at) = table.SpanFull at

abbrev pub list_fault : ListCause → ListFault
list_fault (NotListItem at) = moved.NotListItem at
list_fault (NoSibling at) = moved.NoSibling at
list_fault (NotNested at) = moved.NotNested at
