use Rattle.std.proofs.Common.{length, map}
use Rattle.ve_offsets.specs.Docs.{page_items}
use Rattle.ve_tables.specs.Rows.{row_of}
use Rattle.ve_tables.proofs.ColumnLemmas.{IsWidenedTo}
use Rattle.ve_tables.proofs.column_edits.put_column.Given as goal

abbrev pub invariant-loop-row : goal.invariant-loop-row
invariant-loop-row l =
    IsWidenedTo l.doc.store.now l.doc.list.now.items (page_items l.doc) l.table.grid l.column (map row_of l.table.rows) (length l.table.rows) l.row l.from l.floor l.initial.edits l.edits
