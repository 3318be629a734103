use Rattle.std.proofs.Common.{drop}
use Rattle.ve_tables.specs.PartWay.{IsPartWay, grown_columns}
use Rattle.ve_tables.proofs.column_edits.grow_cells.Given as goal

abbrev pub invariant-loop-cell : goal.invariant-loop-cell
invariant-loop-cell l =
    IsPartWay l.doc.store.now l.doc.list.now.items (grown_columns l.column l.cells) (grown_columns l.column (drop l.cell-index l.cells)) l.fn.edits l.edits
