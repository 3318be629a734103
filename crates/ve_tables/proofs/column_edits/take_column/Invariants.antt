use Rattle.std.proofs.Common.{drop}
use Rattle.ve_offsets.specs.Docs.{page_items}
use Rattle.ve_tables.specs.PartWay.{IsPartWay, columns_removed}
use Rattle.ve_tables.proofs.column_edits.take_column.Given as goal

abbrev pub invariant-loop-cell : goal.invariant-loop-cell
invariant-loop-cell l =
    let P = page_items l.doc in
    IsPartWay l.doc.store.now l.doc.list.now.items (columns_removed P l.column l.cell-items) (columns_removed P l.column (drop l.cell-index l.cell-items)) l.initial.edits l.edits
