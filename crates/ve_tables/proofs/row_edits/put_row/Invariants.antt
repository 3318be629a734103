use Rattle.std.proofs.Common.{drop}
use Rattle.ve_tables.specs.PartWay.{IsPartWay, grown_rows}
use Rattle.ve_tables.proofs.row_edits.put_row.Given as goal

abbrev pub invariant-loop-cell : goal.invariant-loop-cell
invariant-loop-cell l =
    IsPartWay l.doc.store.now l.doc.list.now.items (grown_rows l.row l.cell-items) (grown_rows l.row (drop l.cell-index l.cell-items)) l.initial.edits l.edits
