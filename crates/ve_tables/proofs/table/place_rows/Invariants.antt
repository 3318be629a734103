use Rattle.std.proofs.Common.{◌≡◌, ◌≤◌, [], drop}
use Rattle.ve_offsets.specs.Docs.{page_items}
use Rattle.ve_tables.specs.Covered.{AreGaps}
use Rattle.ve_tables.specs.Rows.{rows_after}
use Rattle.ve_tables.proofs.table.place_rows.Given as goal

abbrev pub invariant-loop-i : goal.invariant-loop-i
invariant-loop-i l = record {
  means : rows_after (page_items l.fn.doc) l.i (drop l.i l.rows) l.placing.cells ≡ rows_after (page_items l.fn.doc) 0 l.rows [];
  row : l.placing.row ≤ l.i;
  gaps : AreGaps l.placing.cells l.i l.gaps;
}
