use Rattle.std.proofs.Common.{◌≡◌, drop}
use Rattle.ve_offsets.specs.Docs.{page_items}
use Rattle.ve_tables.specs.Rows.{row_placed}
use Rattle.ve_tables.proofs.cells.place_cells.Given as goal

abbrev pub invariant-loop-cell : goal.invariant-loop-cell
invariant-loop-cell l = record {
  means : row_placed (page_items l.fn.doc) l.placed (drop l.cell-index l.cells) ≡ row_placed (page_items l.fn.doc) l.fn.placing l.cells;
  row : l.placed.row ≡ l.fn.placing.row;
}
