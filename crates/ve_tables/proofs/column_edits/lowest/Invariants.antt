use Rattle.std.proofs.Common.{◌≡◌, drop}
use Rattle.ve_tables.specs.Covered.{AreInRows, floor_of}
use Rattle.ve_tables.proofs.column_edits.lowest.Given as goal

abbrev pub invariant-loop-cell : goal.invariant-loop-cell
invariant-loop-cell l = record {
  means : floor_of l.column l.lowest (drop l.cell-index l.cells) ≡ floor_of l.column l.fn.floor l.cells;
  rise : AreInRows 0 l.rows (drop l.cell-index l.cells);
}
