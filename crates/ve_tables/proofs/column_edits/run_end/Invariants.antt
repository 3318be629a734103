use Rattle.std.proofs.Common.{◌≡◌, ◌≤◌, ◌++◌, ◌==◌, length, filter, drop, slice_range}
use Rattle.model_edit.specs.declared.grid_cell.GridCell.{GridCell}
use Rattle.ve_tables.specs.Covered.{AreInRows}
use Rattle.ve_tables.proofs.column_edits.run_end.Given as goal

abbrev pub invariant-loop-next : goal.invariant-loop-next
invariant-loop-next l = record {
  order : l.from ≤ l.next;
  within : l.next ≤ length l.cells;
  rise : AreInRows l.row l.rows (drop l.next l.cells);
  run : slice_range l.cells l.from l.next ++ filter (λ (c : GridCell). c.row == l.row) (drop l.next l.cells) ≡ filter (λ (c : GridCell). c.row == l.row) (drop l.from l.cells);
}
