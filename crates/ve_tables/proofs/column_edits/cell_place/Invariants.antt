use Rattle.std.proofs.Common.{◌≡◌, ◌<◌, ℕ, false, nat_le, get_or}
use Rattle.model_edit.specs.declared.grid_cell.GridCell.{GridCell}
use Rattle.ve_tables.proofs.column_edits.cell_place.Given as goal

abbrev pub invariant-loop-cell : goal.invariant-loop-cell
invariant-loop-cell l = (k : ℕ) (d : GridCell) → k < l.cell-index → nat_le l.column (get_or l.cells k d).column ≡ false
