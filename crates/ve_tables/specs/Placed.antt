-- Cells placed in a grid so far, and the next one.
use Rattle.std.specs.Prelude.{◌≡◌, ◌⊎◌, ℕ, ◌+◌, true, false, List, [], ◌∷◌, ◌++◌, sum_by, codes, slice_get}
use Rattle.model_edit.specs.declared.grid_cell.GridCell.{GridCell}
use Rattle.model_edit.specs.declared.table_fault.TableFault.{TableFault}
use Rattle.model_edit.specs.declared.table_fault.TableFault.TheVariants.{Crooked, Memory}
use Rattle.model_items.specs.declared.plain_item.PlainItem.{PlainItem}
use Rattle.model_items.specs.Tree.{Open}
use Rattle.ve_base.specs.Limits.{max_row_span, max_column_span}
use Rattle.model_edit.specs.Grid.{first_free, is_crooked, cell_span, placed_cell}

-- the cells; the row in which more are placed, how many rows its section has from it on, and the
-- end of its last cell
pub record Placed : Type 0 where
  pub cells : List GridCell
  pub row : ℕ
  pub left : ℕ
  pub end : ℕ

-- the cell that is placed next, with its spans
abbrev pub next_cell : Placed → (at rows columns : ℕ) → GridCell
next_cell p at rows columns = record {
  at = at;
  row = p.row;
  column = first_free p.cells p.row p.end (sum_by (λ (c : GridCell). c.columns) p.cells);
  rows = rows;
  columns = columns;
}

abbrev pub with_next : Placed → GridCell → Placed
with_next p one = record { cells = p.cells ++ one ∷ []; row = p.row; left = p.left; end = one.column + one.columns }

-- it stands, and is placed
pub record IsNext (old : Placed) (one : GridCell) (new : Placed) : Type 0 where
  pub stands : is_crooked old.left old.cells one ≡ false
  pub placed : new ≡ with_next old one

-- it is crooked, or there is no memory
abbrev pub IsCellRefusal : Placed → GridCell → TableFault → Type 0
IsCellRefusal old one fault = (fault ≡ Memory) ⊎ ((is_crooked old.left old.cells one ≡ true) × (fault ≡ Crooked one.at))

-- The next cell is the one that the model positions after those before it in its row.
abbrev pub NextIsPlaced : Type 0
NextIsPlaced =
    (items : List PlainItem) (before : List GridCell) (row left end : ℕ) (cell : Open) →
    placed_cell items before row end cell
    ≡ next_cell (record { cells = before; row = row; left = left; end = end }) cell.from
    (cell_span (codes "rowspan") max_row_span (slice_get items cell.from)) (cell_span (codes "colspan") max_column_span (slice_get items cell.from))
