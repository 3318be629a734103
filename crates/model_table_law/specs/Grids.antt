-- The grid after a row or a column is put in.
use Rattle.std.specs.Prelude.{◌≡◌, ℕ, List, Result, Ok}
use Rattle.model_items.specs.declared.plain_item.PlainItem.{PlainItem}
use Rattle.model_items.specs.Law.{Lawful}
use Rattle.model_change.specs.Transaction.{Transaction, edited}
use Rattle.model_edit.specs.Grid.{Grid, grid}
use Rattle.model_edit.specs.Layout.{layout_of, row_in_layout, col_in_layout}
use Rattle.model_edit.specs.Tables.{row_in, col_in}
use Rattle.model_edit_law.specs.TableLaws.{laid_out}

-- After a row is put in a table's grid is the old one with the row, rectangle by rectangle in the
-- same order.
abbrev pub RowInGrid : Type 0
RowInGrid = (items : List PlainItem) (at row : ℕ) (t : Transaction) (g : Grid) → Lawful items → grid items at ≡ Ok g →
    row_in items at row ≡ Ok t → laid_out (grid (edited t items) at) ≡ Ok (row_in_layout (layout_of g) row)

-- After a column is put in it is the old one with the column.
abbrev pub ColInGrid : Type 0
ColInGrid = (items : List PlainItem) (at column : ℕ) (t : Transaction) (g : Grid) → Lawful items → grid items at ≡ Ok g →
    col_in items at column ≡ Ok t → laid_out (grid (edited t items) at) ≡ Ok (col_in_layout (layout_of g) column)
