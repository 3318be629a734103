-- The insides of a table's cells after a row or a column is put in or taken out.
use Rattle.std.specs.Prelude.{◌≡◌, ℕ, ◌==◌, nat_le, nat_lt, if◌then◌else◌, List, [], ◌∷◌, ◌++◌, map, filter, filter_map, flat_map, Result, Ok}
use Rattle.std.specs.List.{range_with_len}
use Rattle.model_items.specs.declared.plain_item.PlainItem.{PlainItem}
use Rattle.model_items.specs.Law.{Lawful}
use Rattle.model_change.specs.Transaction.{Transaction, edited}
use Rattle.model_edit.specs.Grid.{Grid, grid}
use Rattle.model_edit.specs.Layout.{layout_of, one_by_one, new_columns, has_new_cell, moved_down, moved_right, without_row, without_column}
use Rattle.model_edit.specs.Tables.{row_in, col_in, row_out, col_out}
use Rattle.model_table_law.specs.Cells.{FilledCell, filled_cells, filled_at, at_rectangle, at_rest, new_filled}

-- Without a row or a column the other cells stand in order, at what is left of their rectangles.
abbrev pub RowOutKeeps : Type 0
RowOutKeeps = (items : List PlainItem) (at row : ℕ) (t : Transaction) (g : Grid) → Lawful items → grid items at ≡ Ok g →
    row_out items at row ≡ Ok t → filled_at (edited t items) at ≡ Ok (filter_map (at_rest (without_row row)) (filled_cells items g))

abbrev pub ColOutKeeps : Type 0
ColOutKeeps = (items : List PlainItem) (at column : ℕ) (t : Transaction) (g : Grid) → Lawful items → grid items at ≡ Ok g →
    col_out items at column ≡ Ok t → filled_at (edited t items) at ≡ Ok (filter_map (at_rest (without_column column)) (filled_cells items g))

-- the cells above a new row, its own, and those below
abbrev pub row_in_cells : Grid → ℕ → List FilledCell → List FilledCell
row_in_cells g row cells =
    map (at_rectangle (moved_down row)) (filter (λ (c : FilledCell). nat_lt c.rectangle.row row) cells)
    ++ (map (λ column. new_filled (one_by_one row column)) (new_columns (layout_of g) row)
    ++ map (at_rectangle (moved_down row)) (filter (λ (c : FilledCell). nat_le row c.rectangle.row) cells))

abbrev pub RowInKeeps : Type 0
RowInKeeps = (items : List PlainItem) (at row : ℕ) (t : Transaction) (g : Grid) → Lawful items → grid items at ≡ Ok g →
    row_in items at row ≡ Ok t → filled_at (edited t items) at ≡ Ok (row_in_cells g row (filled_cells items g))

-- a row's cells left of a new column, its new cell where there is one, and those right of it
abbrev pub row_of_cells : Grid → ℕ → List FilledCell → ℕ → List FilledCell
row_of_cells g column cells row =
    map (at_rectangle (moved_right column)) (filter (λ (c : FilledCell). nat_lt c.rectangle.column column) (in_row cells))
    ++ ((if has_new_cell (layout_of g) column row then new_filled (one_by_one row column) ∷ [] else [])
    ++ map (at_rectangle (moved_right column)) (filter (λ (c : FilledCell). nat_le column c.rectangle.column) (in_row cells)))
  where
    in_row : List FilledCell → List FilledCell
    in_row all = filter (λ (c : FilledCell). c.rectangle.row == row) all

abbrev pub ColInKeeps : Type 0
ColInKeeps = (items : List PlainItem) (at column : ℕ) (t : Transaction) (g : Grid) → Lawful items → grid items at ≡ Ok g →
    col_in items at column ≡ Ok t →
    filled_at (edited t items) at ≡ Ok (flat_map (row_of_cells g column (filled_cells items g)) (range_with_len 0 g.rows))
