-- The grid after a row or a column is put in or taken out, in rectangles.
use Rattle.std.specs.Prelude.{ℕ, suc, ◌+◌, ◌-◌, max, Bool, not, ◌&&◌, ◌==◌, nat_le, nat_lt, if◌then◌else◌, List, [], ◌∷◌, ◌++◌, map, filter, flat_map, filter_map, fold, Option, Some, None}
use Rattle.std.specs.List.{list_any, range_with_len}
use Rattle.model_edit.specs.declared.grid_cell.GridCell.{GridCell}
use Rattle.model_edit.specs.Grid.{Grid}

pub record Rectangle : Type 0 where
  pub row : ℕ
  pub column : ℕ
  pub rows : ℕ
  pub columns : ℕ

-- rectangles by rows, and in a row by columns
pub record Layout : Type 0 where
  pub rows : ℕ
  pub columns : ℕ
  pub rectangles : List Rectangle

abbrev pub layout_of : Grid → Layout
layout_of g = record {
  rows = g.rows;
  columns = g.columns;
  rectangles = map (λ (c : GridCell). record { row = c.row; column = c.column; rows = c.rows; columns = c.columns }) g.cells;
}

abbrev pub end_of_columns : List Rectangle → ℕ
end_of_columns all = fold (λ end (r : Rectangle). max end (r.column + r.columns)) 0 all

abbrev pub with_rectangles : ℕ → List Rectangle → Layout
with_rectangles rows all = record { rows = rows; columns = end_of_columns all; rectangles = all }

abbrev pub one_by_one : (row column : ℕ) → Rectangle
one_by_one row column = record { row = row; column = column; rows = 1; columns = 1 }

abbrev pub has_row : Rectangle → ℕ → Bool
has_row r row = nat_le r.row row && nat_lt row (r.row + r.rows)

abbrev pub has_column : Rectangle → ℕ → Bool
has_column r column = nat_le r.column column && nat_lt column (r.column + r.columns)

-- it begins above the new row, or left of the new column, and reaches it
abbrev pub grows_down : ℕ → Rectangle → Bool
grows_down row r = nat_lt r.row row && has_row r row

abbrev pub grows_right : ℕ → Rectangle → Bool
grows_right column r = nat_lt r.column column && has_column r column

abbrev pub moved_down : ℕ → Rectangle → Rectangle
moved_down row r =
    if nat_le row r.row then record r { row = suc r.row }
    else (if grows_down row r then record r { rows = suc r.rows } else r)

abbrev pub moved_right : ℕ → Rectangle → Rectangle
moved_right column r =
    if nat_le column r.column then record r { column = suc r.column }
    else (if grows_right column r then record r { columns = suc r.columns } else r)

-- the columns at which nothing grows into the new row, and the rows at which nothing grows into the
-- new column
abbrev pub new_columns : Layout → ℕ → List ℕ
new_columns g row =
    filter (λ column. not (list_any (λ r. grows_down row r && has_column r column) g.rectangles)) (range_with_len 0 g.columns)

abbrev pub has_new_cell : Layout → ℕ → ℕ → Bool
has_new_cell g column row = not (list_any (λ r. grows_right column r && has_row r row) g.rectangles)

abbrev pub row_in_layout : Layout → ℕ → Layout
row_in_layout g row =
    with_rectangles (suc g.rows)
    (map (moved_down row) (filter (λ (r : Rectangle). nat_lt r.row row) g.rectangles)
    ++ (map (one_by_one row) (new_columns g row)
    ++ map (moved_down row) (filter (λ (r : Rectangle). nat_le row r.row) g.rectangles)))

abbrev pub in_row : Layout → ℕ → List Rectangle
in_row g row = filter (λ (r : Rectangle). r.row == row) g.rectangles

abbrev pub row_with_column : Layout → ℕ → ℕ → List Rectangle
row_with_column g column row =
    map (moved_right column) (filter (λ (r : Rectangle). nat_lt r.column column) (in_row g row))
    ++ ((if has_new_cell g column row then one_by_one row column ∷ [] else [])
    ++ map (moved_right column) (filter (λ (r : Rectangle). nat_le column r.column) (in_row g row)))

abbrev pub col_in_layout : Layout → ℕ → Layout
col_in_layout g column = with_rectangles g.rows (flat_map (row_with_column g column) (range_with_len 0 g.rows))

abbrev pub without_row : ℕ → Rectangle → Option Rectangle
without_row row r =
    if nat_lt row r.row then Some (record r { row = r.row - 1 })
    else (if has_row r row then (if r.rows == 1 then None else Some (record r { rows = r.rows - 1 })) else Some r)

abbrev pub without_column : ℕ → Rectangle → Option Rectangle
without_column column r =
    if nat_lt column r.column then Some (record r { column = r.column - 1 })
    else (if has_column r column then (if r.columns == 1 then None else Some (record r { columns = r.columns - 1 })) else Some r)

abbrev pub row_out_layout : Layout → ℕ → Layout
row_out_layout g row = with_rectangles (g.rows - 1) (filter_map (without_row row) g.rectangles)

abbrev pub col_out_layout : Layout → ℕ → Layout
col_out_layout g column = with_rectangles g.rows (filter_map (without_column column) g.rectangles)
