-- Rows and columns put into a table and taken out.
use Rattle.std.specs.Prelude.{ℕ, zero, suc, ◌-◌, Bool, true, false, not, ◌&&◌, ◌||◌, ◌==◌, nat_le, nat_lt, if◌then◌else◌, List, [], ◌∷◌, ◌++◌, map, filter, flat_map, codes, decimal, slice_get, Option, Some, None, Result, Ok, Err}
use Rattle.std.specs.List.{list_any, range_with_len, enumerate_from}
use Rattle.ve_base.specs.Limits.{max_row_span, max_column_span}
use Rattle.ve_kinds.specs.declared.kind.Kind.TheVariants.{Tr, Td, P}
use Rattle.model_items.specs.declared.plain_item.PlainItem.{PlainItem}
use Rattle.model_change.specs.Transaction.{Transaction}
use Rattle.model_edit.specs.Brackets.{opening_of, closing_of}
use Rattle.model_items.specs.Offsets.{partner, end_of_node}
use Rattle.model_edit.specs.Edits.{Edit, Change, Set, transaction_of}
use Rattle.model_edit.specs.declared.grid_cell.GridCell.{GridCell}
use Rattle.model_edit.specs.Causes.{TableCause, BadRow, BadColumn, TooWide, Ragged, Spanned, SpanFull}
use Rattle.model_edit.specs.Grid.{Grid, TableRow, grid, table_rows, covers_row, covers_column, is_covered}

abbrev pub set_rows : ℕ → GridCell → Edit
set_rows rows cell = Set cell.at (codes "rowspan") (Some (decimal rows))

abbrev pub set_columns : ℕ → GridCell → Edit
set_columns columns cell = Set cell.at (codes "colspan") (Some (decimal columns))

abbrev pub new_cell : List PlainItem
new_cell = opening_of Td [] ∷ opening_of P [] ∷ closing_of P ∷ closing_of Td ∷ []

-- it begins before the row, or the column, and reaches it
abbrev pub spans_row : ℕ → GridCell → Bool
spans_row row cell = nat_lt cell.row row && covers_row cell row

abbrev pub spans_column : ℕ → GridCell → Bool
spans_column column cell = nat_lt cell.column column && covers_column cell column

abbrev pub fault_or : Option TableCause → Transaction → Result Transaction TableCause
fault_or (Some fault) t = Err fault
fault_or None t = Ok t

-- the first cause that holds
abbrev pub first_fault : List (Bool × TableCause) → Option TableCause
first_fault [] = None
first_fault ((true, fault) ∷ causes) = Some fault
first_fault ((false, fault) ∷ causes) = first_fault causes

-- the tests on the cells, each with its fault
abbrev pub at_first : (GridCell → Bool) → List GridCell → (ℕ → TableCause) → List (Bool × TableCause)
at_first test [] named = []
at_first test (cell ∷ cells) named = (test cell, named cell.at) ∷ at_first test cells named

abbrev pub on_grid : Result Grid TableCause → (Grid → Result Transaction TableCause) → Result Transaction TableCause
on_grid (Err fault) f = Err fault
on_grid (Ok g) f = f g

-- before the row, or after the last one
abbrev pub row_place : List PlainItem → List TableRow → ℕ → ℕ
row_place items [] row = 0
row_place items (one ∷ []) zero = one.at
row_place items (one ∷ []) (suc row) = end_of_node items one.at
row_place items (one ∷ next ∷ rows) zero = one.at
row_place items (one ∷ next ∷ rows) (suc row) = row_place items (next ∷ rows) row

-- a row with a new cell in each column that no cell spans into it
abbrev pub new_row : Grid → ℕ → List PlainItem
new_row g row =
    opening_of Tr []
    ∷ flat_map
    (λ column. if list_any (λ c. spans_row row c && covers_column c column) g.cells then [] else new_cell)
    (range_with_len 0 g.columns)
    ++ closing_of Tr ∷ []

abbrev pub row_in_edits : List PlainItem → List TableRow → ℕ → Grid → List Edit
row_in_edits items rows row g =
    map (λ (c : GridCell). set_rows (suc c.rows) c) (filter (spans_row row) g.cells)
    ++ Change (row_place items rows row) 0 (new_row g row) ∷ []

abbrev pub row_in : List PlainItem → ℕ → ℕ → Result Transaction TableCause
row_in items at row = on_grid (grid items at) (λ (g : Grid).
    fault_or
    (first_fault
    (((g.rows == 0) || nat_lt g.rows row, BadRow row g.rows)
    ∷ (nat_lt max_column_span g.columns, TooWide g.columns)
    ∷ at_first (λ (c : GridCell). spans_row row c && nat_le max_row_span c.rows) g.cells (λ cell. SpanFull cell)))
    (transaction_of items (row_in_edits items (table_rows items at) row g)))

abbrev pub has_gap_before : List GridCell → (row column : ℕ) → Bool
has_gap_before cells row column = list_any (λ k. not (is_covered cells row k)) (range_with_len 0 column)

-- just before the first of a row's cells at or right of the column, else just after the last, else
-- before the row's closing
abbrev pub cell_place : List PlainItem → TableRow → ℕ → List GridCell → ℕ
cell_place items row column [] = partner items row.at
cell_place items row column (cell ∷ []) = if nat_le column cell.column then cell.at else end_of_node items cell.at
cell_place items row column (cell ∷ next ∷ cells) =
    if nat_le column cell.column then cell.at else cell_place items row column (next ∷ cells)

-- in one row the cells that grow, and the new cell where none grows into it
abbrev pub column_edits : List PlainItem → ℕ → Grid → ℕ × TableRow → List Edit
column_edits items column g (index, row) =
    let cells = filter (λ (c : GridCell). c.row == index) g.cells in
    map (λ (c : GridCell). set_columns (suc c.columns) c) (filter (spans_column column) cells)
    ++ (if list_any (λ c. spans_column column c && covers_row c index) g.cells then []
    else Change (cell_place items row column cells) 0 new_cell ∷ [])

abbrev pub col_in : List PlainItem → ℕ → ℕ → Result Transaction TableCause
col_in items at column = on_grid (grid items at) (λ (g : Grid).
    fault_or
    (first_fault
    (((g.columns == 0) || nat_lt g.columns column, BadColumn column g.columns)
    ∷ map (λ row. (has_gap_before g.cells row column, Ragged row)) (range_with_len 0 g.rows)
    ++ at_first (λ (c : GridCell). spans_column column c && nat_le max_column_span c.columns) g.cells (λ cell. SpanFull cell)))
    (transaction_of items (flat_map (column_edits items column g) (enumerate_from 0 (table_rows items at)))))

abbrev pub whole_node : List PlainItem → ℕ → Edit
whole_node items at = Change at (end_of_node items at - at) []

abbrev pub row_removed : List PlainItem → Option TableRow → List Edit
row_removed items (Some row) = whole_node items row.at ∷ []
row_removed items None = []

abbrev pub row_out : List PlainItem → ℕ → ℕ → Result Transaction TableCause
row_out items at row = on_grid (grid items at) (λ (g : Grid).
    fault_or
    (first_fault
    ((nat_le g.rows row, BadRow row g.rows)
    ∷ at_first (λ (c : GridCell). (c.row == row) && nat_lt 1 c.rows) g.cells (λ cell. Spanned cell)))
    (transaction_of items
    (map (λ (c : GridCell). set_rows (c.rows - 1) c) (filter (spans_row row) g.cells)
    ++ row_removed items (slice_get (table_rows items at) row))))

-- a cell of the column alone goes, and another that reaches over it shrinks
abbrev pub cell_removed : List PlainItem → GridCell → Edit
cell_removed items cell = if cell.columns == 1 then whole_node items cell.at else set_columns (cell.columns - 1) cell

abbrev pub col_out : List PlainItem → ℕ → ℕ → Result Transaction TableCause
col_out items at column = on_grid (grid items at) (λ (g : Grid).
    fault_or
    (first_fault ((nat_le g.columns column, BadColumn column g.columns) ∷ []))
    (transaction_of items (map (cell_removed items) (filter (λ (c : GridCell). covers_column c column) g.cells))))
