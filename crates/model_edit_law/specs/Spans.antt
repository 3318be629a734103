-- A table as the spans of its cells, row by row, and the rectangles that these give.
use Rattle.std.specs.Prelude.{◌≡◌, ◌≤◌, ℕ, zero, suc, ◌+◌, ◌-◌, ◌==◌, Bool, ◌&&◌, ◌||◌, nat_lt, if◌then◌else◌, List, [], ◌∷◌, ◌++◌, map, filter, filter_map, sum_by, Option, Some, None, codes, slice_get}
use Rattle.std.specs.List.{list_any}
use Rattle.model_items.specs.Tree.{Open}
use Rattle.model_items.specs.declared.plain_item.PlainItem.{PlainItem}
use Rattle.model_edit.specs.declared.grid_cell.GridCell.{GridCell}
use Rattle.ve_base.specs.Limits.{max_row_span, max_column_span}
use Rattle.model_edit.specs.Grid.{TableRow, table_rows, row_cells, cell_span}
use Rattle.model_edit.specs.Layout.{Rectangle, has_row, has_column, without_column}

abbrev pub covers_cell : List Rectangle → ℕ → ℕ → Bool
covers_cell all row column = list_any (λ (r : Rectangle). has_row r row && has_column r column) all

-- the least free column, by a walk
abbrev pub free_from : List Rectangle → (row column fuel : ℕ) → ℕ
free_from all row column zero = column
free_from all row column (suc fuel) = if covers_cell all row column then free_from all row (suc column) fuel else column

abbrev pub width : List Rectangle → ℕ
width cells = sum_by (λ (c : Rectangle). c.columns) cells

abbrev pub rectangle_of : GridCell → Rectangle
rectangle_of c = record { row = c.row; column = c.column; rows = c.rows; columns = c.columns }

pub record CellSpan : Type 0 where
  pub rows : ℕ
  pub columns : ℕ

-- a row: how many rows its section has from it on, and its cells
pub record Line : Type 0 where
  pub left : ℕ
  pub spans : List CellSpan

abbrev pub meet : Rectangle → Rectangle → Bool
meet a b =
    (nat_lt a.row (b.row + b.rows) && nat_lt b.row (a.row + a.rows))
    && (nat_lt a.column (b.column + b.columns) && nat_lt b.column (a.column + a.columns))

abbrev pub laid : List Rectangle → (row end : ℕ) → CellSpan → Rectangle
laid before row end s = record { row = row; column = free_from before row end (width before); rows = s.rows; columns = s.columns }

abbrev pub bent : ℕ → List Rectangle → Rectangle → Bool
bent left before one = nat_lt left one.rows || list_any (meet one) before

-- the rectangles of a row's cells after those before, nothing where one is crooked
abbrev pub lay_row : (row left end : ℕ) → List CellSpan → List Rectangle → Option (List Rectangle)
lay_row row left end [] before = Some before
lay_row row left end (s ∷ spans) before =
    let one = laid before row end s in
    if bent left before one then None else lay_row row left (one.column + one.columns) spans (before ++ one ∷ [])

abbrev pub lay : ℕ → List Line → Option (List Rectangle) → Option (List Rectangle)
lay row lines None = None
lay row [] (Some before) = Some before
lay row (line ∷ lines) (Some before) = lay (suc row) lines (lay_row row line.left 0 line.spans before)

-- above the row that goes, a cell that reaches it is one less high
abbrev pub span_after : (gone row : ℕ) → CellSpan → CellSpan
span_after gone row s = if nat_lt gone (row + s.rows) then record s { rows = s.rows - 1 } else s

abbrev pub line_after : (gone row : ℕ) → Line → Line
line_after gone row line = record {
  left = if nat_lt gone (row + line.left) then line.left - 1 else line.left;
  spans = map (span_after gone row) line.spans;
}

-- the row is `above` rows further on
abbrev pub lines_after : (gone above row : ℕ) → List Line → List Line
lines_after gone above row [] = []
lines_after gone zero row (line ∷ lines) = lines
lines_after gone (suc above) row (line ∷ lines) = line_after gone row line ∷ lines_after gone above (suc row) lines

-- those that begin in the row are one high
abbrev pub LowIn : ℕ → List Rectangle → Type 0
LowIn gone [] = Unit {0}
LowIn gone (r ∷ all) = (r.row ≡ gone → r.rows ≡ 1) × LowIn gone all

-- a cell's spans, and the rows of a table
abbrev pub cell_span_at : List PlainItem → Open → CellSpan
cell_span_at items cell = record {
  rows = cell_span (codes "rowspan") max_row_span (slice_get items cell.from);
  columns = cell_span (codes "colspan") max_column_span (slice_get items cell.from);
}

abbrev pub line_at : List PlainItem → TableRow → Line
line_at items row = record { left = row.left; spans = map (cell_span_at items) (row_cells items row.at) }

abbrev pub table_lines : List PlainItem → ℕ → List Line
table_lines items at = map (line_at items) (table_rows items at)

-- a rectangle's spans, and the rectangles that begin in a row
abbrev pub size_of : Rectangle → CellSpan
size_of r = record { rows = r.rows; columns = r.columns }

abbrev pub of_row : List Rectangle → ℕ → List Rectangle
of_row all row = filter (λ (r : Rectangle). r.row == row) all

-- each row with the spans of what is left of its rectangles without a column
abbrev pub lines_left : (gone : ℕ) → List Rectangle → (row : ℕ) → List Line → List Line
lines_left gone all row [] = []
lines_left gone all row (line ∷ lines) =
    record { left = line.left; spans = map size_of (filter_map (without_column gone) (of_row all row)) }
    ∷ lines_left gone all (suc row) lines

-- no span is 0
abbrev pub AllSome : List CellSpan → Type 0
AllSome [] = Unit {0}
AllSome (s ∷ spans) = (1 ≤ s.rows) × (1 ≤ s.columns) × AllSome spans

abbrev pub EachSome : List Line → Type 0
EachSome [] = Unit {0}
EachSome (line ∷ lines) = AllSome line.spans × EachSome lines
