-- The grid of a table: its rows, and the rectangle of each cell.
use Rattle.std.specs.Prelude.{ℕ, zero, suc, ◌+◌, ◌-◌, ◌*◌, max, Bool, ◌&&◌, ◌||◌, ◌==◌, nat_le, nat_lt, if◌then◌else◌, List, [], ◌∷◌, ◌++◌, length, filter, flat_map, fold, sum_by, codes, slice_get, Option, Some, None, Result, Ok, Err}
use Rattle.std.specs.List.{list_any}
use Rattle.ve_base.specs.Limits.{max_row_span, max_column_span}
use Rattle.ve_kinds.specs.declared.kind.Kind.{Kind}
use Rattle.ve_kinds.specs.declared.kind.Kind.TheVariants.{Table, Thead, Tbody, Tfoot, Tr, Td, Th}
use Rattle.model_items.specs.declared.plain_item.PlainItem.{PlainItem}
use Rattle.model_items.specs.declared.plain_item.PlainItem.TheVariants.{Opening}
use Rattle.ve_kinds.specs.Table.{is_among}
use Rattle.model_items.specs.Tree.{Open}
use Rattle.model_change.specs.Attributes.{value_of}
use Rattle.model_edit.specs.Brackets.{is_opening_of}
use Rattle.model_items.specs.Offsets.{children, passes}
use Rattle.model_edit.specs.declared.grid_cell.GridCell.{GridCell}
use Rattle.model_edit.specs.Causes.{TableCause, NotTable, Crooked}

abbrev pub children_of : List Kind → List PlainItem → ℕ → List Open
children_of kinds items at = filter (λ (node : Open). is_among kinds node.kind) (children items at)

-- a tr's position, and how many rows its section has from it on
pub record TableRow : Type 0 where
  pub at : ℕ
  pub left : ℕ

abbrev pub section_rows : List Open → List TableRow
section_rows [] = []
section_rows (tr ∷ later) = record { at = tr.from; left = suc (length later) } ∷ section_rows later

-- the rows of a table's sections, in order
abbrev pub table_rows : List PlainItem → ℕ → List TableRow
table_rows items at =
    flat_map (λ (section : Open). section_rows (children_of (Tr ∷ []) items section.from))
    (children_of (Thead ∷ Tbody ∷ Tfoot ∷ []) items at)

abbrev pub row_cells : List PlainItem → ℕ → List Open
row_cells items at = children_of (Td ∷ Th ∷ []) items at

-- the number that decimal digits spell
abbrev pub number_after : ℕ → List ℕ → Option ℕ
number_after n [] = Some n
number_after n (digit ∷ digits) =
    if nat_le 48 digit && nat_le digit 57 then number_after (n * 10 + (digit - 48)) digits else None

-- without a leading zero
abbrev pub decimal_number : List ℕ → Option ℕ
decimal_number [] = None
decimal_number (digit ∷ digits) = if digit == 48 then None else number_after 0 (digit ∷ digits)

abbrev pub span_by : ℕ → Option ℕ → ℕ
span_by most None = 1
span_by most (Some n) = if nat_le n most then n else 1

abbrev pub span_in : ℕ → Option (List ℕ) → ℕ
span_in most None = 1
span_in most (Some text) = span_by most (decimal_number text)

-- the span that an attribute of a cell spells, up to `most`, and else 1
abbrev pub cell_span : List ℕ → ℕ → Option PlainItem → ℕ
cell_span name most (Some (Opening kind head marks pre origin generated)) = span_in most (value_of name head.attrs)
cell_span name most _ = 1

-- the rectangle reaches over a row, and over a column
abbrev pub covers_row : GridCell → ℕ → Bool
covers_row cell row = nat_le cell.row row && nat_lt row (cell.row + cell.rows)

abbrev pub covers_column : GridCell → ℕ → Bool
covers_column cell column = nat_le cell.column column && nat_lt column (cell.column + cell.columns)

abbrev pub is_covered : List GridCell → (row column : ℕ) → Bool
is_covered cells row column = list_any (λ (cell : GridCell). covers_row cell row && covers_column cell column) cells

-- the least column from one on that no cell covers, `fuel` columns at most being covered
abbrev pub first_free : List GridCell → (row column fuel : ℕ) → ℕ
first_free cells row column zero = column
first_free cells row column (suc fuel) = if is_covered cells row column then first_free cells row (suc column) fuel else column

abbrev pub cells_meet : GridCell → GridCell → Bool
cells_meet a b =
    (nat_lt a.row (b.row + b.rows) && nat_lt b.row (a.row + a.rows))
    && (nat_lt a.column (b.column + b.columns) && nat_lt b.column (a.column + a.columns))

-- the next cell of a row, not left of `end`, after the cells before it
abbrev pub placed_cell : List PlainItem → List GridCell → (row end : ℕ) → Open → GridCell
placed_cell items before row end cell =
    record {
      at = cell.from;
      row = row;
      column = first_free before row end (sum_by (λ (c : GridCell). c.columns) before);
      rows = cell_span (codes "rowspan") max_row_span (slice_get items cell.from);
      columns = cell_span (codes "colspan") max_column_span (slice_get items cell.from);
    }

-- it covers a position that an earlier one covers, or passes the last row of its section
abbrev pub is_crooked : (left : ℕ) → List GridCell → GridCell → Bool
is_crooked left before cell = nat_lt left cell.rows || list_any (cells_meet cell) before

-- the cells before, and those of a row, each not left of the end of the one before it
abbrev pub with_row : List PlainItem → (row left end : ℕ) → List Open → List GridCell → Result (List GridCell) TableCause
with_row items row left end [] before = Ok before
with_row items row left end (cell ∷ cells) before =
    let one = placed_cell items before row end cell in
    if is_crooked left before one then Err (Crooked one.at)
    else with_row items row left (one.column + one.columns) cells (before ++ one ∷ [])

abbrev pub with_rows : List PlainItem → ℕ → List TableRow → Result (List GridCell) TableCause → Result (List GridCell) TableCause
with_rows items row rows (Err fault) = Err fault
with_rows items row [] (Ok before) = Ok before
with_rows items row (one ∷ rows) (Ok before) =
    with_rows items (suc row) rows (with_row items row one.left 0 (row_cells items one.at) before)

pub record Grid : Type 0 where
  pub rows : ℕ
  pub columns : ℕ
  pub cells : List GridCell

-- the greatest end of a column
abbrev pub right_end : List GridCell → ℕ
right_end cells = fold (λ end (cell : GridCell). max end (cell.column + cell.columns)) 0 cells

abbrev pub grid_with : ℕ → Result (List GridCell) TableCause → Result Grid TableCause
grid_with rows (Err fault) = Err fault
grid_with rows (Ok cells) = Ok (record { rows = rows; columns = right_end cells; cells = cells })

abbrev pub grid : List PlainItem → ℕ → Result Grid TableCause
grid items at =
    if passes (is_opening_of Table) (slice_get items at)
    then (let rows = table_rows items at in grid_with (length rows) (with_rows items 0 rows (Ok [])))
    else Err (NotTable at)
