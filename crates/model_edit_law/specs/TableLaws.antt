-- Laws of the calls on tables.
use Rattle.std.specs.Prelude.{◌≡◌, ◌⊎◌, ℕ, ◌<◌, List, [], length, filter_map, Some, None, Result, Ok, Err}
use Rattle.model_items.specs.declared.plain_item.PlainItem.{PlainItem}
use Rattle.model_items.specs.declared.law_fault.LawFault.TheVariants.{TooDeep}
use Rattle.model_items.specs.Law.{Lawful, verdict}
use Rattle.model_change.specs.Transaction.{Transaction, edited}
use Rattle.model_edit_law.specs.Fine.{Fine}
use Rattle.model_edit.specs.Grid.{Grid, grid}
use Rattle.model_edit.specs.Causes.{TableCause}
use Rattle.model_edit.specs.Layout.{Rectangle, Layout, layout_of, without_row, without_column, row_out_layout, col_out_layout}
use Rattle.model_edit_law.specs.Spans.{Line, lay, table_lines, lines_after, LowIn, lines_left, EachSome}
use Rattle.model_edit.specs.Tables.{row_in, col_in, row_out, col_out}

-- The transactions are reduced, apply, and can put back what they remove.
abbrev pub RowInIsFine : Type 0
RowInIsFine = (items : List PlainItem) (at row : ℕ) (t : Transaction) → Lawful items → row_in items at row ≡ Ok t → Fine items t

abbrev pub ColInIsFine : Type 0
ColInIsFine = (items : List PlainItem) (at column : ℕ) (t : Transaction) → Lawful items → col_in items at column ≡ Ok t → Fine items t

abbrev pub RowOutIsFine : Type 0
RowOutIsFine = (items : List PlainItem) (at row : ℕ) (t : Transaction) → Lawful items → row_out items at row ≡ Ok t → Fine items t

abbrev pub ColOutIsFine : Type 0
ColOutIsFine = (items : List PlainItem) (at column : ℕ) (t : Transaction) → Lawful items → col_out items at column ≡ Ok t → Fine items t

-- A row or a column taken out leaves a lawful list lawful.
abbrev pub RowOutStaysLawful : Type 0
RowOutStaysLawful = (items : List PlainItem) (at row : ℕ) (t : Transaction) → Lawful items → row_out items at row ≡ Ok t →
    Lawful (edited t items)

abbrev pub ColOutStaysLawful : Type 0
ColOutStaysLawful = (items : List PlainItem) (at column : ℕ) (t : Transaction) → Lawful items → col_out items at column ≡ Ok t →
    Lawful (edited t items)

-- The rectangles of a table without a row, in which each cell was one high, are those without the
-- row.
abbrev pub RowOutLays : Type 0
RowOutLays = (lines : List Line) (gone : ℕ) (all : List Rectangle) → gone < length lines → LowIn gone all →
    lay 0 lines (Some []) ≡ Some all → lay 0 (lines_after gone gone 0 lines) (Some []) ≡ Some (filter_map (without_row gone) all)

-- So are those of a table without a column, where each row keeps what is left of its cells.
abbrev pub ColOutLays : Type 0
ColOutLays = (lines : List Line) (gone : ℕ) (all : List Rectangle) → EachSome lines → lay 0 lines (Some []) ≡ Some all →
    lay 0 (lines_left gone all 0 lines) (Some []) ≡ Some (filter_map (without_column gone) all)

-- A grid's rectangles are those that its rows' spans give.
abbrev pub GridLays : Type 0
GridLays = (items : List PlainItem) (at : ℕ) (g : Grid) → grid items at ≡ Ok g →
    lay 0 (table_lines items at) (Some []) ≡ Some (layout_of g).rectangles

-- the rectangles of a grid, if there is one
abbrev pub laid_out : Result Grid TableCause → Result Layout TableCause
laid_out (Err fault) = Err fault
laid_out (Ok g) = Ok (layout_of g)

-- After a row is taken out a table's grid is the old one without the row, rectangle by rectangle in
-- the same order.
abbrev pub RowOutGrid : Type 0
RowOutGrid = (items : List PlainItem) (at row : ℕ) (t : Transaction) (g : Grid) → Lawful items → grid items at ≡ Ok g →
    row_out items at row ≡ Ok t → laid_out (grid (edited t items) at) ≡ Ok (row_out_layout (layout_of g) row)

-- After a column is taken out it is the old one without the column.
abbrev pub ColOutGrid : Type 0
ColOutGrid = (items : List PlainItem) (at column : ℕ) (t : Transaction) (g : Grid) → Lawful items → grid items at ≡ Ok g →
    col_out items at column ≡ Ok t → laid_out (grid (edited t items) at) ≡ Ok (col_out_layout (layout_of g) column)

-- A row put in leaves it lawful, or its nodes are nested over 100 deep.
abbrev pub RowInStaysLawful : Type 0
RowInStaysLawful = (items : List PlainItem) (at row : ℕ) (t : Transaction) → Lawful items → row_in items at row ≡ Ok t →
    (verdict (edited t items) ≡ None) ⊎ ((n : ℕ) × (verdict (edited t items) ≡ Some (TooDeep n)))

-- So does a column put in.
abbrev pub ColInStaysLawful : Type 0
ColInStaysLawful = (items : List PlainItem) (at column : ℕ) (t : Transaction) → Lawful items → col_in items at column ≡ Ok t →
    (verdict (edited t items) ≡ None) ⊎ ((n : ℕ) × (verdict (edited t items) ≡ Some (TooDeep n)))
