-- Tests of a table's cells, and the causes that refuse a change of it.
use Rattle.std.specs.Option.{option_or}
use Rattle.std.specs.Prelude.{◌≡◌, ℕ, Bool, ◌&&◌, ◌||◌, ◌==◌, nat_le, nat_lt, List, [], ◌∷◌, ◌++◌, map, Option, option_map}
use Rattle.std.specs.List.{range_with_len}
use Rattle.ve_base.specs.Limits.{max_row_span, max_column_span}
use Rattle.model_edit.specs.declared.grid_cell.GridCell.{GridCell}
use Rattle.model_edit.specs.declared.table_fault.TableFault.{TableFault}
use Rattle.model_edit.specs.Causes.{TableCause, BadRow, BadColumn, TooWide, Ragged, Spanned, SpanFull, table_fault}
use Rattle.model_edit.specs.Grid.{Grid}
use Rattle.model_edit.specs.Tables.{spans_row, spans_column, first_fault, at_first, has_gap_before}
use Rattle.ve_tables.specs.declared.cell_questions.CellQuestion.{CellQuestion}
use Rattle.ve_tables.specs.declared.cell_questions.CellQuestion.TheVariants.{IsFullAtRow, IsFullAtColumn, GoesBelow}

abbrev pub cell_answer : CellQuestion → GridCell → Bool
cell_answer (IsFullAtRow row) cell = spans_row row cell && nat_le max_row_span cell.rows
cell_answer (IsFullAtColumn column) cell = spans_column column cell && nat_le max_column_span cell.columns
cell_answer (GoesBelow row) cell = (cell.row == row) && nat_lt 1 cell.rows

-- the fault that tells of the first cause that holds
abbrev pub refusal : List (Bool × TableCause) → Option TableFault
refusal causes = option_map table_fault (first_fault causes)

-- The causes of each call in their order, each with whether it holds.
abbrev pub row_in_causes : ℕ → Grid → List (Bool × TableCause)
row_in_causes row g =
    ((g.rows == 0) || nat_lt g.rows row, BadRow row g.rows)
    ∷ (nat_lt max_column_span g.columns, TooWide g.columns)
    ∷ at_first (cell_answer (IsFullAtRow row)) g.cells (λ at. SpanFull at)

abbrev pub row_out_causes : ℕ → Grid → List (Bool × TableCause)
row_out_causes row g = (nat_le g.rows row, BadRow row g.rows) ∷ at_first (cell_answer (GoesBelow row)) g.cells (λ at. Spanned at)

abbrev pub ragged_causes : ℕ → Grid → (row count : ℕ) → List (Bool × TableCause)
ragged_causes column g row count = map (λ row. (has_gap_before g.cells row column, Ragged row)) (range_with_len row count)

-- The row found is the first ragged one: it is told before whatever causes come after, and these
-- alone are told where there is none.
abbrev pub IsFirstRagged : ℕ → Grid → Option ℕ → Type 0
IsFirstRagged column g found =
    (later : List (Bool × TableCause)) → first_fault (ragged_causes column g 0 g.rows ++ later) ≡ option_or (option_map Ragged found) (first_fault later)

abbrev pub col_in_causes : ℕ → Grid → List (Bool × TableCause)
col_in_causes column g =
    ((g.columns == 0) || nat_lt g.columns column, BadColumn column g.columns)
    ∷ ragged_causes column g 0 g.rows
    ++ at_first (cell_answer (IsFullAtColumn column)) g.cells (λ at. SpanFull at)

abbrev pub col_out_causes : ℕ → Grid → List (Bool × TableCause)
col_out_causes column g = (nat_le g.columns column, BadColumn column g.columns) ∷ []
