-- Which places cells cover, as they are passed row by row.
use Rattle.std.specs.Prelude.{◌≡◌, ℕ, suc, ◌+◌, ◌≤◌, ◌<◌, ◌==◌, max, true, false, if◌then◌else◌, List, [], ◌∷◌, ◌++◌, length, drop, filter, get_or, slice_range}
use Rattle.model_edit.specs.declared.grid_cell.GridCell.{GridCell}
use Rattle.model_edit.specs.Grid.{is_covered}
use Rattle.model_edit.specs.Tables.{spans_column}

-- The cells come row by row, from a row on, and none of them passes the last of so many rows.
abbrev pub AreInRows : (low rows : ℕ) → List GridCell → Type 0
AreInRows low rows [] = Unit {0}
AreInRows low rows (cell ∷ cells) = (low ≤ cell.row) × (cell.row + cell.rows ≤ rows) × AreInRows cell.row rows cells

-- Those from one on up to another are those that begin in a row.
pub record IsRun (row rows : ℕ) (cells : List GridCell) (from to : ℕ) : Type 0 where
  pub order : from ≤ to
  pub within : to ≤ length cells
  pub run : slice_range cells from to ≡ filter (λ (c : GridCell). c.row == row) (drop from cells)
  pub later : AreInRows (suc row) rows (drop to cells)

-- ---- columns that no cell covers

-- It is the first one in the row.
pub record IsGap (cells : List GridCell) (row column : ℕ) : Type 0 where
  pub before : (c : ℕ) → c < column → is_covered cells row c ≡ true
  pub free : is_covered cells row column ≡ false

-- These are those of so many rows.
pub record AreGaps (cells : List GridCell) (rows : ℕ) (gaps : List ℕ) : Type 0 where
  pub count : length gaps ≡ rows
  pub each : (row : ℕ) → row < rows → IsGap cells row (get_or gaps row 0)

-- that of a row comes after those of others
pub record HasGapNoted (cells : List GridCell) (row : ℕ) (old new : List ℕ) : Type 0 where
  pub column : ℕ
  pub is : IsGap cells row column
  pub more : new ≡ old ++ column ∷ []

-- ---- the floor of a column: the row below its lowest cell, or 0

-- the floor with one cell more, or with some, where only cells that span into a column count
abbrev pub floor_with : ℕ → ℕ → GridCell → ℕ
floor_with column floor cell = if spans_column column cell then max floor (cell.row + cell.rows) else floor

abbrev pub floor_of : ℕ → ℕ → List GridCell → ℕ
floor_of column floor [] = floor
floor_of column floor (cell ∷ cells) = floor_of column (floor_with column floor cell) cells
