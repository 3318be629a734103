-- Down to which row each column is covered, by the runs of columns that are covered and those that are free.
use Rattle.std.specs.Prelude.{◌≡◌, ◌⊎◌, ℕ, ◌+◌, ◌<◌, ◌≤◌, ◌^◌, List, max, sum_by, nat_lt, All}
use Rattle.model_edit.specs.declared.grid_cell.GridCell.{GridCell}
use Rattle.model_edit.specs.Grid.{is_covered, right_end}
use Rattle.ve_tables.specs.Runs.{over, count_at, floor_at, IsBelow, IsSome, IsFree, AreFrom}
use Rattle.ve_tables.specs.declared.floors.Floors.{Floors}
use Rattle.ve_tables.specs.declared.runs.Run.{Run}

-- Each column that was ever covered is in one run, which is taken or free.
pub record AreApart (floors : Floors) : Type 0 where
  pub once : (c : ℕ) → count_at floors.free c + count_at floors.taken c ≡ over 0 floors.width c
  pub taken : All IsSome floors.taken
  pub free : All IsFree floors.free

-- From the row on the same places are covered.
pub record IsSettled (row : ℕ) (old new : Floors) : Type 0 where
  pub same : (r c : ℕ) → row ≤ r → nat_lt r (floor_at new.taken c) ≡ nat_lt r (floor_at old.taken c)
  pub width : new.width ≡ old.width

-- It is the first column that is in no taken run.
pub record IsFirst (floors : Floors) (column : ℕ) : Type 0 where
  pub high : column ≤ floors.width
  pub passed : (c : ℕ) → c < column → count_at floors.taken c ≡ 1
  pub free : count_at floors.taken column ≡ 0

-- ---- free runs taken out

-- The columns from one on up to another are those that are no longer free.
pub record AreOut (old : List Run) (from end : ℕ) (new : List Run) : Type 0 where
  pub order : from ≤ end
  pub less : (c : ℕ) → count_at old c ≡ over from end c + count_at new c
  pub rest : AreFrom end new

-- the next column isn't free, where it comes before another
abbrev pub IsStop : (end to : ℕ) → List Run → Type 0
IsStop end to free = (to ≤ end) ⊎ All (λ (run : Run). end < run.from) free

-- The columns from one on up to another are free too, if there are such.
pub record AreFreed (old : List Run) (from to : ℕ) (new : List Run) : Type 0 where
  pub more : (c : ℕ) → count_at new c ≡ over from to c + count_at old c
  pub free : All IsFree old → All IsFree new

-- ---- columns that a cell covers

-- one of them was covered already
abbrev pub HasTaken : List Run → (from to : ℕ) → Type 0
HasTaken taken from to = (c : ℕ) × (from ≤ c) × (c < to) × (count_at taken c ≡ 1)

-- None of them was, and they are now, down to one row; the others are as before.
pub record AreTaken (old : Floors) (from to floor : ℕ) (new : Floors) : Type 0 where
  pub free : (c : ℕ) → from ≤ c → c < to → count_at old.taken c ≡ 0
  pub inside : (c : ℕ) → from ≤ c → c < to → floor_at new.taken c ≡ floor
  pub outside : (c : ℕ) → (c < from) ⊎ (to ≤ c) → floor_at new.taken c ≡ floor_at old.taken c
  pub width : new.width ≡ max old.width to

-- A column is the first one that isn't covered in a row.
pub record IsFound (row : ℕ) (old : Floors) (column : ℕ) (found : Floors) : Type 0 where
  pub settled : IsSettled row old found
  pub apart : AreApart found
  pub below : All (IsBelow row) found.taken
  pub first : IsFirst found column

-- So many columns from there on are covered,
pub record IsCovering (row : ℕ) (old : Floors) (column columns floor : ℕ) (new : Floors) : Type 0 where
  pub at : Floors
  pub found : IsFound row old column at
  pub taken : AreTaken at column (column + columns) floor new
  pub apart : AreApart new
  pub fits : column + columns < 2 ^ 64

-- or one of them was.
pub record IsInTheWay (row : ℕ) (old : Floors) (columns : ℕ) : Type 0 where
  pub column : ℕ
  pub at : Floors
  pub found : IsFound row old column at
  pub taken : HasTaken at.taken column (column + columns)

-- ---- the floors of cells

-- it begins in the row or above it, and is at least one column wide
pub record IsBegun (row : ℕ) (cell : GridCell) : Type 0 where
  pub above : cell.row ≤ row
  pub wide : 1 ≤ cell.columns

-- Of the cells placed down to a row these are the floors: a column is covered in each row from that one on which is above its floor.
-- Left of the end of the row's cells each column is covered in the row.
pub record IsPlacing (cells : List GridCell) (row end : ℕ) (floors : Floors) : Type 0 where
  pub covered : (r c : ℕ) → row ≤ r → is_covered cells r c ≡ nat_lt r (floor_at floors.taken c)
  pub begun : All (IsBegun row) cells
  pub wide : floors.width ≡ right_end cells
  pub few : floors.width ≤ sum_by (λ (c : GridCell). c.columns) cells
  pub reached : (c : ℕ) → c < end → row < floor_at floors.taken c
  pub apart : AreApart floors
