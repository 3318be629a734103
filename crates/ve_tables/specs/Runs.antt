-- Runs of columns, the least number first, and what they come to at a column.
use Rattle.std.specs.Prelude.{◌≡◌, ℕ, ◌<◌, ◌≤◌, ◌&&◌, if◌then◌else◌, List, ◌∷◌, All, sum_by, nat_le, nat_lt}
use Rattle.std.specs.Ordering.{nat_cmp, ordering_then}
use Rattle.std.specs.declared.cmp.Ordering.{Ordering}
use Rattle.std.specs.declared.cmp.Reverse.{Reverse}
use Rattle.ve_tables.specs.declared.runs.Run.{Run}

abbrev pub run_of : Reverse Run → Run
run_of turned = turned.0

-- the order of the heap, whose greatest comes first
abbrev pub later_first : Reverse Run → Reverse Run → Ordering
later_first a b =
    ordering_then (nat_cmp b.0.number a.0.number) (ordering_then (nat_cmp b.0.from a.0.from) (nat_cmp b.0.to a.0.to))

-- It is the number of one of the runs, and none has a lower one.
pub record IsLeast (number : ℕ) (runs : List Run) : Type 0 where
  pub least : All (λ (run : Run). number ≤ run.number) runs
  pub first : Run
  pub later : List Run
  pub are : runs ≡ first ∷ later
  pub is : number ≡ first.number

-- 1 for the columns from one on up to another, and 0 for the others
abbrev pub over : (from to column : ℕ) → ℕ
over from to column = if nat_le from column && nat_lt column to then 1 else 0

-- how many runs reach over a column
abbrev pub count_at : List Run → ℕ → ℕ
count_at runs column = sum_by (λ (run : Run). over run.from run.to column) runs

-- the number of the run that does, or 0, where there is one at most
abbrev pub floor_at : List Run → ℕ → ℕ
floor_at runs column =
    sum_by (λ (run : Run). if nat_le run.from column && nat_lt column run.to then run.number else 0) runs

abbrev pub IsBelow : ℕ → Run → Type 0
IsBelow row run = row < run.number

-- it has a column; a free one has its first column as its number
abbrev pub IsSome : Run → Type 0
IsSome run = run.from < run.to

pub record IsFree (run : Run) : Type 0 where
  pub some : run.from < run.to
  pub begins : run.number ≡ run.from

-- They lie from a column on, and apart.
pub record AreFrom (from : ℕ) (runs : List Run) : Type 0 where
  pub once : (c : ℕ) → count_at runs c ≤ 1
  pub free : All IsFree runs
  pub later : All (λ (run : Run). from ≤ run.from) runs
