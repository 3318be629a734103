-- What the rows of cells say of the places that they cover.
use Rattle.std.specs.List.{list_any, range_with_len}
use Rattle.std.proofs.Common.{◌≡◌, ℕ, zero, suc, ◌+◌, ◌-◌, ◌<◌, ◌≤◌, max, Bool, true, false, not, ◌&&◌, ◌||◌, if◌then◌else◌, nat_lt, nat_le, Some, List, [], ◌∷◌, ◌++◌, length, take, drop, get_or, refl, sym, ap, ◌∙◌, subst, arith, take-append-drop, zero-add}
use Rattle.std.proofs.lemmas.Bool.{le-leb}
use Rattle.std.proofs.lemmas.Bool.Decides.{nat_tests}
use Rattle.std.proofs.lemmas.List.{drop_more}
use Rattle.std.proofs.lemmas.List.Folds.{list_any-append}
use Rattle.model_edit.specs.declared.grid_cell.GridCell.{GridCell}
use Rattle.model_edit.specs.Causes.{TableCause, Ragged}
use Rattle.model_edit.specs.Grid.{Grid, covers_row, covers_column, is_covered}
use Rattle.model_edit.specs.Tables.{has_gap_before, first_fault}
use Rattle.ve_tables.specs.CellQuestions.{ragged_causes}
use Rattle.ve_tables.specs.Covered.{AreInRows}

-- a cell at or above a row covers it exactly where it ends below
covers_below : (cell : GridCell) (r : ℕ) → cell.row ≤ r → covers_row cell r ≡ nat_lt r (cell.row + cell.rows)
covers_below cell r above = ap (λ b. b && nat_lt r (cell.row + cell.rows)) (le-leb cell.row r above)

less_of_max : (r a b : ℕ) → nat_lt r (max a b) ≡ (nat_lt r a || nat_lt r b)
less_of_max r a b = grind (arith, nat_tests)

or_none : (a : Bool) → (a || false) ≡ a
or_none true = refl
or_none false = refl

and_none : (a : Bool) → (a && false) ≡ false
and_none true = refl
and_none false = refl

and_all : (a : Bool) → (a && true) ≡ a
and_all true = refl
and_all false = refl

pub and_turned : (a b : Bool) → (a && b) ≡ (b && a)
and_turned true true = refl
and_turned true false = refl
and_turned false true = refl
and_turned false false = refl

-- One cell more, where the floor of each column that it covers is lowered.
module _ (test : GridCell → Bool) (cells : List GridCell) (cell : GridCell) (row old new : ℕ) (above : cell.row ≤ row)
    (is : new ≡ (if test cell then max old (cell.row + cell.rows) else old)) where
  pub floor_more : ((r : ℕ) → row ≤ r → list_any (λ (c : GridCell). covers_row c r && test c) cells ≡ nat_lt r old) → (r : ℕ) → row ≤ r →
      list_any (λ (c : GridCell). covers_row c r && test c) (cells ++ cell ∷ []) ≡ nat_lt r new
  floor_more so_far r low =
      list_any-append (λ (c : GridCell). covers_row c r && test c) cells (cell ∷ [])
      ∙ ap (λ b. b || ((covers_row cell r && test cell) || false)) (so_far r low)
      ∙ ap (λ b. nat_lt r old || b) (or_none (covers_row cell r && test cell))
      ∙ ap (λ b. nat_lt r old || (b && test cell)) (covers_below cell r (omega arith))
      ∙ by (test cell) ∙ ap (nat_lt r) (sym is)
    where
      by : (b : Bool) → (nat_lt r old || (nat_lt r (cell.row + cell.rows) && b)) ≡ nat_lt r (if b then max old (cell.row + cell.rows) else old)
      by true = ap (λ x. nat_lt r old || x) (and_all (nat_lt r (cell.row + cell.rows))) ∙ sym (less_of_max r old (cell.row + cell.rows))
      by false = ap (λ x. nat_lt r old || x) (and_none (nat_lt r (cell.row + cell.rows))) ∙ or_none (nat_lt r old)

-- cells below a row cover no position of it
pub none_below : (test : GridCell → Bool) (row low rows : ℕ) (cells : List GridCell) → row < low → AreInRows low rows cells → list_any (λ (c : GridCell). covers_row c row && test c) cells ≡ false
none_below test row low rows [] below h = refl
none_below test row low rows (cell ∷ cells) below h =
    let far = h.0 in
    let not_reached : nat_le cell.row row ≡ false = grind (arith, nat_tests) in
    ap (λ b. ((b && nat_lt row (cell.row + cell.rows)) && test cell) || list_any (λ (c : GridCell). covers_row c row && test c) cells) not_reached
    ∙ none_below test row cell.row rows cells (omega arith) h.2

-- so those above it or in it tell of the whole table
pub all_covers : (test : GridCell → Bool) (row next rows floor : ℕ) (cells : List GridCell) → AreInRows (suc row) rows (drop next cells) →
    list_any (λ (c : GridCell). covers_row c row && test c) (take next cells) ≡ nat_lt row floor → list_any (λ (c : GridCell). covers_row c row && test c) cells ≡ nat_lt row floor
all_covers test row next rows floor cells later above =
    let p : GridCell → Bool = λ c. covers_row c row && test c in
    ap (list_any p) (sym (take-append-drop next cells)) ∙ list_any-append p (take next cells) (drop next cells)
    ∙ ap (λ b. list_any p (take next cells) || b) (none_below test row (suc row) rows (drop next cells) (omega arith) later) ∙ or_none (list_any p (take next cells)) ∙ above

-- cells of rows from one on are of rows from an earlier one on
pub rows_lower : (low low' rows : ℕ) (cells : List GridCell) → low' ≤ low → AreInRows low rows cells → AreInRows low' rows cells
rows_lower low low' rows [] less h = tt
rows_lower low low' rows (cell ∷ cells) less h = let a = h.0 in (omega arith, h.1, h.2)

-- the cell that is passed next
pub next_passed : (rows next : ℕ) (cells : List GridCell) (d : GridCell) → next < length cells → AreInRows 0 rows (drop next cells) →
    ((get_or cells next d).row + (get_or cells next d).rows ≤ rows) × AreInRows 0 rows (drop (next + 1) cells)
next_passed rows next cells d inside h =
    let there = subst (AreInRows 0 rows) (drop_more cells next d inside) h in
    (there.1, rows_lower (get_or cells next d).row 0 rows (drop (next + 1) cells) (omega arith) there.2)
