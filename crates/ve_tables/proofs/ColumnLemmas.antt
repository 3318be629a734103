-- The cells of a table, row by row, as a column is put in.
use Rattle.std.specs.Prelude.{All, filter, flat_map, slice_range, cond}
use Rattle.std.specs.List.{list_any, enumerate_from}
use Rattle.std.proofs.Common.{◌≡◌, inl, inr, ℕ, zero, suc, ◌+◌, ◌-◌, ◌<◌, ◌≤◌, ◌==◌, Bool, true, false, ◌&&◌, ◌||◌, nat_lt, List, [], ◌∷◌, ◌++◌, length, take, drop, get_or, refl, sym, ap, ◌∙◌, subst, arith, eq-eqb, append-nil, append_assoc, take-append-drop, zero-add}
use Rattle.std.proofs.lemmas.Bool.{cases_Bool, false_from_ne_true, eqb-true}
use Rattle.std.proofs.lemmas.List.{drop_more, take_more, length-drop, get_or-drop, get_or-take, drop-drop}
use Rattle.ve_base.specs.declared.value.Value.{Value}
use Rattle.model_items.specs.declared.item.Item.{Item}
use Rattle.model_items.specs.declared.plain_item.PlainItem.{PlainItem}
use Rattle.model_edit.specs.Edits.{Edit, InOrder}
use Rattle.model_edit.specs.declared.grid_cell.GridCell.{GridCell}
use Rattle.model_edit.specs.Grid.{Grid, TableRow, covers_row}
use Rattle.model_edit.specs.Tables.{spans_column, column_edits}
use Rattle.ve_edits.specs.Collected.{Collected}
use Rattle.ve_tables.specs.PartWay.{Collects, IsPartWay, row_widened}
use Rattle.ve_tables.specs.Covered.{AreInRows, IsRun, floor_with, floor_of}
use Rattle.ve_tables.proofs.PartWayLemmas.{no_cell, way_next, way_order, order_first}
use Rattle.ve_tables.proofs.CoveredLemmas.{floor_more, all_covers, rows_lower, and_turned}

abbrev pub in_row : ℕ → List GridCell → List GridCell
in_row row cells = filter (λ (c : GridCell). c.row == row) cells

in_row_yes : (row : ℕ) (cell : GridCell) (cells : List GridCell) → cell.row ≡ row → in_row row (cell ∷ cells) ≡ cell ∷ in_row row cells
in_row_yes row cell cells h = ap (λ b. cond b (cell ∷ in_row row cells) (in_row row cells)) (eq-eqb cell.row row h)

in_row_no : (row : ℕ) (cell : GridCell) (cells : List GridCell) → (cell.row ≡ row → ⊥) → in_row row (cell ∷ cells) ≡ in_row row cells
in_row_no row cell cells h = ap (λ b. cond b (cell ∷ in_row row cells) (in_row row cells)) (false_from_ne_true (cell.row == row) (λ t. h (eqb-true cell.row row t)))

-- those below a row are none of it
pub none_in_row : (row low rows : ℕ) (cells : List GridCell) → row < low → AreInRows low rows cells → in_row row cells ≡ []
none_in_row row low rows [] below h = refl
none_in_row row low rows (cell ∷ cells) below h =
    let far = h.0 in
    in_row_no row cell cells (λ same. omega arith) ∙ none_in_row row cell.row rows cells (omega arith) h.2

append-nothing : (xs : List GridCell) (ys : List GridCell) → ys ≡ [] → xs ++ ys ≡ xs
append-nothing xs ys h = ap (λ l. xs ++ l) h ∙ append-nil xs

module _ (row rows : ℕ) (cells : List GridCell) (from next : ℕ) (order : from ≤ next) (inside : next < length cells) (rise : AreInRows row rows (drop next cells))
    (run : slice_range cells from next ++ in_row row (drop next cells) ≡ in_row row (drop from cells)) where
  abbrev cell : GridCell
  cell = get_or cells next no_cell

  abbrev there : AreInRows row rows (cell ∷ drop (next + 1) cells)
  there = subst (AreInRows row rows) (drop_more cells next no_cell inside) rise

  pub run_ended : ((get_or cells next no_cell).row ≡ row → ⊥) → IsRun row rows cells from next
  run_ended other =
      let h = there in
      let far = h.0 in
      let later : AreInRows (suc row) rows (drop next cells) = subst (AreInRows (suc row) rows) (sym (drop_more cells next no_cell inside)) (omega arith, h.1, h.2) in
      record {
        order = order;
        within = omega arith;
        run = sym (append-nothing (slice_range cells from next) (in_row row (drop next cells)) (none_in_row row (suc row) rows (drop next cells) (omega arith) later)) ∙ run;
        later = later;
      }

  pub run_goes_on : (get_or cells next no_cell).row ≡ row → AreInRows row rows (drop (next + 1) cells) × (slice_range cells from (next + 1) ++ in_row row (drop (next + 1) cells) ≡ in_row row (drop from cells))
  run_goes_on here =
      let h = there in
      let n : (next + 1) - from ≡ (next - from) + 1 = omega arith in
      let k : from + (next - from) ≡ next = omega arith in
      let long = length-drop from cells in
      let one : slice_range cells from (next + 1) ≡ slice_range cells from next ++ get_or cells next no_cell ∷ [] =
      ap (λ m. take m (drop from cells)) n
      ∙ take_more (drop from cells) (next - from) no_cell (omega arith)
      ∙ ap (λ x. take (next - from) (drop from cells) ++ x ∷ []) (get_or-drop from cells (next - from) no_cell ∙ ap (λ m. get_or cells m no_cell) k) in (
        subst (λ low. AreInRows low rows (drop (next + 1) cells)) here h.2,
        ap (λ l. l ++ in_row row (drop (next + 1) cells)) one
            ∙ append_assoc (slice_range cells from next) (get_or cells next no_cell ∷ []) (in_row row (drop (next + 1) cells))
            ∙ ap (λ l. slice_range cells from next ++ l) (sym (ap (in_row row) (drop_more cells next no_cell inside) ∙ in_row_yes row (get_or cells next no_cell) (drop (next + 1) cells) here))
            ∙ run,
      )

-- ---- the floor of a column, run by run

abbrev RunAbove : ℕ → List GridCell → Type 0
RunAbove row [] = Unit {0}
RunAbove row (cell ∷ cells) = (cell.row ≡ row) × RunAbove row cells

run_above : (row : ℕ) (cells : List GridCell) → RunAbove row (in_row row cells)
run_above row [] = tt
run_above row (cell ∷ cells) =
    let rest = run_above row cells in
    elim (cases_Bool (cell.row == row)) [
      | inl yes_ ↦ subst (λ b. RunAbove row (cond b (cell ∷ in_row row cells) (in_row row cells))) (sym yes_) (eqb-true cell.row row yes_, rest)
      | inr no_ ↦ subst (λ b. RunAbove row (cond b (cell ∷ in_row row cells) (in_row row cells))) (sym no_) rest
    ]

abbrev pub FloorIs : ℕ → ℕ → List GridCell → ℕ → Type 0
FloorIs column row seen floor = (r : ℕ) → row ≤ r → list_any (λ (c : GridCell). covers_row c r && spans_column column c) seen ≡ nat_lt r floor

floor_run : (column row : ℕ) (seen run : List GridCell) (floor : ℕ) → RunAbove row run → FloorIs column row seen floor → FloorIs column row (seen ++ run) (floor_of column floor run)
floor_run column row seen [] floor h is r low = ap (list_any (λ (c : GridCell). covers_row c r && spans_column column c)) (append-nil seen) ∙ is r low
floor_run column row seen (cell ∷ run) floor h is r low =
    let here = h.0 in
    let next : FloorIs column row (seen ++ cell ∷ []) (floor_with column floor cell) =
    floor_more (spans_column column) seen cell row floor (floor_with column floor cell) (omega arith) refl is in
    ap (list_any (λ (c : GridCell). covers_row c r && spans_column column c)) (sym (append_assoc seen (cell ∷ []) run))
    ∙ floor_run column row (seen ++ cell ∷ []) run (floor_with column floor cell) h.1 next r low

take_parts : (n m : ℕ) (xs : List GridCell) → take (n + m) xs ≡ take n xs ++ take m (drop n xs)
take_parts zero m xs = ap (λ k. take k xs) (zero-add m)
take_parts (suc n) m [] =
    let z : suc n + m ≡ suc (n + m) = omega arith in
    ap (λ k. take {A = GridCell} k []) z ∙ sym (none m)
  where
    none : (m : ℕ) → take {A = GridCell} m [] ≡ []
    none zero = refl
    none (suc m) = refl
take_parts (suc n) m (x ∷ xs) =
    let z : suc n + m ≡ suc (n + m) = omega arith in
    ap (λ k. take k (x ∷ xs)) z ∙ ap (λ l. x ∷ l) (take_parts n m xs)

any_turned : (a b : GridCell → Bool) (cells : List GridCell) → list_any (λ (c : GridCell). a c && b c) cells ≡ list_any (λ (c : GridCell). b c && a c) cells
any_turned a b [] = refl
any_turned a b (cell ∷ cells) = (λ i. and_turned (a cell) (b cell) i || any_turned a b cells i)

in_row-append : (row : ℕ) (xs ys : List GridCell) → in_row row (xs ++ ys) ≡ in_row row xs ++ in_row row ys
in_row-append row [] ys = refl
in_row-append row (x ∷ xs) ys = ap (λ l. cond (x.row == row) (x ∷ l) l) (in_row-append row xs ys) ∙ by (x.row == row)
  where
    by : (b : Bool) → cond b (x ∷ (in_row row xs ++ in_row row ys)) (in_row row xs ++ in_row row ys) ≡ cond b (x ∷ in_row row xs) (in_row row xs) ++ in_row row ys
    by true = refl
    by false = refl

other_row : (row k : ℕ) (run : List GridCell) → row < k → RunAbove row run → in_row k run ≡ []
other_row row k [] less h = refl
other_row row k (cell ∷ run) less h = let here = h.0 in in_row_no k cell run (λ same. omega arith) ∙ other_row row k run less h.1

-- ---- all rows down to one are widened

pub record IsWidenedTo (store : List Value) (items : List Item) (P : List PlainItem) (G : Grid) (column : ℕ) (trs : List TableRow) (rows index from lowest : ℕ) (a b : Collected) : Type 0 where
  pub within : from ≤ length G.cells
  pub rise : AreInRows index rows (drop from G.cells)
  pub same : (k : ℕ) → index ≤ k → in_row k G.cells ≡ in_row k (drop from G.cells)
  pub floors : FloorIs column index (take from G.cells) lowest
  pub way : IsPartWay store items (flat_map (column_edits P column G) (enumerate_from 0 trs)) (flat_map (column_edits P column G) (enumerate_from index (drop index trs))) a b

module _ (store : List Value) (items : List Item) (P : List PlainItem) (G : Grid) (column : ℕ) (trs : List TableRow) (rows index from to lowest : ℕ) (d : TableRow) (a b : Collected) (inside : index < length trs)
    (w : IsWidenedTo store items P G column trs rows index from lowest a b) (r : IsRun index rows G.cells from to) where
  abbrev run : List GridCell
  run = slice_range G.cells from to

  abbrev below : ℕ
  below = floor_of column lowest run

  run_is : in_row index G.cells ≡ run
  run_is = w.same index (omega arith) ∙ sym r.run

  above : RunAbove index run
  above = subst (RunAbove index) (sym r.run) (run_above index (drop from G.cells))

  seen_is : take to G.cells ≡ take from G.cells ++ run
  seen_is =
      let order = r.order in
      let z : to ≡ from + (to - from) = omega arith in
      ap (λ k. take k G.cells) z ∙ take_parts from (to - from) G.cells

  below_is : FloorIs column index (take to G.cells) below
  below_is q low = ap (list_any (λ (c : GridCell). covers_row c q && spans_column column c)) seen_is ∙ floor_run column index (take from G.cells) run lowest above w.floors q low

  grown_is : list_any (λ (c : GridCell). spans_column column c && covers_row c index) G.cells ≡ nat_lt index below
  grown_is =
      any_turned (spans_column column) (λ c. covers_row c index) G.cells
      ∙ all_covers (spans_column column) index to rows below G.cells r.later (below_is index (omega arith))

  pub edits_are : column_edits P column G (index, get_or trs index d) ≡ row_widened P (get_or trs index d) column run (nat_lt index below)
  edits_are =
      ap (λ l. row_widened P (get_or trs index d) column l (list_any (λ (c : GridCell). spans_column column c && covers_row c index) G.cells)) run_is
      ∙ ap (λ t. row_widened P (get_or trs index d) column run t) grown_is

  abbrev left : ℕ → List Edit
  left n = flat_map (column_edits P column G) (enumerate_from n (drop n trs))

  left_is : left index ≡ row_widened P (get_or trs index d) column run (nat_lt index below) ++ left (index + 1)
  left_is = ap (λ l. flat_map (column_edits P column G) (enumerate_from index l)) (drop_more trs index d inside) ∙ ap (λ e. e ++ left (index + 1)) edits_are

  pub row_order : (first : ℕ) → a.at ≡ first → InOrder first (length items) (flat_map (column_edits P column G) (enumerate_from 0 trs)) →
      InOrder b.at (length items) (row_widened P (get_or trs index d) column run (nat_lt index below))
  row_order first is o =
      let all = flat_map (column_edits P column G) (enumerate_from 0 trs) in
      let o' = subst (λ n. InOrder n (length items) (all ++ [])) (sym is) (subst (InOrder first (length items)) (sym (append-nil all)) o) in
      let h = way_order store items all (left index) [] a b w.way o' in
      order_first b.at (length items) (row_widened P (get_or trs index d) column run (nat_lt index below)) (left (index + 1))
      (subst (InOrder b.at (length items)) (append-nil (left index) ∙ left_is) h)

  pub widened_next : (c : Collected) (new : ℕ) → new ≡ below → Collects store items (row_widened P (get_or trs index d) column run (nat_lt index new)) b c →
      IsWidenedTo store items P G column trs rows (index + 1) to new a c
  widened_next c new is g =
      let later = r.later in
      let z : suc index ≡ index + 1 = omega arith in
      let rest : drop from G.cells ≡ run ++ drop to G.cells =
      sym (take-append-drop (to - from) (drop from G.cells)) ∙ ap (λ l. run ++ l) (drop-drop (to - from) from G.cells ∙ (let order = r.order in let y : from + (to - from) ≡ to = omega arith in ap (λ k. drop k G.cells) y)) in
      let all = flat_map (column_edits P column G) (enumerate_from 0 trs) in
      record {
        within = r.within;
        rise = subst (λ low. AreInRows low rows (drop to G.cells)) z r.later;
        same = λ k low.
            w.same k (omega arith) ∙ ap (in_row k) rest ∙ in_row-append k run (drop to G.cells)
            ∙ ap (λ l. l ++ in_row k (drop to G.cells)) (other_row index k run (omega arith) above);
        floors = λ q low. below_is q (omega arith) ∙ ap (nat_lt q) (sym is);
        way =
            way_next store items all (row_widened P (get_or trs index d) column run (nat_lt index below)) (left (index + 1)) a b c
            (subst (λ l. IsPartWay store items all l a b) left_is w.way)
            (subst (λ n. Collects store items (row_widened P (get_or trs index d) column run (nat_lt index n)) b c) is g);
      }

-- what holds of all cells holds of a run of them
pub of_run : (Q : GridCell → Type 0) (cells : List GridCell) (from to : ℕ) → to ≤ length cells → All Q cells → All Q (slice_range cells from to)
of_run Q cells from to within all k d less =
    let m = length-drop from cells in
    let long = length-take_is (to - from) (drop from cells) in
    subst Q (sym (get_or-take (to - from) (drop from cells) k d (omega arith) ∙ get_or-drop from cells k d)) (all (from + k) d (omega arith))
  where
    length-take_is : (n : ℕ) (xs : List GridCell) → length (take n xs) ≤ n
    length-take_is zero xs = omega arith
    length-take_is (suc n) [] = omega arith
    length-take_is (suc n) (x ∷ xs) = let r = length-take_is n xs in omega arith

pub rows_of_run : (low rows : ℕ) (cells : List GridCell) (n : ℕ) → AreInRows low rows cells → AreInRows 0 rows (take n cells)
rows_of_run low rows cells n h = rows_lower low 0 rows (take n cells) (omega arith) (by low n cells h)
  where
    by : (low n : ℕ) (cells : List GridCell) → AreInRows low rows cells → AreInRows low rows (take n cells)
    by low zero cells h = tt
    by low (suc n) [] h = tt
    by low (suc n) (cell ∷ cells) h = (h.0, h.1, by cell.row n cells h.2)
