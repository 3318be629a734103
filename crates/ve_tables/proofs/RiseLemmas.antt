-- The cells of a grid come row by row, and none passes the last row.
use Rattle.std.specs.Prelude.{flat_map}
use Rattle.std.specs.List.{list_any}
use Rattle.std.proofs.Common.{◌≡◌, ℕ, suc, ◌+◌, ◌≤◌, Bool, true, false, if◌then◌else◌, nat_lt, List, [], ◌∷◌, ◌++◌, length, Result, Ok, Err, refl, ap, subst, arith, length-append}
use Rattle.std.proofs.lemmas.Bool.{or_parts, ltb-false}
use Rattle.model_items.specs.declared.plain_item.PlainItem.{PlainItem}
use Rattle.model_items.specs.Offsets.{passes}
use Rattle.model_items.specs.Tree.{Open}
use Rattle.ve_kinds.specs.declared.kind.Kind.TheVariants.{Table, Thead, Tbody, Tfoot, Tr}
use Rattle.model_edit.specs.Brackets.{is_opening_of}
use Rattle.model_edit.specs.declared.grid_cell.GridCell.{GridCell}
use Rattle.model_edit.specs.Causes.{TableCause, NotTable}
use Rattle.std.specs.Prelude.{slice_get}
use Rattle.model_edit.specs.Grid.{TableRow, Grid, children_of, section_rows, table_rows, row_cells, placed_cell, is_crooked, cells_meet, with_row, with_rows, grid_with, grid, right_end}
use Rattle.model_edit_law.proofs.TablePlaceLemmas.{if_ok_else}
use Rattle.ve_tables.specs.Covered.{AreInRows}

-- from one row to another
abbrev Between : (low high rows : ℕ) → List GridCell → Type 0
Between low high rows [] = low ≤ high
Between low high rows (cell ∷ cells) = (low ≤ cell.row) × (cell.row + cell.rows ≤ rows) × Between cell.row high rows cells

in_rows : (low high rows : ℕ) (cells : List GridCell) → Between low high rows cells → AreInRows low rows cells
in_rows low high rows [] h = tt
in_rows low high rows (cell ∷ cells) h = (h.0, h.1, in_rows cell.row high rows cells h.2)

one_more : (low high rows : ℕ) (cells : List GridCell) (cell : GridCell) → Between low high rows cells → high ≤ cell.row → cell.row + cell.rows ≤ rows → Between low cell.row rows (cells ++ cell ∷ [])
one_more low high rows [] cell h below inside = (omega arith, inside, omega arith)
one_more low high rows (one ∷ cells) cell h below inside = (h.0, h.1, one_more one.row high rows cells cell h.2 below inside)

further : (low high high' rows : ℕ) (cells : List GridCell) → Between low high rows cells → high ≤ high' → Between low high' rows cells
further low high high' rows [] h more = omega arith
further low high high' rows (cell ∷ cells) h more = (h.0, h.1, further cell.row high high' rows cells h.2 more)

row_between : (items : List PlainItem) (row left end rows : ℕ) (nodes : List Open) (before cells : List GridCell) → row + left ≤ rows → Between 0 row rows before →
    with_row items row left end nodes before ≡ Ok cells → Between 0 row rows cells
row_between items row left end rows [] before cells fits h e = let same : before ≡ cells = cc in subst (Between 0 row rows) same h
row_between items row left end rows (node ∷ nodes) before cells fits h e =
    let one = placed_cell items before row end node in
    let p = if_ok_else (is_crooked left before one) _ _ cells e in
    let low = ltb-false left one.rows (or_parts (nat_lt left one.rows) (list_any (cells_meet one) before) p.0).0 in
    row_between items row left (one.column + one.columns) rows nodes (before ++ one ∷ []) cells fits (one_more 0 row rows before one h (omega arith) (omega arith)) p.1

-- each row's section ends within so many rows
abbrev Fit : (row rows : ℕ) → List TableRow → Type 0
Fit row rows [] = Unit {0}
Fit row rows (one ∷ later) = (row + one.left ≤ rows) × Fit (suc row) rows later

rows_between : (items : List PlainItem) (row rows : ℕ) (trs : List TableRow) (before cells : List GridCell) → Fit row rows trs → Between 0 row rows before →
    with_rows items row trs (Ok before) ≡ Ok cells → AreInRows 0 rows cells
rows_between items row rows [] before cells fit h e = let same : before ≡ cells = cc in subst (AreInRows 0 rows) same (in_rows 0 row rows before h)
rows_between items row rows (tr ∷ trs) before cells fit h e =
    by (λ some between more. rows_between items (suc row) rows trs some cells fit.1 between more) (with_row items row tr.left 0 (row_cells items tr.at) before) refl e
  where
    by : ((some : List GridCell) → Between 0 (suc row) rows some → with_rows items (suc row) trs (Ok some) ≡ Ok cells → AreInRows 0 rows cells) →
        (r : Result (List GridCell) TableCause) → with_row items row tr.left 0 (row_cells items tr.at) before ≡ r → with_rows items (suc row) trs r ≡ Ok cells → AreInRows 0 rows cells
    by next (Err fault) is e = absurd (let wrong : with_rows items (suc row) trs (Err fault) ≡ Ok cells = e in cc)
    by next (Ok some) is e =
        next some (further 0 row (suc row) rows some (row_between items row tr.left 0 rows (row_cells items tr.at) before some fit.0 h is) (omega arith)) e

section_length : (nodes : List Open) → length (section_rows nodes) ≡ length nodes
section_length [] = refl
section_length (node ∷ nodes) = ap suc (section_length nodes)

section_fits : (nodes : List Open) (row rows : ℕ) (later : List TableRow) → row + length nodes ≤ rows → ((from : ℕ) → from ≡ row + length nodes → Fit from rows later) → Fit row rows (section_rows nodes ++ later)
section_fits [] row rows later fits next = next row (omega arith)
section_fits (node ∷ nodes) row rows later fits next = (fits, section_fits nodes (suc row) rows later (omega arith) (λ from is. next from (omega arith)))

sections_fit : (f : Open → List Open) (sections : List Open) (row rows : ℕ) → row + length (flat_map (λ (s : Open). section_rows (f s)) sections) ≤ rows →
    Fit row rows (flat_map (λ (s : Open). section_rows (f s)) sections)
sections_fit f [] row rows fits = tt
sections_fit f (section ∷ sections) row rows fits =
    let later = flat_map (λ (s : Open). section_rows (f s)) sections in
    let n = length-append (section_rows (f section)) later in
    let m = section_length (f section) in
    section_fits (f section) row rows later (omega arith) (λ from is. sections_fit f sections from rows (omega arith))

pub grid_in_rows : (items : List PlainItem) (at : ℕ) (g : Grid) → grid items at ≡ Ok g → AreInRows 0 g.rows g.cells
grid_in_rows items at g h = choose (passes (is_opening_of Table) (slice_get items at)) h
  where
    trs : List TableRow
    trs = table_rows items at

    by : (r : Result (List GridCell) TableCause) → with_rows items 0 trs (Ok []) ≡ r → grid_with (length trs) r ≡ Ok g → AreInRows 0 g.rows g.cells
    by (Err fault) is e = absurd (let wrong : grid_with (length trs) (Err fault) ≡ Ok g = e in cc)
    by (Ok cells) is e =
        let same : record { rows = length trs; columns = right_end cells; cells = cells } ≡ g = cc in
        let fit = sections_fit (λ (s : Open). children_of (Tr ∷ []) items s.from) (children_of (Thead ∷ Tbody ∷ Tfoot ∷ []) items at) 0 (length trs) (omega arith) in
        subst (λ (v : Grid). AreInRows 0 v.rows v.cells) same (rows_between items 0 (length trs) trs [] cells fit (omega arith) is)

    choose : (b : Bool) → (if b then grid_with (length trs) (with_rows items 0 trs (Ok [])) else Err (NotTable at)) ≡ Ok g → AreInRows 0 g.rows g.cells
    choose false e = absurd (let wrong : ◌≡◌ {A = Result Grid TableCause} (Err (NotTable at)) (Ok g) = e in cc)
    choose true e = by (with_rows items 0 trs (Ok [])) refl e
