-- The grid of a table without a row is the old one without it.
use Rattle.std.specs.Prelude.{slice_get, filter, filter_map, fold, max}
use Rattle.std.proofs.Common.{◌≡◌, ℕ, zero, suc, ◌+◌, ◌-◌, ◌<◌, ◌==◌, Bool, true, false, ◌&&◌, if◌then◌else◌, nat_le, nat_lt, List, [], ◌∷◌, ◌++◌, length, map, Option, Some, None, Result, Ok, Err, refl, sym, ap, ◌∙◌, subst, arith, zero-add}
use Rattle.std.proofs.lemmas.Bool.{eq-eqb, leb-false, ltb-false}
use Rattle.ve_kinds.specs.declared.kind.Kind.TheVariants.{Table}
use Rattle.model_items.specs.declared.plain_item.PlainItem.{PlainItem}
use Rattle.model_change.specs.Transaction.{Transaction, edited}
use Rattle.model_edit.specs.Brackets.{is_opening_of}
use Rattle.model_items.specs.Offsets.{passes}
use Rattle.model_edit.specs.Edits.{Edit, transaction_of, InOrder}
use Rattle.model_edit.specs.declared.grid_cell.GridCell.{GridCell}
use Rattle.model_edit.specs.Causes.{TableCause, NotTable, BadRow, Spanned}
use Rattle.model_edit.specs.Grid.{TableRow, Grid, grid, grid_with, right_end, table_rows, row_cells, with_rows}
use Rattle.model_edit.specs.Layout.{Rectangle, layout_of, with_rectangles, without_row, row_out_layout}
use Rattle.model_edit.specs.Tables.{spans_row, set_rows, row_removed, fault_or, first_fault, at_first}
use Rattle.model_edit_law.specs.Spans.{Line, rectangle_of, lay, table_lines, line_at, lines_after, LowIn}
use Rattle.model_edit_law.specs.TableLaws.{laid_out, RowOutGrid}
use Rattle.model_edit_law.proofs.EditLemmas.{edited-transaction_from}
use Rattle.model_edit_law.proofs.LayLemmas.{row_out_lays}
use Rattle.model_edit_law.proofs.LinkLemmas.{rectangles, rows_link, grid_lays}
use Rattle.model_edit_law.proofs.TablePlaceLemmas.{Homes, grid_stands}
use Rattle.model_edit_law.proofs.TableFineLemmas.{fault_or_is, grid_given, row_out_order}
use Rattle.model_edit_law.proofs.TableSetLemmas.{length_map}
use Rattle.model_edit_law.proofs.TableCellLemmas.{AllPlaced, rows_placed}
use Rattle.model_edit_law.proofs.RowOutLemmas.{without, made, lines_without, opens_still}

end_cells : (end : ℕ) (cells : List GridCell) →
    fold (λ e (c : GridCell). max e (c.column + c.columns)) end cells ≡ fold (λ e (r : Rectangle). max e (r.column + r.columns)) end (map rectangle_of cells)
end_cells end [] = refl
end_cells end (c ∷ cells) = end_cells (max end (c.column + c.columns)) cells

-- where rectangles are laid, they are the grid
pub lays_grid : (items : List PlainItem) (at : ℕ) (all : List Rectangle) → passes (is_opening_of Table) (slice_get items at) ≡ true → lay 0 (table_lines items at) (Some []) ≡ Some all →
    laid_out (grid items at) ≡ Ok (with_rectangles (length (table_rows items at)) all)
lays_grid items at all table h =
    ap (λ b. laid_out (if b then grid_with (length rows) (with_rows items 0 rows (Ok [])) else Err (NotTable at))) table
    ∙ by (with_rows items 0 rows (Ok [])) (sym (rows_link items rows 0 (Ok [])) ∙ h)
  where
    rows : List TableRow
    rows = table_rows items at

    by : (r : Result (List GridCell) TableCause) → rectangles r ≡ Some all → laid_out (grid_with (length rows) r) ≡ Ok (with_rectangles (length rows) all)
    by (Err e) h = cc
    by (Ok cells) h =
        let e : map rectangle_of cells ≡ all = cc in
        (λ i. Ok (record { rows = length rows; columns = end_cells 0 cells i; rectangles = map rectangle_of cells }))
        ∙ ap (λ v. Ok (with_rectangles (length rows) v)) e

-- what a call that answers has found
pub no_fault : (o : Option TableCause) (s t : Transaction) → fault_or o s ≡ Ok t → o ≡ None
no_fault None s t h = refl
no_fault (Some e) s t h = cc

pub first_none : (b : Bool) (fault : TableCause) (causes : List (Bool × TableCause)) → first_fault ((b, fault) ∷ causes) ≡ None → (b ≡ false) × (first_fault causes ≡ None)
first_none true fault causes h = cc
first_none false fault causes h = (refl, h)

pub low_in : (items : List PlainItem) (rows : List TableRow) (row : ℕ) (cells : List GridCell) → Homes items rows cells →
    first_fault (at_first (λ (c : GridCell). (c.row == row) && nat_lt 1 c.rows) cells (λ cell. Spanned cell)) ≡ None → LowIn row (map rectangle_of cells)
low_in items rows row [] homes h = tt
low_in items rows row (c ∷ cells) homes h =
    let p = first_none ((c.row == row) && nat_lt 1 c.rows) (Spanned c.at) (at_first (λ (c : GridCell). (c.row == row) && nat_lt 1 c.rows) cells (λ cell. Spanned cell)) h in (
      (λ e.
          let low : nat_lt 1 c.rows ≡ false = ap (λ b. b && nat_lt 1 c.rows) (sym (eq-eqb c.row row e)) ∙ p.0 in
          let most = ltb-false 1 c.rows low in
          let least = (homes.0).tall in
          omega arith),
      low_in items rows row cells homes.1 p.1,
    )

after_length : (gone above row : ℕ) (lines : List Line) → above < length lines → length (lines_after gone above row lines) ≡ length lines - 1
after_length gone above row [] l = refl
after_length gone zero row (line ∷ lines) l = omega arith
after_length gone (suc above) row (line ∷ lines) l = (let r = after_length gone above (suc row) lines (omega arith) in omega arith)

-- every node of each row is a cell of the grid
pub grid_places : (items : List PlainItem) (at : ℕ) (g : Grid) → grid items at ≡ Ok g → (k : ℕ) (r : TableRow) → slice_get (table_rows items at) k ≡ Some r → AllPlaced items g.cells k (row_cells items r.at)
grid_places items at g h = choose (passes (is_opening_of Table) (slice_get items at)) h
  where
    rows : List TableRow
    rows = table_rows items at

    by : (r : Result (List GridCell) TableCause) → with_rows items 0 rows (Ok []) ≡ r → grid_with (length rows) r ≡ Ok g → (k : ℕ) (row : TableRow) → slice_get rows k ≡ Some row → AllPlaced items g.cells k (row_cells items row.at)
    by (Err e) w h k row q = cc
    by (Ok cells) w h k row q =
        let e : record { rows = length rows; columns = right_end cells; cells = cells } ≡ g = cc in
        let z : 0 + k ≡ k = omega arith in
        subst (λ (v : Grid). AllPlaced items v.cells k (row_cells items row.at)) e
        (subst (λ m. AllPlaced items cells m (row_cells items row.at)) z ((rows_placed items rows 0 [] cells w).1 k row q))

    choose : (b : Bool) → (if b then grid_with (length rows) (with_rows items 0 rows (Ok [])) else Err (NotTable at)) ≡ Ok g → (k : ℕ) (row : TableRow) → slice_get rows k ≡ Some row → AllPlaced items g.cells k (row_cells items row.at)
    choose false h = cc
    choose true h = by (with_rows items 0 rows (Ok [])) refl h

pub row_out_grid : RowOutGrid
row_out_grid items at row t g lawful given h =
    let p = grid_given (grid items at) _ t h in
    let same : p.0 ≡ g = (let e : ◌≡◌ {A = Result Grid TableCause} (Ok p.0) (Ok g) = sym p.1 ∙ given in cc) in
    let f : fault_or (causes g) (transaction_of items (edits g (slice_get (table_rows items at) row))) ≡ Ok t =
    subst (λ v. fault_or (causes v) (transaction_of items (edits v (slice_get (table_rows items at) row))) ≡ Ok t) same p.2 in
    by (slice_get (table_rows items at) row) refl f
  where
    causes : Grid → Option TableCause
    causes v = first_fault ((nat_le v.rows row, BadRow row v.rows) ∷ at_first (λ (c : GridCell). (c.row == row) && nat_lt 1 c.rows) v.cells (λ cell. Spanned cell))

    edits : Grid → Option TableRow → List Edit
    edits v o = map (λ (c : GridCell). set_rows (c.rows - 1) c) (filter (spans_row row) v.cells) ++ row_removed items o

    none_within : (rows : List TableRow) (i : ℕ) → i < length rows → slice_get rows i ≡ None → ⊥
    none_within [] i l e = omega arith
    none_within (r ∷ rows) zero l e = cc
    none_within (r ∷ rows) (suc i) l e = none_within rows i (omega arith) e

    by : (o : Option TableRow) → slice_get (table_rows items at) row ≡ o → fault_or (causes g) (transaction_of items (edits g o)) ≡ Ok t →
        laid_out (grid (edited t items) at) ≡ Ok (row_out_layout (layout_of g) row)
    by None e f =
        let count = (grid_stands items at g lawful given).count in
        let q = first_none (nat_le g.rows row) (BadRow row g.rows) _ (no_fault (causes g) _ t f) in
        let l = leb-false g.rows row q.0 in
        absurd (none_within (table_rows items at) row (omega arith) e)
    by (Some gone) e f =
        let s = grid_stands items at g lawful given in
        let count = s.count in
        let q = first_none (nat_le g.rows row) (BadRow row g.rows) _ (no_fault (causes g) _ t f) in
        let l = leb-false g.rows row q.0 in
        let low = low_in items (table_rows items at) row g.cells (s.cells).homes q.1 in
        let places = grid_places items at g given in
        let new = without items at row g lawful s gone e places in
        let lines = table_lines items at in
        let left = filter_map (without_row row) (map rectangle_of g.cells) in
        let long : length lines ≡ g.rows = length_map (line_at items) (table_rows items at) ∙ sym count in
        let order : InOrder 0 (0 + length items) (edits g (Some gone)) =
        subst (λ k. InOrder 0 k (edits g (Some gone))) (sym (zero-add (length items))) (row_out_order items at row g s (Some gone) e) in
        let is_new : edited t items ≡ new =
        ap (λ v. edited v items) (sym (fault_or_is _ (transaction_of items (edits g (Some gone))) t f))
        ∙ edited-transaction_from 0 items (edits g (Some gone)) order
        ∙ made items at row g lawful s gone e places in
        let lines_new : table_lines new at ≡ lines_after row row 0 lines = lines_without items at row g lawful s gone e places in
        let laid = row_out_lays lines row (map rectangle_of g.cells) (omega arith) low (grid_lays items at g given) in
        let fewer : length (table_rows new at) ≡ g.rows - 1 =
        sym (length_map (line_at new) (table_rows new at)) ∙ ap length lines_new ∙ after_length row row 0 lines (omega arith) ∙ ap (λ k. k - 1) long in
        ap (λ v. laid_out (grid v at)) is_new
        ∙ lays_grid new at left (opens_still items at row g lawful s gone e places) (ap (λ v. lay 0 v (Some [])) lines_new ∙ laid)
        ∙ ap (λ k. Ok (with_rectangles k left)) fewer
