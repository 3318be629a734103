-- The insides of the cells after a row is taken out.
use Rattle.std.specs.Prelude.{slice_get, filter, filter_map, codes, decimal}
use Rattle.std.specs.List.{cons_option}
use Rattle.std.proofs.Common.{◌≡◌, ℕ, zero, suc, ◌+◌, ◌-◌, ◌≤◌, ◌<◌, ◌==◌, Bool, true, false, cond, not, ◌&&◌, if◌then◌else◌, nat_le, nat_lt, List, [], ◌∷◌, ◌++◌, length, map, Option, Some, None, Ok, refl, sym, ap, ◌∙◌, subst, arith}
use Rattle.std.proofs.lemmas.Bool.{and_parts, ltb-true, ltb-false, leb-false, eqb-true, eq-eqb, ne_eqb, lt-ltb, le-leb}
use Rattle.std.proofs.lemmas.List.Elements.{filter-append}
use Rattle.std.proofs.lemmas.List.{append_assoc}
use Rattle.ve_kinds.specs.declared.kind.Kind.TheVariants.{Tr}
use Rattle.model_items.specs.declared.plain_item.PlainItem.{PlainItem}
use Rattle.model_items.specs.Law.{Lawful}
use Rattle.model_items.specs.Offsets.{end_of_node}
use Rattle.model_change.specs.Transaction.{edited}
use Rattle.model_edit.specs.Edits.{Edit, transaction_of}
use Rattle.model_edit.specs.declared.grid_cell.GridCell.{GridCell}
use Rattle.model_edit.specs.Causes.{BadRow, Spanned}
use Rattle.model_edit.specs.Grid.{TableRow, Grid, grid, table_rows}
use Rattle.model_edit.specs.Layout.{layout_of, has_row, without_row, row_out_layout}
use Rattle.model_edit.specs.Tables.{spans_row, set_rows, whole_node, row_removed, at_first}
use Rattle.model_edit_law.specs.Spans.{rectangle_of, LowIn}
use Rattle.model_edit_law.proofs.TableSetLemmas.{map-append}
use Rattle.model_edit_law.proofs.TablePlaceLemmas.{Chain, row_at, grid_stands}
use Rattle.model_edit_law.proofs.TableFineLemmas.{fault_or_is}
use Rattle.model_edit_law.proofs.RowOutGridLemmas.{low_in, first_none, no_fault, row_out_grid}
use Rattle.model_table_law.specs.Cells.{inside, filled_cells, at_rest}
use Rattle.model_table_law.specs.Insides.{RowOutKeeps}
use Rattle.model_table_law.proofs.ReadLemmas.{InSection, insides}
use Rattle.model_table_law.proofs.NodeTurnLemmas.{AllTurned}
use Rattle.model_table_law.proofs.TableTurnLemmas.{insides_after}
use Rattle.model_table_law.proofs.FilledLemmas.{AllIn, ByRows, cell_insides, inside_if, insides_of, grid_by_rows, filled_is, rectangles_left, insides_left}
use Rattle.model_table_law.proofs.RowsTurnLemmas.{node_gone, row_set, rows_kept}
use Rattle.model_table_law.proofs.ColOutKeepLemmas.{on_given}

-- cells that begin in a row or below it
abbrev pub Below : ℕ → List GridCell → Type 0
Below row [] = Unit {0}
Below row (c ∷ cells) = (row ≤ c.row) × Below row cells

pub Below-append : (row : ℕ) (xs ys : List GridCell) → Below row xs → Below row ys → Below row (xs ++ ys)
Below-append row [] ys a b = b
Below-append row (x ∷ xs) ys a b = (a.0, Below-append row xs ys a.1 b)

pub Below-in : (low row : ℕ) (cells : List GridCell) → low ≤ row → AllIn row cells → Below low cells
Below-in low row [] l a = tt
Below-in low row (c ∷ cells) l a = let e = a.0 in (omega arith, Below-in low row cells l a.1)

Below-less : (low row : ℕ) (cells : List GridCell) → low ≤ row → Below row cells → Below low cells
Below-less low row [] l b = tt
Below-less low row (c ∷ cells) l b = let e = b.0 in (omega arith, Below-less low row cells l b.1)

pub by_rows_below : (items : List PlainItem) (rows : List TableRow) (index : ℕ) (cells : List GridCell) → ByRows items index rows cells → Below index cells
by_rows_below items [] index cells b = subst (Below index) (sym b) tt
by_rows_below items (r ∷ rows) index cells b =
    let later = by_rows_below items rows (suc index) b.1 b.5 in
    subst (Below index) (sym b.2) (Below-append index b.0 b.1 (Below-in index index b.0 (omega arith) b.3) (Below-less index (suc index) b.1 (omega arith) later))

-- tests that all or none of some cells pass
pub filter_in : (test : GridCell → Bool) (value : Bool) (row : ℕ) (cells : List GridCell) → AllIn row cells →
    ((c : GridCell) → c.row ≡ row → test c ≡ value) → filter test cells ≡ (if value then cells else [])
filter_in test true row [] a h = refl
filter_in test false row [] a h = refl
filter_in test true row (c ∷ cells) a h = ap (λ b. cond b (c ∷ filter test cells) (filter test cells)) (h c a.0)
    ∙ ap (λ v. c ∷ v) (filter_in test true row cells a.1 h)
filter_in test false row (c ∷ cells) a h = ap (λ b. cond b (c ∷ filter test cells) (filter test cells)) (h c a.0) ∙ filter_in test false row cells a.1 h

pub filter_below : (test : GridCell → Bool) (value : Bool) (row : ℕ) (cells : List GridCell) → Below row cells →
    ((c : GridCell) → row ≤ c.row → test c ≡ value) → filter test cells ≡ (if value then cells else [])
filter_below test true row [] a h = refl
filter_below test false row [] a h = refl
filter_below test true row (c ∷ cells) a h = ap (λ b. cond b (c ∷ filter test cells) (filter test cells)) (h c a.0)
    ∙ ap (λ v. c ∷ v) (filter_below test true row cells a.1 h)
filter_below test false row (c ∷ cells) a h = ap (λ b. cond b (c ∷ filter test cells) (filter test cells)) (h c a.0) ∙ filter_below test false row cells a.1 h

pub low_spans_not : (row : ℕ) (c : GridCell) → row ≤ c.row → spans_row row c ≡ false
low_spans_not row c l = by (nat_lt c.row row) refl
  where
    by : (b : Bool) → nat_lt c.row row ≡ b → (b && (nat_le c.row row && nat_lt row (c.row + c.rows))) ≡ false
    by true e = let less = ltb-true c.row row e in absurd (omega arith)
    by false e = refl

module _ (items : List PlainItem) (lawful : Lawful items) (row : ℕ) where
  abbrev stays : GridCell → Bool
  stays c = not (c.row == row)

  abbrev less : GridCell → Option (List ℕ)
  less c = Some (decimal (c.rows - 1))

  abbrev sets : List GridCell → List Edit
  sets cells = map (λ (c : GridCell). set_rows (c.rows - 1) c) (filter (spans_row row) cells)

  -- the rows from one on down to the one that goes, and those after it
  rows_without : (above : ℕ) (rows : List TableRow) (index low high : ℕ) (cells : List GridCell) (gone : TableRow) → index + above ≡ row →
      slice_get rows above ≡ Some gone → Chain row_at items (Tr ∷ []) low high rows →
      ByRows items index rows cells → AllTurned row_at items InSection rows (sets cells ++ whole_node items gone.at ∷ []) (cell_insides items (filter stays cells))
  rows_without above [] index low high cells gone e h c b = cc
  rows_without zero (r ∷ rows) index low high cells gone e h c b =
      let below = by_rows_below items (r ∷ rows) index cells b in
      let same : r ≡ gone = cc in
      let none : filter (spans_row row) cells ≡ [] = filter_below (spans_row row) false index cells below (λ d l. low_spans_not row d (omega arith)) in
      let first : filter stays b.0 ≡ [] = filter_in stays false index b.0 b.3 (λ d z. ap not (eq-eqb d.row row (omega arith))) in
      let after : filter stays b.1 ≡ b.1 = filter_below stays true (suc index) b.1 (by_rows_below items rows (suc index) b.1 b.5)
      (λ d l. ap not (ne_eqb d.row row (λ z. omega arith))) in
      let kept : filter stays cells ≡ b.1 = ap (filter stays) b.2 ∙ filter-append stays b.0 b.1 ∙ (λ i. first i ++ after i) in (
        whole_node items r.at ∷ [],
        [],
        [],
        cell_insides items b.1,
        ap (λ v. map (λ (d : GridCell). set_rows (d.rows - 1) d) v ++ whole_node items gone.at ∷ []) none
            ∙ ap (λ (v : TableRow). whole_node items v.at ∷ []) (sym same),
        ap (cell_insides items) kept,
        node_gone items lawful InSection c.1.0 r.at c.1.2,
        rows_kept items lawful rows (suc index) (end_of_node items r.at) high b.1 c.2 b.5,
      )
  rows_without (suc above) (r ∷ rows) index low high cells gone e h c b =
      let first : filter stays b.0 ≡ b.0 = filter_in stays true index b.0 b.3 (λ d z. ap not (ne_eqb d.row row (λ y. omega arith))) in (
        sets b.0,
        sets b.1 ++ whole_node items gone.at ∷ [],
        cell_insides items b.0,
        cell_insides items (filter stays b.1),
        ap (λ v. v ++ whole_node items gone.at ∷ [])
            (ap sets b.2 ∙ ap (map (λ (d : GridCell). set_rows (d.rows - 1) d)) (filter-append (spans_row row) b.0 b.1) ∙ map-append
            (λ (d : GridCell). set_rows (d.rows - 1) d) (filter (spans_row row) b.0) (filter (spans_row row) b.1))
            ∙ append_assoc (sets b.0) (sets b.1) (whole_node items gone.at ∷ []),
        ap (cell_insides items) (ap (filter stays) b.2 ∙ filter-append stays b.0 b.1 ∙ ap (λ v. v ++ filter stays b.1) first)
            ∙ map-append (λ (d : GridCell). inside items d.at) b.0 (filter stays b.1),
        row_set items lawful (codes "rowspan") less (spans_row row) b.0 c.1.0 r.at c.1.2 c.1.1 b.4,
        rows_without above rows (suc index) (end_of_node items r.at) high b.1 gone (omega arith) h c.2 b.5,
      )

  -- only cells of the row go
  left_is : (c : GridCell) → (c.row ≡ row → c.rows ≡ 1) →
      inside_if items c (without_row row (rectangle_of c)) ≡ (if stays c then Some (inside items c.at) else None)
  left_is c low = by (nat_lt row c.row) (has_row (rectangle_of c) row) (c.rows == 1) (c.row == row) refl refl refl refl
    where
      by : (a u v s : Bool) → nat_lt row c.row ≡ a → has_row (rectangle_of c) row ≡ u → (c.rows == 1) ≡ v → (c.row == row) ≡ s →
          inside_if items c (if a then Some (record (rectangle_of c) { row = c.row - 1 }) else
          (if u then (if v then None else Some (record (rectangle_of c) { rows = c.rows - 1 })) else Some (rectangle_of c)))
          ≡ (if not s then Some (inside items c.at) else None)
      by true u v true e f k w = let l = ltb-true row c.row e in let m = eqb-true c.row row w in absurd (omega arith)
      by true u v false e f k w = refl
      by false true true true e f k w = refl
      by false true true false e f k w =
          let l = ltb-false row c.row e in
          let p = and_parts (nat_le c.row row) _ f in
          let m = ltb-true row (c.row + c.rows) p.1 in
          let one = eqb-true c.rows 1 k in
          let z : c.row ≡ row = omega arith in
          absurd (let y : true ≡ false = sym (eq-eqb c.row row z) ∙ w in cc)
      by false true false true e f k w =
          let m = eqb-true c.row row w in
          absurd (let y : true ≡ false = sym (eq-eqb c.rows 1 (low m)) ∙ k in cc)
      by false true false false e f k w = refl
      by false false v true e f k w =
          let m = eqb-true c.row row w in
          let one = low m in
          let g : has_row (rectangle_of c) row ≡ true = (λ i. le-leb c.row row (omega arith) i && lt-ltb row (c.row + c.rows) (omega arith) i) in
          absurd (let y : true ≡ false = sym g ∙ f in cc)
      by false false v false e f k w = refl

  insides_low : (cells : List GridCell) → LowIn row (map rectangle_of cells) →
      filter_map (λ (c : GridCell). inside_if items c (without_row row (rectangle_of c))) cells ≡ cell_insides items (filter stays cells)
  insides_low [] low = refl
  insides_low (c ∷ cells) low =
      (λ i. cons_option (left_is c low.0 i) (insides_low cells low.1 i)) ∙ by (stays c)
    where
      by : (b : Bool) → cons_option (if b then Some (inside items c.at) else None) (cell_insides items (filter stays cells))
          ≡ cell_insides items (cond b (c ∷ filter stays cells) (filter stays cells))
      by true = refl
      by false = refl

  pub insides_low_out : (at : ℕ) (g : Grid) (gone : TableRow) → grid items at ≡ Ok g → slice_get (table_rows items at) row ≡ Some gone →
      LowIn row (map rectangle_of g.cells) →
      insides (edited (transaction_of items (sets g.cells ++ row_removed items (Some gone))) items) at ≡ insides_of
      (filter_map (at_rest (without_row row)) (filled_cells items g))
  insides_low_out at g gone given here low =
      let s = grid_stands items at g lawful given in
      let all = rows_without row (table_rows items at) 0 _ _ g.cells gone (omega arith) here s.rows (grid_by_rows items at g given) in
      insides_after items at lawful s.table (sets g.cells ++ whole_node items gone.at ∷ []) (cell_insides items (filter stays g.cells)) all
      ∙ sym (insides_low g.cells low)
      ∙ sym (insides_left items (without_row row) g.cells)

pub row_out_keeps : RowOutKeeps
row_out_keeps items at row t g lawful given h =
    let f = on_given (grid items at) _ g t given h in
    let made = fault_or_is _ (transaction_of items (map (λ (c : GridCell). set_rows (c.rows - 1) c)
    (filter (spans_row row) g.cells) ++ row_removed items (slice_get (table_rows items at) row))) t f in
    let q = first_none (nat_le g.rows row) (BadRow row g.rows)
    (at_first (λ (c : GridCell). (c.row == row) && nat_lt 1 c.rows) g.cells (λ cell. Spanned cell)) (no_fault _ _ t f) in
    let s = grid_stands items at g lawful given in
    let count = s.count in
    let l = leb-false g.rows row q.0 in
    let gone = row_there (table_rows items at) row (omega arith) in
    let low = low_in items (table_rows items at) row g.cells (s.cells).homes q.1 in
    filled_is (edited t items) at (row_out_layout (layout_of g) row) (filter_map (at_rest (without_row row)) (filled_cells items g))
    (row_out_grid items at row t g lawful given h)
    (rectangles_left items (without_row row) g.cells)
    (ap (λ v. insides (edited v items) at) (sym made)
    ∙ ap (λ o. insides (edited (transaction_of items (map (λ (c : GridCell). set_rows (c.rows - 1) c)
    (filter (spans_row row) g.cells) ++ row_removed items o)) items) at) gone.1
    ∙ insides_low_out items lawful row at g gone.0 given gone.1 low)
  where
    row_there : (rows : List TableRow) (i : ℕ) → i < length rows → (r : TableRow) × (slice_get rows i ≡ Some r)
    row_there [] i l = absurd (omega arith)
    row_there (r ∷ rows) zero l = (r, refl)
    row_there (r ∷ rows) (suc i) l = row_there rows i (omega arith)
