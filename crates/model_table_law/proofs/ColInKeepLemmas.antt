-- The insides of the cells after a column is put in.
use Rattle.std.specs.Prelude.{filter, flat_map, decimal}
use Rattle.std.specs.List.{list_any, range_with_len, enumerate_from}
use Rattle.std.proofs.Common.{◌≡◌, ℕ, suc, ◌+◌, ◌<◌, ◌==◌, Bool, true, false, cond, not, ◌&&◌, if◌then◌else◌, nat_le, nat_lt, List, [], ◌∷◌, ◌++◌, length, map, Option, Some, Ok, refl, sym, ap, ◌∙◌, subst, arith, append-nil}
use Rattle.std.proofs.lemmas.Bool.{or_parts, eq-eqb, ne_eqb}
use Rattle.std.proofs.lemmas.List.{append_assoc}
use Rattle.std.proofs.lemmas.List.Elements.{filter-append}
use Rattle.std.proofs.lemmas.List.Folds.{list_any-append}
use Rattle.ve_kinds.specs.declared.kind.Kind.TheVariants.{Tr}
use Rattle.model_items.specs.declared.plain_item.PlainItem.{PlainItem}
use Rattle.model_items.specs.Law.{Lawful}
use Rattle.model_items.specs.Offsets.{end_of_node}
use Rattle.model_change.specs.Transaction.{edited}
use Rattle.model_edit.specs.Edits.{Change, transaction_of}
use Rattle.model_edit.specs.declared.grid_cell.GridCell.{GridCell}
use Rattle.model_edit.specs.Grid.{TableRow, Grid, grid, table_rows, covers_row}
use Rattle.model_edit.specs.Layout.{Rectangle, layout_of, one_by_one, has_new_cell, grows_right, has_row, moved_right, row_with_column, col_in_layout}
use Rattle.model_edit.specs.Tables.{spans_column, set_columns, new_cell, cell_place, column_edits}
use Rattle.model_edit_law.specs.Spans.{rectangle_of}
use Rattle.model_edit_law.proofs.TableSetLemmas.{map-append}
use Rattle.model_edit_law.proofs.TablePlaceLemmas.{Chain, row_at, grid_stands}
use Rattle.model_edit_law.proofs.TableFineLemmas.{fault_or_is}
use Rattle.model_table_law.specs.Cells.{inside, FilledCell, at_rectangle, new_filled}
use Rattle.model_table_law.specs.Grids.{ColInGrid}
use Rattle.model_table_law.specs.Insides.{ColInKeeps, row_of_cells}
use Rattle.model_table_law.proofs.ReadLemmas.{InSection, insides}
use Rattle.model_table_law.proofs.NodeTurnLemmas.{piece, AllTurned}
use Rattle.model_table_law.proofs.PieceLemmas.{Turned}
use Rattle.model_table_law.proofs.TableTurnLemmas.{insides_after}
use Rattle.model_table_law.proofs.FilledLemmas.{rectangles_of, insides_of, cell_insides, AllIn, ByRows, grid_by_rows, filled_is}
use Rattle.model_table_law.proofs.MovedLemmas.{filled, rectangles_are, rectangles_moved, insides_moved, any_rectangle, empty_paragraph}
use Rattle.model_table_law.proofs.CellPutLemmas.{left_of, right_of, row_with}
use Rattle.model_table_law.proofs.ColOutKeepLemmas.{on_given}
use Rattle.model_table_law.proofs.RowOutKeepLemmas.{by_rows_below, filter_in, filter_below}

-- cells of the rows above one
abbrev Above : ℕ → List GridCell → Type 0
Above row [] = Unit {0}
Above row (c ∷ cells) = (c.row < row) × Above row cells

Above-append : (row : ℕ) (xs ys : List GridCell) → Above row xs → AllIn row ys → Above (suc row) (xs ++ ys)
Above-append row [] [] u a = tt
Above-append row [] (c ∷ ys) u a = let e = a.0 in (omega arith, Above-append row [] ys tt a.1)
Above-append row (c ∷ xs) ys u a = let l = u.0 in (omega arith, Above-append row xs ys u.1 a)

abbrev in_row : ℕ → List GridCell → List GridCell
in_row row cells = filter (λ (c : GridCell). c.row == row) cells

in_row_above : (row : ℕ) (cells : List GridCell) → Above row cells → in_row row cells ≡ []
in_row_above row [] u = refl
in_row_above row (c ∷ cells) u = let l = u.0 in ap (λ b. cond b (c ∷ in_row row cells) (in_row row cells)) (ne_eqb c.row row (λ e. omega arith))
    ∙ in_row_above row cells u.1

map-each : {A B C : Type 0} (h : B → C) (f : A → List B) (e : A → List C) (xs : List A) → ((x : A) → map h (f x) ≡ e x) → map h (flat_map f xs) ≡ flat_map e xs
map-each h f e [] same = refl
map-each h f e (x ∷ xs) same = map-append h (f x) (flat_map f xs) ∙ (λ i. same x i ++ map-each h f e xs same i)

filled_in : (items : List PlainItem) (row : ℕ) (cells : List GridCell) →
    filter (λ (c : FilledCell). c.rectangle.row == row) (filled items cells) ≡ filled items (in_row row cells)
filled_in items row [] = refl
filled_in items row (c ∷ cells) = by (c.row == row) (filled_in items row cells)
  where
    rest : List FilledCell
    rest = filter (λ (d : FilledCell). d.rectangle.row == row) (filled items cells)

    by : (b : Bool) → rest ≡ filled items (in_row row cells) →
        cond b (record { rectangle = rectangle_of c; inside = inside items c.at } ∷ rest) rest ≡ filled items (cond b (c ∷ in_row row cells) (in_row row cells))
    by true e = ap (λ v. record { rectangle = rectangle_of c; inside = inside items c.at } ∷ v) e
    by false e = e

rectangles_in : (row : ℕ) (cells : List GridCell) → map rectangle_of (in_row row cells) ≡ filter (λ (r : Rectangle). r.row == row) (map rectangle_of cells)
rectangles_in row [] = refl
rectangles_in row (c ∷ cells) = by (c.row == row) (rectangles_in row cells)
  where
    rest : List Rectangle
    rest = filter (λ (r : Rectangle). r.row == row) (map rectangle_of cells)

    by : (b : Bool) → map rectangle_of (in_row row cells) ≡ rest →
        map rectangle_of (cond b (c ∷ in_row row cells) (in_row row cells)) ≡ cond b (rectangle_of c ∷ rest) rest
    by true e = ap (λ v. rectangle_of c ∷ v) e
    by false e = e

module _ (items : List PlainItem) (lawful : Lawful items) (column : ℕ) (g : Grid) where
  abbrev grows : ℕ → Bool
  grows k = list_any (λ c. spans_column column c && covers_row c k) g.cells

  abbrev wider : GridCell → Option (List ℕ)
  wider c = Some (decimal (suc c.columns))

  -- what is read of a row
  abbrev row_out : ℕ → List (List PlainItem)
  row_out k =
      cell_insides items (filter (left_of column) (in_row k g.cells))
      ++ ((if grows k then [] else empty_paragraph ∷ []) ++ cell_insides items (filter (right_of column) (in_row k g.cells)))

  -- the part of a row's cells, where the cells before are above it
  own_cells : (rows : List TableRow) (index : ℕ) (before own later : List GridCell) → g.cells ≡ before ++ (own ++ later) → Above index before →
      AllIn index own → ByRows items (suc index) rows later → in_row index g.cells ≡ own
  own_cells rows index before own later whole u a b =
      let first = in_row_above index before u in
      let here : in_row index own ≡ own = filter_in (λ (d : GridCell). d.row == index) true index own a (λ d z. eq-eqb d.row index z) in
      let below : in_row index later ≡ [] =
      filter_below (λ (d : GridCell). d.row == index) false (suc index) later (by_rows_below items rows (suc index) later b)
      (λ d l. ne_eqb d.row index (λ z. omega arith)) in
      ap (in_row index) whole
      ∙ filter-append (λ (d : GridCell). d.row == index) before (own ++ later)
      ∙ (λ i. first i ++ filter-append (λ (d : GridCell). d.row == index) own later i)
      ∙ (λ i. here i ++ below i)
      ∙ append-nil own

  none_grows : (k : ℕ) (before own later : List GridCell) → g.cells ≡ before ++ (own ++ later) → grows k ≡ false →
      list_any (λ c. spans_column column c && covers_row c k) own ≡ false
  none_grows k before own later whole e =
      let test : GridCell → Bool = λ c. spans_column column c && covers_row c k in
      let p = or_parts (list_any test before) (list_any test (own ++ later)) (sym (ap (list_any test) whole ∙ list_any-append test before (own ++ later)) ∙ e) in
      (or_parts (list_any test own) (list_any test later) (sym (list_any-append test own later) ∙ p.1)).0

  rows_with : (rows : List TableRow) (index low high : ℕ) (before cells : List GridCell) → g.cells ≡ before ++ cells → Above index before →
      Chain row_at items (Tr ∷ []) low high rows → ByRows items index rows cells →
      AllTurned row_at items InSection rows (flat_map (column_edits items column g) (enumerate_from index rows)) (flat_map row_out (range_with_len index (length rows)))
  rows_with [] index low high before cells e u c b = (refl, refl)
  rows_with (r ∷ rows) index low high before cells e u c b =
      let whole : g.cells ≡ before ++ (b.0 ++ b.1) = e ∙ ap (λ v. before ++ v) b.2 in
      let own = own_cells rows index before b.0 b.1 whole u b.3 b.5 in
      let one = row_with column items lawful c.1.0 r c.1.2 c.1.1 index b.0 (grows index) b.4 b.3 b.6 (none_grows index before b.0 b.1 whole) wider in
      let next = rows_with rows (suc index) (end_of_node items r.at) high (before ++ b.0) b.1 (whole ∙ sym (append_assoc before b.0 b.1))
      (Above-append index before b.0 u b.3) c.2 b.5 in
      let z : suc index ≡ index + 1 = omega arith in (
        column_edits items column g (index, r),
        flat_map (column_edits items column g) (enumerate_from (index + 1) rows),
        row_out index,
        flat_map row_out (range_with_len (index + 1) (length rows)),
        refl,
        refl,
        subst (λ v. Turned InSection InSection r.at (piece items r.at)
            (map (λ (d : GridCell). set_columns (suc d.columns) d) (filter (spans_column column) v) ++
            (if grows index then [] else Change (cell_place items r column v) 0 new_cell ∷ []))
            (cell_insides items (filter (left_of column) v) ++
            ((if grows index then [] else empty_paragraph ∷ []) ++ cell_insides items (filter (right_of column) v)))) (sym own) one,
        subst (λ m. AllTurned row_at items InSection rows (flat_map (column_edits items column g) (enumerate_from m rows))
            (flat_map row_out (range_with_len m (length rows)))) z next,
      )

  row_insides_are : (k : ℕ) → insides_of (row_of_cells g column (filled items g.cells) k) ≡ row_out k
  row_insides_are k =
      let fs = filter (λ (c : FilledCell). c.rectangle.row == k) (filled items g.cells) in
      let left = map (at_rectangle (moved_right column)) (filter (λ (c : FilledCell). nat_lt c.rectangle.column column) fs) in
      let right = map (at_rectangle (moved_right column)) (filter (λ (c : FilledCell). nat_le column c.rectangle.column) fs) in
      let new = if has_new_cell (layout_of g) column k then new_filled (one_by_one k column) ∷ [] else [] in
      map-append (λ (c : FilledCell). c.inside) left (new ++ right)
      ∙ ap (λ v. insides_of left ++ v) (map-append (λ (c : FilledCell). c.inside) new right)
      ∙ (λ i. (ap (λ v. insides_of (map (at_rectangle (moved_right column)) (filter (λ (c : FilledCell). nat_lt c.rectangle.column column) v)))
      (filled_in items k g.cells)
      ∙ insides_moved items (moved_right column) (λ r. nat_lt r.column column) (in_row k g.cells)) i
      ++ (new_is i
      ++ (ap (λ v. insides_of (map (at_rectangle (moved_right column)) (filter (λ (c : FilledCell). nat_le column c.rectangle.column) v))) (filled_in items k g.cells)
      ∙ insides_moved items (moved_right column) (λ r. nat_le column r.column) (in_row k g.cells)) i))
    where
      new_is : insides_of (if has_new_cell (layout_of g) column k then new_filled (one_by_one k column) ∷ [] else [])
          ≡ (if grows k then [] else empty_paragraph ∷ [])
      new_is =
          ap (λ b. insides_of (if not b then new_filled (one_by_one k column) ∷ [] else []))
          (any_rectangle (λ r. grows_right column r && has_row r k) g.cells) ∙ by (grows k)
        where
          by : (b : Bool) → insides_of (if not b then new_filled (one_by_one k column) ∷ [] else []) ≡ (if b then [] else empty_paragraph ∷ [])
          by true = refl
          by false = refl

  row_rectangles_are : (k : ℕ) → rectangles_of (row_of_cells g column (filled items g.cells) k) ≡ row_with_column (layout_of g) column k
  row_rectangles_are k =
      let fs = filter (λ (c : FilledCell). c.rectangle.row == k) (filled items g.cells) in
      let left = map (at_rectangle (moved_right column)) (filter (λ (c : FilledCell). nat_lt c.rectangle.column column) fs) in
      let right = map (at_rectangle (moved_right column)) (filter (λ (c : FilledCell). nat_le column c.rectangle.column) fs) in
      let new = if has_new_cell (layout_of g) column k then new_filled (one_by_one k column) ∷ [] else [] in
      let same : rectangles_of fs ≡ filter (λ (r : Rectangle). r.row == k) (map rectangle_of g.cells) =
      ap rectangles_of (filled_in items k g.cells) ∙ rectangles_are items (in_row k g.cells) ∙ rectangles_in k g.cells in
      map-append (λ (c : FilledCell). c.rectangle) left (new ++ right)
      ∙ ap (λ v. rectangles_of left ++ v) (map-append (λ (c : FilledCell). c.rectangle) new right)
      ∙ (λ i. (rectangles_moved (moved_right column) (λ r. nat_lt r.column column) fs ∙ ap
      (λ v. map (moved_right column) (filter (λ (r : Rectangle). nat_lt r.column column) v)) same) i
      ++ (by (has_new_cell (layout_of g) column k) i
      ++ (rectangles_moved (moved_right column) (λ r. nat_le column r.column) fs ∙ ap
      (λ v. map (moved_right column) (filter (λ (r : Rectangle). nat_le column r.column) v)) same) i))
    where
      by : (b : Bool) → rectangles_of (if b then new_filled (one_by_one k column) ∷ [] else []) ≡ (if b then one_by_one k column ∷ [] else [])
      by true = refl
      by false = refl

  same_rectangles : (col_in_layout (layout_of g) column).rectangles
      ≡ rectangles_of (flat_map (row_of_cells g column (filled items g.cells)) (range_with_len 0 g.rows))
  same_rectangles =
      sym (map-each (λ (c : FilledCell). c.rectangle) (row_of_cells g column (filled items g.cells)) (row_with_column (layout_of g) column)
      (range_with_len 0 g.rows) row_rectangles_are)

  pub insides_with : (at : ℕ) → grid items at ≡ Ok g →
      insides (edited (transaction_of items (flat_map (column_edits items column g) (enumerate_from 0 (table_rows items at)))) items) at
      ≡ insides_of (flat_map (row_of_cells g column (filled items g.cells)) (range_with_len 0 g.rows))
  insides_with at given =
      let s = grid_stands items at g lawful given in
      let rows = table_rows items at in
      let all = rows_with rows 0 _ _ [] g.cells refl tt s.rows (grid_by_rows items at g given) in
      insides_after items at lawful s.table (flat_map (column_edits items column g) (enumerate_from 0 rows)) (flat_map row_out (range_with_len 0 (length rows))) all
      ∙ ap (λ n. flat_map row_out (range_with_len 0 n)) (sym s.count)
      ∙ sym (map-each (λ (c : FilledCell). c.inside) (row_of_cells g column (filled items g.cells)) row_out (range_with_len 0 g.rows) row_insides_are)

pub col_in_keeps : ColInGrid → ColInKeeps
col_in_keeps col_in_grid items at column t g lawful given h =
    let made = fault_or_is _ (transaction_of items (flat_map (column_edits items column g) (enumerate_from 0 (table_rows items at)))) t
    (on_given (grid items at) _ g t given h) in
    filled_is (edited t items) at (col_in_layout (layout_of g) column) (flat_map (row_of_cells g column (filled items g.cells)) (range_with_len 0 g.rows))
    (col_in_grid items at column t g lawful given h)
    (same_rectangles items lawful column g)
    (ap (λ v. insides (edited v items) at) (sym made) ∙ insides_with items lawful column g at given)
