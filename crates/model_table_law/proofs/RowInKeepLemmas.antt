-- The insides of the cells after a row is put in.
use Rattle.std.specs.Prelude.{filter, flat_map, codes, decimal}
use Rattle.std.specs.List.{list_any, range_with_len}
use Rattle.std.proofs.Common.{◌≡◌, ℕ, zero, suc, ◌+◌, ◌≤◌, ◌<◌, ◌==◌, Bool, true, false, ◌&&◌, ◌||◌, if◌then◌else◌, nat_le, nat_lt, List, [], ◌∷◌, ◌++◌, length, map, Option, Some, Ok, refl, sym, ap, ◌∙◌, subst, arith, append-nil}
use Rattle.std.proofs.lemmas.Bool.{or_parts, ltb-false, eqb-false, le-leb, lt-ltb, leb-true}
use Rattle.std.proofs.lemmas.List.Elements.{filter-append}
use Rattle.std.proofs.lemmas.List.{append_assoc}
use Rattle.ve_kinds.specs.declared.kind.Kind.TheVariants.{Tr}
use Rattle.model_items.specs.declared.plain_item.PlainItem.{PlainItem}
use Rattle.model_items.specs.Law.{Lawful}
use Rattle.model_items.specs.Offsets.{end_of_node}
use Rattle.model_change.specs.Transaction.{edited}
use Rattle.model_edit.specs.Brackets.{opening_of, closing_of}
use Rattle.model_edit.specs.Edits.{Edit, Change, transaction_of}
use Rattle.model_edit.specs.declared.grid_cell.GridCell.{GridCell}
use Rattle.model_edit.specs.Causes.{BadRow}
use Rattle.model_edit.specs.Grid.{TableRow, Grid, grid, table_rows, covers_column}
use Rattle.model_edit.specs.Layout.{Rectangle, layout_of, one_by_one, new_columns, grows_down, has_column, moved_down, row_in_layout}
use Rattle.model_edit.specs.Tables.{spans_row, set_rows, row_place, new_row, new_cell, row_in_edits}
use Rattle.model_edit_law.specs.Spans.{rectangle_of}
use Rattle.model_edit_law.proofs.SiblingLemmas.{no_less}
use Rattle.model_edit_law.proofs.TableSetLemmas.{map-append}
use Rattle.model_edit_law.proofs.TablePlaceLemmas.{Chain, row_at, grid_stands}
use Rattle.model_edit_law.proofs.TableFineLemmas.{fault_or_is}
use Rattle.model_edit_law.proofs.RowOutGridLemmas.{first_none, no_fault}
use Rattle.model_table_law.specs.Cells.{inside, FilledCell, at_rectangle, new_filled}
use Rattle.model_table_law.specs.Grids.{RowInGrid}
use Rattle.model_table_law.specs.Insides.{RowInKeeps, row_in_cells}
use Rattle.model_table_law.proofs.ReadLemmas.{InSection, insides}
use Rattle.model_table_law.proofs.PieceLemmas.{Walk, Walk-join, Walk-row, Walk-row_end, Turned, Turned-join, Turned-put}
use Rattle.model_table_law.proofs.NodeTurnLemmas.{piece, AllTurned}
use Rattle.model_table_law.proofs.TableTurnLemmas.{insides_after}
use Rattle.model_table_law.proofs.FilledLemmas.{rectangles_of, insides_of, cell_insides, ByRows, grid_by_rows, filled_is}
use Rattle.model_table_law.proofs.MovedLemmas.{filled, rectangles_are, rectangles_moved, insides_moved, any_rectangle, new_insides, Walk-new_cells, rectangles_new, insides_new}
use Rattle.model_table_law.proofs.RowsTurnLemmas.{row_set, row_kept, rows_kept, node_long}
use Rattle.model_table_law.proofs.ColOutKeepLemmas.{on_given}
use Rattle.model_table_law.proofs.RowOutKeepLemmas.{by_rows_below, filter_in, filter_below, low_spans_not}

le_not : (m n : ℕ) → m < n → nat_le n m ≡ false
le_not m n l = by (nat_le n m) refl
  where
    by : (b : Bool) → nat_le n m ≡ b → b ≡ false
    by true e = let z = leb-true n m e in absurd (omega arith)
    by false e = refl

module _ (items : List PlainItem) (lawful : Lawful items) (row : ℕ) (g : Grid) where
  abbrev grown : ℕ → Bool
  grown column = list_any (λ c. spans_row row c && covers_column c column) g.cells

  abbrev news : List (List PlainItem)
  news = new_insides grown (range_with_len 0 g.columns)

  abbrev more : GridCell → Option (List ℕ)
  more c = Some (decimal (suc c.rows))

  abbrev sets : List GridCell → List Edit
  sets cells = map (λ (c : GridCell). set_rows (suc c.rows) c) (filter (spans_row row) cells)

  abbrev above_row : GridCell → Bool
  above_row c = nat_lt c.row row

  abbrev below_row : GridCell → Bool
  below_row c = nat_le row c.row

  new_walk : Walk InSection InSection (new_row g row) news
  new_walk =
      let cells = flat_map (λ column. if grown column then [] else new_cell) (range_with_len 0 g.columns) in
      subst (Walk InSection InSection (new_row g row)) (append-nil news)
      (Walk-join (opening_of Tr [] ∷ []) (cells ++ closing_of Tr ∷ []) [] (news ++ []) (Walk-row Tr _ _ _ _ _ refl)
      (Walk-join cells (closing_of Tr ∷ []) news [] (Walk-new_cells grown (range_with_len 0 g.columns)) (Walk-row_end Tr [])))

  abbrev put : ℕ → List Edit
  put place = Change place 0 (new_row g row) ∷ []

  abbrev Rows : List TableRow → List GridCell → ℕ → Type 0
  Rows rows cells place =
      AllTurned row_at items InSection rows (sets cells ++ put place)
      (cell_insides items (filter above_row cells) ++ (news ++ cell_insides items (filter below_row cells)))

  -- no row is above the new one
  rows_first : (r : TableRow) (rows : List TableRow) (index low high : ℕ) (cells : List GridCell) → index ≡ row →
      Chain row_at items (Tr ∷ []) low high (r ∷ rows) → ByRows items index (r ∷ rows) cells → Rows (r ∷ rows) cells r.at
  rows_first r rows index low high cells e c b =
      let below = by_rows_below items (r ∷ rows) index cells b in
      let none : filter (spans_row row) cells ≡ [] = filter_below (spans_row row) false index cells below (λ d l. low_spans_not row d (omega arith)) in
      let no_above : filter above_row cells ≡ [] = filter_below above_row false index cells below (λ d l. no_less d.row row (omega arith)) in
      let all_below : filter below_row cells ≡ cells = filter_below below_row true index cells below (λ d l. le-leb row d.row (omega arith)) in
      let own : Turned InSection InSection r.at (piece items r.at) [] (cell_insides items b.0) = row_kept items lawful b.0 c.1.0 r.at c.1.2 c.1.1 b.4 in (
        put r.at,
        [],
        news ++ cell_insides items b.0,
        cell_insides items b.1,
        ap (λ v. map (λ (d : GridCell). set_rows (suc d.rows) d) v ++ put r.at) none,
        (λ i. cell_insides items (no_above i) ++ (news ++ cell_insides items (all_below i)))
            ∙ ap (λ v. news ++ v) (ap (cell_insides items) b.2 ∙ map-append (λ (d : GridCell). inside items d.at) b.0 b.1)
            ∙ sym (append_assoc news (cell_insides items b.0) (cell_insides items b.1)),
        Turned-join r.at r.at [] (piece items r.at) (put r.at) [] news (cell_insides items b.0) (omega arith)
            (Turned-put r.at r.at (new_row g row) news refl new_walk) own,
        rows_kept items lawful rows (suc index) (end_of_node items r.at) high b.1 c.2 b.5,
      )

  -- only one row is left, and the new one comes after it
  row_last : (r : TableRow) (index low high : ℕ) (cells : List GridCell) → index < row → Chain row_at items (Tr ∷ []) low high (r ∷ []) →
      ByRows items index (r ∷ []) cells → Rows (r ∷ []) cells (end_of_node items r.at)
  row_last r index low high cells l c b =
      let all : cells ≡ b.0 = b.2 ∙ ap (λ v. b.0 ++ v) b.5 ∙ append-nil b.0 in
      let above : filter above_row b.0 ≡ b.0 = filter_in above_row true index b.0 b.3 (λ d z. lt-ltb d.row row (omega arith)) in
      let below : filter below_row b.0 ≡ [] = filter_in below_row false index b.0 b.3 (λ d z. le_not d.row row (omega arith)) in
      let long = node_long items lawful c.1.0 r.at c.1.2 in
      let own = row_set items lawful (codes "rowspan") more (spans_row row) b.0 c.1.0 r.at c.1.2 c.1.1 b.4 in
      let end = end_of_node items r.at in
      let both = Turned-join r.at (r.at + length (piece items r.at)) (piece items r.at) [] (sets b.0) (put end) (cell_insides items b.0) news refl own
      (Turned-put (r.at + length (piece items r.at)) end (new_row g row) news (sym long) new_walk) in (
        sets b.0 ++ put end,
        [],
        cell_insides items b.0 ++ news,
        [],
        ap (λ v. sets v ++ put end) all ∙ sym (append-nil (sets b.0 ++ put end)),
        (λ i. cell_insides items (filter above_row (all i)) ++ (news ++ cell_insides items (filter below_row (all i))))
            ∙ (λ i. cell_insides items (above i) ++ (news ++ cell_insides items (below i))) ∙ sym (append_assoc (cell_insides items b.0) news []),
        subst (λ v. Turned InSection InSection r.at v (sets b.0 ++ put end) (cell_insides items b.0 ++ news)) (append-nil (piece items r.at)) both,
        (refl, refl),
      )

  rows_with : (above : ℕ) (rows : List TableRow) (index low high : ℕ) (cells : List GridCell) → index + above ≡ row → above ≤ length rows →
      1 ≤ length rows → Chain row_at items (Tr ∷ []) low high rows → ByRows items index rows cells →
      Rows rows cells (row_place items rows above)
  rows_with above [] index low high cells e l m c b = absurd (omega arith)
  rows_with zero (r ∷ []) index low high cells e l m c b = rows_first r [] index low high cells (omega arith) c b
  rows_with zero (r ∷ next ∷ rows) index low high cells e l m c b = rows_first r (next ∷ rows) index low high cells (omega arith) c b
  rows_with (suc above) (r ∷ []) index low high cells e l m c b = row_last r index low high cells (omega arith) c b
  rows_with (suc above) (r ∷ next ∷ rows) index low high cells e l m c b =
      let place = row_place items (next ∷ rows) above in
      let first : filter above_row b.0 ≡ b.0 = filter_in above_row true index b.0 b.3 (λ d z. lt-ltb d.row row (omega arith)) in
      let below : filter below_row b.0 ≡ [] = filter_in below_row false index b.0 b.3 (λ d z. le_not d.row row (omega arith)) in
      let later = news ++ cell_insides items (filter below_row b.1) in (
        sets b.0,
        sets b.1 ++ put place,
        cell_insides items b.0,
        cell_insides items (filter above_row b.1) ++ later,
        ap (λ v. v ++ put place)
            (ap sets b.2 ∙ ap (map (λ (d : GridCell). set_rows (suc d.rows) d)) (filter-append (spans_row row) b.0 b.1) ∙ map-append
            (λ (d : GridCell). set_rows (suc d.rows) d) (filter (spans_row row) b.0) (filter (spans_row row) b.1))
            ∙ append_assoc (sets b.0) (sets b.1) (put place),
        (λ i. cell_insides items ((ap (filter above_row) b.2 ∙ filter-append above_row b.0 b.1 ∙ ap (λ v. v ++ filter above_row b.1) first) i)
            ++ (news ++ cell_insides items ((ap (filter below_row) b.2 ∙ filter-append below_row b.0 b.1 ∙ ap (λ v. v ++ filter below_row b.1) below) i)))
            ∙ ap (λ v. v ++ later) (map-append (λ (d : GridCell). inside items d.at) b.0 (filter above_row b.1))
            ∙ append_assoc (cell_insides items b.0) (cell_insides items (filter above_row b.1)) later,
        row_set items lawful (codes "rowspan") more (spans_row row) b.0 c.1.0 r.at c.1.2 c.1.1 b.4,
        rows_with above (next ∷ rows) (suc index) (end_of_node items r.at) high b.1 (omega arith) (omega arith) (omega arith) c.2 b.5,
      )

  same_insides : insides_of (row_in_cells g row (filled items g.cells))
      ≡ cell_insides items (filter above_row g.cells) ++ (news ++ cell_insides items (filter below_row g.cells))
  same_insides =
      map-append (λ (c : FilledCell). c.inside) (map (at_rectangle (moved_down row)) (filter (λ (c : FilledCell). nat_lt c.rectangle.row row) (filled items g.cells))) _
      ∙ ap (λ v. insides_of (map (at_rectangle (moved_down row)) (filter (λ (c : FilledCell). nat_lt c.rectangle.row row) (filled items g.cells))) ++ v)
      (map-append (λ (c : FilledCell). c.inside) (map (λ column. new_filled (one_by_one row column)) (new_columns (layout_of g) row)) _)
      ∙ (λ i. insides_moved items (moved_down row) (λ r. nat_lt r.row row) g.cells i
      ++ (insides_new (one_by_one row) grown (λ column. list_any (λ r. grows_down row r && has_column r column) (map rectangle_of g.cells))
      (range_with_len 0 g.columns) (λ column. any_rectangle (λ r. grows_down row r && has_column r column) g.cells) i
      ++ insides_moved items (moved_down row) (λ r. nat_le row r.row) g.cells i))

  same_rectangles : (row_in_layout (layout_of g) row).rectangles ≡ rectangles_of (row_in_cells g row (filled items g.cells))
  same_rectangles =
      sym (map-append (λ (c : FilledCell). c.rectangle) (map (at_rectangle (moved_down row))
      (filter (λ (c : FilledCell). nat_lt c.rectangle.row row) (filled items g.cells))) _
      ∙ ap (λ v. rectangles_of (map (at_rectangle (moved_down row)) (filter (λ (c : FilledCell). nat_lt c.rectangle.row row) (filled items g.cells))) ++ v)
      (map-append (λ (c : FilledCell). c.rectangle) (map (λ column. new_filled (one_by_one row column)) (new_columns (layout_of g) row)) _)
      ∙ (λ i. rectangles_moved (moved_down row) (λ r. nat_lt r.row row) (filled items g.cells) i
      ++ (rectangles_new (one_by_one row) (new_columns (layout_of g) row) i ++ rectangles_moved (moved_down row) (λ r. nat_le row r.row) (filled items g.cells) i))
      ∙ ap (λ v. map (moved_down row) (filter (λ (r : Rectangle). nat_lt r.row row) v) ++
      (map (one_by_one row) (new_columns (layout_of g) row) ++ map (moved_down row) (filter (λ (r : Rectangle). nat_le row r.row) v))) (rectangles_are items g.cells))

  pub insides_with : (at : ℕ) → grid items at ≡ Ok g → row ≤ g.rows → 1 ≤ g.rows →
      insides (edited (transaction_of items (row_in_edits items (table_rows items at) row g)) items) at ≡ insides_of (row_in_cells g row (filled items g.cells))
  insides_with at given most some =
      let s = grid_stands items at g lawful given in
      let count = s.count in
      let all = rows_with row (table_rows items at) 0 _ _ g.cells (omega arith) (omega arith) (omega arith) s.rows (grid_by_rows items at g given) in
      insides_after items at lawful s.table (row_in_edits items (table_rows items at) row g) _ all ∙ sym same_insides

pub row_in_keeps : RowInGrid → RowInKeeps
row_in_keeps row_in_grid items at row t g lawful given h =
    let f = on_given (grid items at) _ g t given h in
    let made = fault_or_is _ (transaction_of items (row_in_edits items (table_rows items at) row g)) t f in
    let q = first_none ((g.rows == 0) || nat_lt g.rows row) (BadRow row g.rows) _ (no_fault _ _ t f) in
    let p = or_parts (g.rows == 0) (nat_lt g.rows row) q.0 in
    let most = ltb-false g.rows row p.1 in
    filled_is (edited t items) at (row_in_layout (layout_of g) row) (row_in_cells g row (filled items g.cells))
    (row_in_grid items at row t g lawful given h)
    (same_rectangles items lawful row g)
    (ap (λ v. insides (edited v items) at) (sym made) ∙ insides_with items lawful row g at given (omega arith) (some g.rows (eqb-false g.rows 0 p.0)))
  where
    some : (n : ℕ) → (n ≡ 0 → ⊥) → 1 ≤ n
    some zero h = absurd (h refl)
    some (suc n) h = omega arith
