-- The rows of a table with a column put in, as lines of spans.
use Rattle.std.specs.Prelude.{slice_get, flat_map}
use Rattle.std.proofs.Common.{◌≡◌, ◌⊎◌, inl, inr, ℕ, suc, ◌+◌, ◌<◌, ◌≤◌, true, List, [], ◌∷◌, ◌++◌, length, map, Some, refl, sym, ap, ◌∙◌, subst, arith}
use Rattle.ve_base.specs.Limits.{max_column_span}
use Rattle.ve_kinds.specs.declared.kind.Kind.{Kind}
use Rattle.ve_kinds.specs.declared.kind.Kind.TheVariants.{Table, Thead, Tbody, Tfoot, Tr}
use Rattle.model_items.specs.declared.plain_item.PlainItem.{PlainItem}
use Rattle.model_items.specs.Law.{Lawful}
use Rattle.model_items.specs.Tree.{Open}
use Rattle.model_items.specs.Offsets.{partner, end_of_node, passes}
use Rattle.model_edit.specs.Brackets.{is_opening_of}
use Rattle.model_edit.specs.Edits.{Edit}
use Rattle.model_edit.specs.declared.grid_cell.GridCell.{GridCell}
use Rattle.model_edit.specs.Grid.{TableRow, Grid, children_of, section_rows, table_rows, row_cells}
use Rattle.model_edit.specs.Layout.{Rectangle}
use Rattle.model_edit.specs.Tables.{spans_column}
use Rattle.model_edit_law.specs.Spans.{Line, rectangle_of, size_of, of_row, cell_span_at, line_at, table_lines}
use Rattle.model_edit_law.proofs.TablePlaceLemmas.{Opens, Chain, from_of, children_of_stand, Standing}
use Rattle.model_edit_law.proofs.TableFineLemmas.{row_within, row_ahead}
use Rattle.model_edit_law.proofs.TableSetLemmas.{map-append, length_map, Among}
use Rattle.model_edit_law.proofs.CellRowLemmas.{Pairs, cells_in, AmongNodes, section_clear}
use Rattle.model_table_law.proofs.RowsAddLemmas.{Rising}
use Rattle.model_table_law.proofs.ColInCoverLemmas.{row_with, lines_with}
use Rattle.model_table_law.proofs.PutInLemmas.{moved_by}
use Rattle.model_table_law.proofs.PutEditsLemmas.{to, to_before, set_of-before, Apart, get_kept}
use Rattle.model_table_law.proofs.ColInPlaceLemmas.{Puts_from, Apart_from}
use Rattle.model_table_law.proofs.RowNodesLemmas.{children_of-moved}
use Rattle.model_table_law.proofs.ColInRowLemmas.{all_edits, with_column, in_order, same_children, row_spans}

lines_with-append : (column : ℕ) (all : List Rectangle) (i next : ℕ) (xs ys : List Line) → next ≡ i + length xs → lines_with column all i (xs ++ ys) ≡ lines_with column all i xs ++ lines_with column all next ys
lines_with-append column all i next [] ys e = let z : i ≡ next = omega arith in ap (λ k. lines_with column all k ys) z
lines_with-append column all i next (line ∷ xs) ys e =
    ap (λ v. record { left = line.left; spans = map size_of (row_with column all i) } ∷ v) (lines_with-append column all (suc i) next xs ys (omega arith))

node_opens : (items : List PlainItem) (kinds : List Kind) (nodes : List Open) (low high : ℕ) (o : Open) → Chain from_of items kinds low high nodes → AmongNodes o nodes → (kind : Kind) × Opens items kind o.from
node_opens items kinds [] low high o c a = absurd a
node_opens items kinds (x ∷ nodes) low high o c (inl e) = subst (λ (v : Open). (kind : Kind) × Opens items kind v.from) e (c.1.0, c.1.2)
node_opens items kinds (x ∷ nodes) low high o c (inr a) = node_opens items kinds nodes (end_of_node items x.from) high o c.2 a

module _ (items : List PlainItem) (at column : ℕ) (g : Grid) (lawful : Lawful items) (s : Standing items at g)
    (pairs : (k : ℕ) (r : TableRow) → slice_get (table_rows items at) k ≡ Some r → Pairs items (cells_in k g.cells) (row_cells items r.at))
    (rising : (k : ℕ) → Rising 0 (of_row (map rectangle_of g.cells) k)) (room : (c : GridCell) → Among c g.cells → spans_column column c ≡ true → c.columns < max_column_span) where
  abbrev E : List Edit
  E = all_edits items at column g lawful s pairs rising room

  abbrev X : List PlainItem
  X = with_column items at column g lawful s pairs rising room

  abbrev rectangles : List Rectangle
  rectangles = map rectangle_of g.cells

  abbrev AllDone : ℕ → List TableRow → Type 0
  AllDone i [] = Unit {0}
  AllDone i (r ∷ rows) = (map (cell_span_at X) (row_cells X (to E r.at)) ≡ map size_of (row_with column rectangles i)) × AllDone (suc i) rows

  done_parts : (i next : ℕ) (xs ys : List TableRow) → next ≡ i + length xs → AllDone i (xs ++ ys) → AllDone i xs × AllDone next ys
  done_parts i next [] ys e h = (tt, (let z : i ≡ next = omega arith in subst (λ k. AllDone k ys) z h))
  done_parts i next (x ∷ xs) ys e h = let r = done_parts (suc i) next xs ys (omega arith) h.1 in ((h.0, r.0), r.1)

  all_done : (rows : List TableRow) (i : ℕ) → ((k : ℕ) (r : TableRow) → slice_get rows k ≡ Some r → map (cell_span_at X) (row_cells X (to E r.at)) ≡ map size_of (row_with column rectangles (i + k))) → AllDone i rows
  all_done [] i h = tt
  all_done (r ∷ rows) i h =
      let z : i + 0 ≡ i = omega arith in (
        subst (λ m. map (cell_span_at X) (row_cells X (to E r.at)) ≡ map size_of (row_with column rectangles m)) z (h 0 r refl),
        all_done rows (suc i) (λ k r' e. let y : i + suc k ≡ suc i + k = omega arith in subst (λ m. map (cell_span_at X) (row_cells X (to E r'.at)) ≡ map size_of (row_with column rectangles m)) y (h (suc k) r' e)),
      )

  rows_done : (nodes : List Open) (i : ℕ) → AllDone i (section_rows nodes) → map (line_at X) (section_rows (map (moved_by (to E)) nodes)) ≡ lines_with column rectangles i (map (line_at items) (section_rows nodes))
  rows_done [] i h = refl
  rows_done (o ∷ nodes) i h = (λ j. record { left = suc (length_map (moved_by (to E)) nodes j); spans = h.0 j } ∷ rows_done nodes (suc i) h.1 j)

  abbrev rows_in : List PlainItem → Open → List TableRow
  rows_in list section = section_rows (children_of (Tr ∷ []) list section.from)

  sections_done : (sections : List Open) (i : ℕ) → ((o : Open) → AmongNodes o sections → children_of (Tr ∷ []) X (to E o.from) ≡ map (moved_by (to E)) (children_of (Tr ∷ []) items o.from)) →
      AllDone i (flat_map (rows_in items) sections) →
      map (line_at X) (flat_map (rows_in X) (map (moved_by (to E)) sections)) ≡ lines_with column rectangles i (map (line_at items) (flat_map (rows_in items) sections))
  sections_done [] i h all = refl
  sections_done (o ∷ sections) i h all =
      let nodes = children_of (Tr ∷ []) items o.from in
      let rows = rows_in items o in
      let later = flat_map (rows_in items) sections in
      let parts = done_parts i (i + length rows) rows later refl all in
      let long = length_map (line_at items) rows in
      map-append (line_at X) (rows_in X (moved_by (to E) o)) (flat_map (rows_in X) (map (moved_by (to E)) sections))
      ∙ (λ j. map (line_at X) (section_rows (h o (inl refl) j)) ++ sections_done sections (i + length rows) (λ o' m. h o' (inr m)) parts.1 j)
      ∙ ap (λ v. v ++ lines_with column rectangles (i + length rows) (map (line_at items) later)) (rows_done nodes i parts.0)
      ∙ sym (lines_with-append column rectangles i (i + length rows) (map (line_at items) rows) (map (line_at items) later) (omega arith))
      ∙ ap (lines_with column rectangles i) (sym (map-append (line_at items) rows later))

  stays : to E at ≡ at
  stays = to_before E (suc at) (partner items at) at (in_order items at column g lawful s pairs rising room) (omega arith)

  -- Its rows have the spans of the rectangles with the column.
  pub lines_widened : table_lines X at ≡ lines_with column rectangles 0 (table_lines items at)
  lines_widened =
      let kinds = Thead ∷ Tbody ∷ Tfoot ∷ [] in
      let rows = table_rows items at in
      let apart : Apart items at E = Apart_from items at column g lawful s pairs Table at 0 rows s.table (λ n r e.
      let z : n ≡ 0 + n = omega arith in
      let low = (row_within items (Tr ∷ []) (suc at) (partner items at) rows n r s.rows e).0 in
      (subst (λ m. slice_get rows m ≡ Some r) z e, (λ same. omega arith))) in
      let sections : children_of kinds X at ≡ map (moved_by (to E)) (children_of kinds items at) =
      ap (children_of kinds X) (sym stays) ∙ children_of-moved kinds items X at (to E at) (to E) (same_children items at column g lawful s pairs rising room at apart) in
      let all = all_done rows 0 (λ k r e. let y : k ≡ 0 + k = omega arith in
      row_spans items at column g lawful s pairs rising room k r e ∙ ap (λ m. map size_of (row_with column rectangles m)) y) in
      ap (λ v. map (line_at X) (flat_map (rows_in X) v)) sections
      ∙ sections_done (children_of kinds items at) 0 section_stays all
    where
      section_stays : (o : Open) → AmongNodes o (children_of (Thead ∷ Tbody ∷ Tfoot ∷ []) items at) → children_of (Tr ∷ []) X (to E o.from) ≡ map (moved_by (to E)) (children_of (Tr ∷ []) items o.from)
      section_stays o m =
          let kinds = Thead ∷ Tbody ∷ Tfoot ∷ [] in
          let rows = table_rows items at in
          let stand = children_of_stand items kinds Table at lawful s.table in
          let w = node_opens items kinds (children_of kinds items at) (suc at) (partner items at) o stand m in
          let apart : Apart items o.from E = Apart_from items at column g lawful s pairs w.0 o.from 0 rows w.1 (λ n r e.
          let z : n ≡ 0 + n = omega arith in (
            subst (λ m. slice_get rows m ≡ Some r) z e,
            other o r (row_ahead items (Tr ∷ []) (suc at) (partner items at) rows n r s.rows e) (section_clear items kinds (children_of kinds items at) (suc at) (partner items at) o n r lawful stand m e),
          )) in
          children_of-moved (Tr ∷ []) items X o.from (to E o.from) (to E) (same_children items at column g lawful s pairs rising room o.from apart)
        where
          other : (o : Open) (r : TableRow) → suc r.at ≤ partner items r.at → (o.from < r.at) ⊎ (suc (partner items r.at) ≤ o.from) → o.from ≡ r.at → ⊥
          other o r l (inl h) same = omega arith
          other o r l (inr h) same = omega arith

  -- the table still opens at its position
  pub opens_widened : passes (is_opening_of Table) (slice_get X at) ≡ true
  opens_widened =
      let o = s.table in
      let within = o.within in
      let order = in_order items at column g lawful s pairs rising room in
      ap (λ k. passes (is_opening_of Table) (slice_get X k)) (sym stays)
      ∙ ap (passes (is_opening_of Table))
      (get_kept items E (suc at) (partner items at) at (Puts_from items at column g lawful s pairs 0 (table_rows items at)) order (omega arith)
      ∙ set_of-before E (suc at) (partner items at) at (slice_get items at) order (omega arith) ∙ o.here)
