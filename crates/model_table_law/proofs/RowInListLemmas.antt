-- The list of a table with a row put in: its lines are the old ones with the row's.
use Rattle.std.specs.Prelude.{slice_get, filter, flat_map, codes, decimal, not}
use Rattle.std.specs.List.{list_any, range_with_len}
use Rattle.std.proofs.Common.{◌≡◌, ℕ, zero, suc, ◌+◌, ◌-◌, ◌<◌, ◌≤◌, Bool, true, false, ◌&&◌, ◌||◌, if◌then◌else◌, nat_lt, nat_le, List, [], ◌∷◌, ◌++◌, length, map, take, drop, Option, Some, refl, sym, ap, ◌∙◌, subst, arith}
use Rattle.std.proofs.lemmas.Bool.{lt-ltb, le-leb}
use Rattle.std.proofs.lemmas.List.{append_assoc, length-take-le}
use Rattle.std.proofs.Math.Seq.{drop-append-add}
use Rattle.ve_kinds.specs.declared.kind.Kind.{Kind}
use Rattle.ve_kinds.specs.declared.kind.Kind.TheVariants.{Table, Thead, Tbody, Tfoot, Tr}
use Rattle.ve_kinds.specs.Table.{kind_same}
use Rattle.ve_base.specs.Limits.{max_row_span}
use Rattle.model_items.specs.declared.plain_item.PlainItem.{PlainItem}
use Rattle.model_items.specs.declared.plain_item.PlainItem.TheVariants.{Char, Opening, Closing}
use Rattle.model_items.specs.Law.{Lawful}
use Rattle.model_items.specs.Tree.{Open, Shape, Begin, shape_of}
use Rattle.model_items.specs.Offsets.{partner, end_of_node, children, siblings, passes}
use Rattle.model_change.proofs.TouchLemmas.{get-take-append}
use Rattle.model_edit.specs.Brackets.{closing_of, is_opening_of}
use Rattle.model_edit.specs.Edits.{substituted_from}
use Rattle.model_edit.specs.declared.grid_cell.GridCell.{GridCell}
use Rattle.model_edit.specs.Grid.{TableRow, Grid, children_of, table_rows, row_cells, covers_column}
use Rattle.model_edit.specs.Tables.{spans_row, row_place, row_in_edits}
use Rattle.model_edit_law.specs.Spans.{CellSpan, rectangle_of, cell_span_at, line_at, table_lines}
use Rattle.model_edit_law.proofs.TablePlaceLemmas.{Opens, Chain, Chain-ends, Chain-filter, row_at, from_of, cell_kinds, cell_at, children_of_stand, Standing}
use Rattle.model_edit_law.proofs.TableFineLemmas.{sets, row_within, place_after, row_in_order}
use Rattle.model_edit_law.proofs.TableLawfulLemmas.{row_opens}
use Rattle.model_edit_law.proofs.TableSetLemmas.{map-append, length_map, set_in, set_at, shapes_sets, get_sets, set_among, get_drop, get_past}
use Rattle.model_edit_law.proofs.TableCellLemmas.{Placed, AllPlaced, span_read}
use Rattle.model_edit_law.proofs.RowOutLemmas.{among_opens}
use Rattle.model_edit_law.proofs.TableSetLemmas.{Among}
use Rattle.model_table_law.proofs.RowInLayLemmas.{single, span_with, not_at, grown, LinesIn}
use Rattle.model_table_law.proofs.RowInNodesLemmas.{drop_shapes, place_with, node_with, place_near, place_far, kids_in, children-shapes, kids_far, kids_ended, kids_deep, kids_gap, of_kinds, of_kinds-with, of_kinds-append}
use Rattle.model_table_law.proofs.RowInPlaceLemmas.{before, node_ended, gap_round}
use Rattle.model_table_law.proofs.RowInSectionLemmas.{chain_at, rows_in, Parent, parent}
use Rattle.model_table_law.proofs.RowInLinesLemmas.{Kept, AllKept, lines_in}
use Rattle.model_table_law.proofs.RowInCellsLemmas.{put_in, row_of, new_cells, row_is_one, cells_read, span_more}

-- the rows from the new one on stand at its position or after it
place_before : (items : List PlainItem) (kinds : List Kind) (low high : ℕ) (rows : List TableRow) (i k : ℕ) (r : TableRow) →
    Chain row_at items kinds low high rows →
    slice_get rows i ≡ Some r → k ≤ i → row_place items rows k ≤ r.at
place_before items kinds low high [] i k r c h l = cc
place_before items kinds low high (one ∷ []) zero zero r c h l = (let e : one ≡ r = cc in subst (λ (v : TableRow). one.at ≤ v.at) e (omega arith))
place_before items kinds low high (one ∷ []) (suc i) k r c h l = cc
place_before items kinds low high (one ∷ rows) zero (suc k) r c h l = absurd (omega arith)
place_before items kinds low high (one ∷ next ∷ rows) zero zero r c h l = (let e : one ≡ r = cc in subst (λ (v : TableRow). one.at ≤ v.at) e (omega arith))
place_before items kinds low high (one ∷ next ∷ rows) (suc i) zero r c h l =
    let w = row_within items kinds (end_of_node items one.at) high (next ∷ rows) i r c.2 h in
    let a = (c.1.2).ahead in
    let w0 = w.0 in
    omega arith
place_before items kinds low high (one ∷ next ∷ rows) (suc i) (suc k) r c h l = place_before items kinds (end_of_node items one.at) high (next ∷ rows) i k r c.2 h (omega arith)

all_kept : (items new : List PlainItem) (p n row : ℕ) (rows : List TableRow) (i : ℕ) →
    ((k : ℕ) (r : TableRow) → slice_get rows k ≡ Some r → Kept items new p n row (i + k) r) → AllKept items new p n row i rows
all_kept items new p n row [] i h = tt
all_kept items new p n row (r ∷ rows) i h =
    let z : i + 0 ≡ i = omega arith in (
      subst (λ m. Kept items new p n row m r) z (h 0 r refl),
      all_kept items new p n row rows (suc i) (λ k r' e. let y : i + suc k ≡ suc i + k = omega arith in subst (λ m. Kept items new p n row m r') y (h (suc k) r' e)),
    )

shapes_take : (n : ℕ) (items : List PlainItem) → map shape_of (take n items) ≡ take n (map shape_of items)
shapes_take zero items = refl
shapes_take (suc n) [] = refl
shapes_take (suc n) (x ∷ items) = ap (λ v. shape_of x ∷ v) (shapes_take n items)

-- whether a table opens is told by the shape
abbrev opens_table : Option Shape → Bool
opens_table (Some (Begin kind)) = kind_same kind Table
opens_table _ = false

at_shape : (xs : List PlainItem) (k : ℕ) → passes (is_opening_of Table) (slice_get xs k) ≡ opens_table (slice_get (map shape_of xs) k)
at_shape [] k = refl
at_shape (Char c marks ∷ xs) zero = refl
at_shape (Opening kind head marks pre origin generated ∷ xs) zero = refl
at_shape (Closing kind pre ∷ xs) zero = refl
at_shape (x ∷ xs) (suc k) = at_shape xs k

-- the cells that grow, as rectangles
grown_cells : (row column : ℕ) (cells : List GridCell) →
    list_any (λ (c : GridCell). spans_row row c && covers_column c column) cells ≡ grown row (map rectangle_of cells) column
grown_cells row column [] = refl
grown_cells row column (c ∷ cells) = ap (λ b. (spans_row row c && covers_column c column) || b) (grown_cells row column cells)

module _ (items : List PlainItem) (at row : ℕ) (g : Grid) (lawful : Lawful items) (s : Standing items at g) (some : 0 < length (table_rows items at)) (fit : row ≤ length (table_rows items at))
    (room : (c : GridCell) → Among c g.cells → spans_row row c ≡ true → suc c.rows ≤ max_row_span)
    (placed : (k : ℕ) (r : TableRow) → slice_get (table_rows items at) k ≡ Some r → AllPlaced items g.cells k (row_cells items r.at)) where
  abbrev rows : List TableRow
  rows = table_rows items at

  abbrev p : ℕ
  p = row_place items rows row

  abbrev test : ℕ → Bool
  test column = list_any (λ (c : GridCell). spans_row row c && covers_column c column) g.cells

  abbrev columns : List ℕ
  columns = range_with_len 0 g.columns

  abbrev R : List PlainItem
  R = row_of test columns

  abbrev n : ℕ
  n = length R

  abbrev changed : List GridCell
  changed = filter (spans_row row) g.cells

  abbrev more : GridCell → Option (List ℕ)
  more c = Some (decimal (suc c.rows))

  abbrev set_list : List PlainItem
  set_list = substituted_from 0 items (sets (codes "rowspan") more changed)

  abbrev pub with_row : List PlainItem
  with_row = take p set_list ++ (R ++ drop p items)

  abbrev nw : Open → Open
  nw o = node_with p n o

  pub made : substituted_from 0 items (row_in_edits items rows row g) ≡ with_row
  made =
      let z : p - 0 ≡ p = omega arith in
      put_in (codes "rowspan") more changed 0 (length items) p R items (row_in_order items at row g s) (omega arith)
      ∙ ap (λ m. take m set_list ++ (R ++ drop m items)) z

  abbrev kinds : List Kind
  kinds = Thead ∷ Tbody ∷ Tfoot ∷ []

  abbrev sections : List Open
  sections = children_of kinds items at

  stand : Chain from_of items kinds (suc at) (partner items at) sections
  stand = children_of_stand items kinds Table at lawful s.table

  own : Parent items lawful p row sections
  own = parent items lawful kinds p sections row (suc at) (partner items at) stand fit some refl

  own_chain : Chain from_of items kinds (suc at) own.it.from own.earlier × ((kind : Kind) × (Rattle.ve_kinds.specs.Table.is_among kinds kind ≡ true) × Opens items kind own.it.from)
      × Chain from_of items kinds (end_of_node items own.it.from) (partner items at) own.later
  own_chain = chain_at from_of items kinds (suc at) (partner items at) own.earlier own.it own.later (subst (Chain from_of items kinds (suc at) (partner items at)) own.whole stand)

  -- the table goes on round the position
  round : (at < p) × (Rattle.model_table_law.proofs.RowInNodesLemmas.depth_after 0 (before items lawful p at) ≡ Some 1)
  round = gap_round items lawful p kinds at own.earlier own.it own.later own.whole (own.gap).near (own.gap).level

  inner : p ≤ length items
  inner = let w = own.within in let o = (own_chain.1.2).within in omega arith

  abbrev S : List Shape
  S = map shape_of items

  abbrev T : List Shape
  T = map shape_of R

  set_shapes : map shape_of set_list ≡ S
  set_shapes = shapes_sets (codes "rowspan") more changed 0 items

  set_length : length set_list ≡ length items
  set_length = sym (length_map shape_of set_list) ∙ ap length set_shapes ∙ length_map shape_of items

  shapes_with : map shape_of with_row ≡ take p S ++ (T ++ drop p S)
  shapes_with =
      map-append shape_of (take p set_list) (R ++ drop p items)
      ∙ (λ i. (shapes_take p set_list ∙ ap (take p) set_shapes) i ++ (map-append shape_of R (drop p items) ∙ ap (λ v. T ++ v) (drop_shapes p items)) i)

  size : length T ≡ n
  size = length_map shape_of R

  fits : p ≤ length S
  fits = let l = length_map shape_of items in let i = inner in omega arith

  kids_shapes : (a : ℕ) → children with_row a ≡ kids_in (take p S ++ (T ++ drop p S)) a
  kids_shapes a = children-shapes with_row a ∙ ap (λ v. kids_in v a) shapes_with

  kids_before : (among : List Kind) (kind : Kind) (a : ℕ) → Opens items kind a → end_of_node items a ≤ p →
      children_of among with_row (place_with p n a) ≡ map nw (children_of among items a)
  kids_before among kind a o e =
      let ahead = o.ahead in
      let l : a < p = omega arith in
      ap (children_of among with_row) (place_near p n a l)
      ∙ ap (of_kinds among) (kids_shapes a ∙ kids_ended S T p n Tr (row_is_one test columns) size fits a l (node_ended items lawful p kind a o e) ∙ ap (map nw) (sym (children-shapes items a)))
      ∙ of_kinds-with p n among (children items a)

  kids_after : (among : List Kind) (a : ℕ) → p ≤ a → children_of among with_row (place_with p n a) ≡ map nw (children_of among items a)
  kids_after among a l =
      ap (children_of among with_row) (place_far p n a l)
      ∙ ap (of_kinds among) (kids_shapes (a + n) ∙ kids_far S T p n Tr (row_is_one test columns) size fits a l ∙ ap (map nw) (sym (children-shapes items a)))
      ∙ of_kinds-with p n among (children items a)

  new_sections : children_of kinds with_row at ≡ map nw sections
  new_sections =
      ap (of_kinds kinds) (kids_shapes at ∙ kids_deep S T p n Tr (row_is_one test columns) size fits at 0 round.0 round.1 ∙ ap (map nw) (sym (children-shapes items at)))
      ∙ of_kinds-with p n kinds (children items at)

  append_same : (xs ys zs : List Open) → xs ++ ys ≡ xs ++ zs → ys ≡ zs
  append_same [] ys zs e = e
  append_same (x ∷ xs) ys zs e = append_same xs ys zs cc

  -- in its section the row stands after those before it
  new_rows : children_of (Tr ∷ []) with_row (place_with p n own.it.from) ≡ map nw own.xs ++ record { kind = Tr; from = p } ∷ map nw own.ys
  new_rows =
      let a = own.it.from in
      let gap = own.gap in
      let k = kids_gap S T p n Tr (row_is_one test columns) size fits a gap.near gap.level in
      let A = nodes_before a in
      let B = nodes_past in
      let old : of_kinds (Tr ∷ []) A ++ of_kinds (Tr ∷ []) B ≡ own.xs ++ own.ys =
      sym (of_kinds-append (Tr ∷ []) A B) ∙ ap (of_kinds (Tr ∷ [])) (sym k.0 ∙ sym (children-shapes items a)) ∙ own.nodes in
      let later : of_kinds (Tr ∷ []) B ≡ own.ys = append_same own.xs _ _ (ap (λ v. v ++ of_kinds (Tr ∷ []) B) (sym gap.first) ∙ old) in
      ap (children_of (Tr ∷ []) with_row) (place_near p n a gap.near)
      ∙ ap (of_kinds (Tr ∷ [])) (kids_shapes a ∙ k.1)
      ∙ of_kinds-append (Tr ∷ []) (map nw A) (record { kind = Tr; from = p } ∷ map nw B)
      ∙ (λ i. (of_kinds-with p n (Tr ∷ []) A ∙ ap (map nw) gap.first) i ++ record { kind = Tr; from = p } ∷ (of_kinds-with p n (Tr ∷ []) B ∙ ap (map nw) later) i)
    where
      nodes_before : ℕ → List Open
      nodes_before a = Rattle.model_edit_law.proofs.SiblingLemmas.nodes_in 0 (suc a) (before items lawful p a)

      nodes_past : List Open
      nodes_past = Rattle.model_edit_law.proofs.SiblingLemmas.nodes_in 0 p (drop p S)

  get_before : (q : ℕ) → q < p → slice_get with_row q ≡ slice_get set_list q
  get_before q l = get-take-append p set_list (R ++ drop p items) q l (let a = set_length in let b = inner in omega arith)

  cut : length (take p set_list) ≡ p
  cut = length-take-le p set_list (let a = set_length in let b = inner in omega arith)

  get_after : (q : ℕ) → p ≤ q → slice_get with_row (q + n) ≡ slice_get items q
  get_after q l =
      let c = cut in
      let j = q - p in
      let z : q + n ≡ length (take p set_list) + (n + j) = omega arith in
      let y : p + j ≡ q = omega arith in
      ap (slice_get with_row) z ∙ get_past (take p set_list) (R ++ drop p items) (n + j) ∙ get_past R (drop p items) j ∙ get_drop p j items ∙ ap (slice_get items) y

  -- a cell above the row
  cell_above : (k : ℕ) (c : Open) → k < row → c.from < p → Placed items g.cells k c →
      cell_span_at with_row (node_with p n c) ≡ span_with row k (cell_span_at items c)
  cell_above k c less l it =
      let cell = it.cell in
      let chain = (s.cells).chain in
      let o = among_opens items g.cells (suc at) (partner items at) cell chain it.among in
      let x = Opening o.0 (o.1).head (o.1).marks (o.1).pre (o.1).origin (o.1).generated in
      let there : slice_get items c.from ≡ Some x = ap (slice_get items) (sym it.its_place) ∙ (o.1).here in
      let set_chain = Chain-filter cell_at items cell_kinds (spans_row row) (suc at) (partner items at) g.cells chain in
      let z : 0 + c.from ≡ cell.at = (let w = it.its_place in omega arith) in
      let found : slice_get with_row c.from ≡ (if spans_row row cell then set_in (codes "rowspan") (more cell) (Some x) else Some x) =
      get_before c.from l
      ∙ get_sets (codes "rowspan") more items changed 0 (suc at) (partner items at) items c.from set_chain (omega arith) (let b = (s.table).within in omega arith)
      ∙ (λ i. set_at (codes "rowspan") more (z i) changed (there i))
      ∙ set_among (codes "rowspan") more items (spans_row row) g.cells (suc at) (partner items at) cell (Some x) chain it.among in
      let up : k ≡ cell.row = sym it.its_row in
      let test' : spans_row row cell ≡ nat_lt row (k + cell.rows) =
      (λ i. nat_lt (it.its_row i) row && (nat_le (it.its_row i) row && nat_lt row (it.its_row i + cell.rows)))
      ∙ ap (λ b. b && (nat_le k row && nat_lt row (k + cell.rows))) (lt-ltb k row less)
      ∙ ap (λ b. b && nat_lt row (k + cell.rows)) (le-leb k row (omega arith)) in
      let tall : cell.rows ≡ (span_read (Some x)).rows = it.its_rows ∙ ap (λ v. (span_read v).rows) there in
      ap (λ m. span_read (slice_get with_row m)) (place_near p n c.from l)
      ∙ ap span_read (found ∙ ap (λ b. if b then set_in (codes "rowspan") (more cell) (Some x) else Some x) test')
      ∙ span_more o.0 (o.1).head (o.1).marks (o.1).pre (o.1).origin (o.1).generated cell.rows k row tall (λ t. room cell it.among (test' ∙ t))
      ∙ ap (λ v. span_with row k (span_read v)) (sym there)

  cells_above : (k : ℕ) (cells : List Open) (low high : ℕ) → k < row → high ≤ p → Chain from_of items cell_kinds low high cells →
      AllPlaced items g.cells k cells →
      map (cell_span_at with_row) (map nw cells) ≡ map (span_with row k) (map (cell_span_at items) cells)
  cells_above k [] low high less l c it = refl
  cells_above k (o ∷ cells) low high less l c it =
      let a = (c.1.2).ahead in
      let b = Chain-ends from_of items cell_kinds (end_of_node items o.from) high cells c.2 in
      (λ i. cell_above k o less (omega arith) it.0 i ∷ cells_above k cells (end_of_node items o.from) high less l c.2 it.1 i)

  cells_below : (cells : List Open) (low high : ℕ) → p ≤ low → Chain from_of items cell_kinds low high cells →
      map (cell_span_at with_row) (map nw cells) ≡ map (cell_span_at items) cells
  cells_below [] low high l c = refl
  cells_below (o ∷ cells) low high l c =
      let a = (c.1.2).ahead in
      let b = c.0 in
      let far : p ≤ o.from = omega arith in
      (λ i. span_read ((ap (slice_get with_row) (place_far p n o.from far) ∙ get_after o.from far) i) ∷ cells_below cells (end_of_node items o.from) high (omega arith) c.2 i)

  row_kept : (k : ℕ) (r : TableRow) → slice_get rows k ≡ Some r → Kept items with_row p n row k r
  row_kept k r e =
      let o = row_opens items (suc at) (partner items at) rows k r s.rows e in
      let chain = children_of_stand items cell_kinds o.0 r.at lawful o.2 in
      record {
        above = λ l.
            let w : end_of_node items r.at ≤ p = place_after items (Tr ∷ []) (suc at) (partner items at) rows k row r s.rows e l in
            ap (map (cell_span_at with_row)) (kids_before cell_kinds o.0 r.at o.2 w)
            ∙ cells_above k (row_cells items r.at) (suc r.at) (partner items r.at) l (omega arith) chain (placed k r e);
        below = λ l.
            let w : p ≤ r.at = place_before items (Tr ∷ []) (suc at) (partner items at) rows k row r s.rows e l in
            ap (map (cell_span_at with_row)) (kids_after cell_kinds r.at w) ∙ cells_below (row_cells items r.at) (suc r.at) (partner items r.at) (omega arith) chain;
      }

  abbrev pub spans : List CellSpan
  spans = map (λ c. single) (not_at (grown row (map rectangle_of g.cells)) 0 g.columns)

  new_spans : map (cell_span_at with_row) (row_cells with_row p) ≡ spans
  new_spans =
      let c = cut in
      let z : suc p ≡ length (take p set_list) + 1 = omega arith in
      let rest : drop (suc p) with_row ≡ new_cells test columns ++ closing_of Tr ∷ drop p items =
      ap (λ m. drop m with_row) z ∙ drop-append-add (take p set_list) (R ++ drop p items) 1 ∙ append_assoc (new_cells test columns) (closing_of Tr ∷ []) (drop p items) in
      ap (λ v. map (cell_span_at with_row) (of_kinds cell_kinds (siblings 0 (suc p) v))) rest
      ∙ cells_read test columns (suc p) (drop p items) with_row rest
      ∙ (λ i. map (λ c. single) (filter (λ column. not (grown_cells row column g.cells i)) columns))

  pub lines_with : LinesIn row spans (table_lines items at) (table_lines with_row at)
  lines_with =
      let kept : AllKept items with_row p n row 0 rows = all_kept items with_row p n row rows 0 (λ k r e. let z : k ≡ 0 + k = omega arith in subst (λ m. Kept items with_row p n row m r) z (row_kept k r e)) in
      let w = own.whole in
      let split = lines_in items with_row p n row kinds (kids_before (Tr ∷ [])) (kids_after (Tr ∷ [])) spans own.earlier own.it own.later own.xs own.ys (suc at) (partner items at) own.nodes new_rows new_spans own.count
      (own.gap).near own.within (subst (Chain from_of items kinds (suc at) (partner items at)) w stand) (subst (λ v. AllKept items with_row p n row 0 (flat_map (rows_in items) v)) w kept) in
      subst (λ v. LinesIn row spans (table_lines items at) (map (line_at with_row) (flat_map (rows_in with_row) v))) (sym new_sections)
      (subst (λ v. LinesIn row spans (map (line_at items) (flat_map (rows_in items) v)) (map (line_at with_row) (flat_map (rows_in with_row) (map nw v)))) (sym w) split)

  -- the table still opens at its position
  pub opens_still : passes (is_opening_of Table) (slice_get with_row at) ≡ true
  opens_still =
      let o = s.table in
      ap (passes (is_opening_of Table)) (get_before at round.0)
      ∙ at_shape set_list at
      ∙ ap (λ v. opens_table (slice_get v at)) set_shapes
      ∙ sym (at_shape items at)
      ∙ ap (passes (is_opening_of Table)) o.here
