-- The list of a table without a column: each row keeps what is left of its cells.
use Rattle.std.specs.Prelude.{slice_get, filter, filter_map, flat_map, codes, decimal}
use Rattle.std.specs.List.{cons_option}
use Rattle.std.proofs.Common.{◌≡◌, ◌⊎◌, inl, inr, ℕ, zero, suc, ◌+◌, ◌-◌, ◌<◌, ◌≤◌, ◌==◌, Bool, true, false, cond, not, if◌then◌else◌, nat_le, nat_lt, List, [], ◌∷◌, ◌++◌, length, map, drop, Option, Some, None, refl, sym, ap, ◌∙◌, subst, arith}
use Rattle.std.proofs.lemmas.Bool.{and_parts, leb-true, ltb-true, eqb-false}
use Rattle.ve_kinds.specs.declared.kind.Kind.{Kind}
use Rattle.ve_kinds.specs.declared.kind.Kind.TheVariants.{Table, Thead, Tbody, Tfoot, Tr}
use Rattle.ve_kinds.specs.Table.{is_among}
use Rattle.model_items.specs.declared.plain_item.PlainItem.{PlainItem}
use Rattle.model_items.specs.declared.plain_item.PlainItem.TheVariants.{Opening}
use Rattle.model_items.specs.Law.{Lawful}
use Rattle.model_items.specs.Tree.{Open}
use Rattle.model_edit.specs.Brackets.{is_opening_of}
use Rattle.model_items.specs.Offsets.{partner, end_of_node, siblings, children, passes}
use Rattle.model_edit.specs.Edits.{substituted_from}
use Rattle.model_edit.specs.declared.grid_cell.GridCell.{GridCell}
use Rattle.ve_base.specs.Limits.{max_column_span}
use Rattle.model_edit.specs.Grid.{TableRow, Grid, children_of, section_rows, table_rows, row_cells, covers_column}
use Rattle.model_edit.specs.Layout.{Rectangle, without_column}
use Rattle.model_edit_law.specs.Spans.{Line, rectangle_of, size_of, of_row, lines_left, cell_span_at, line_at, table_lines}
use Rattle.model_edit_law.proofs.TablePlaceLemmas.{Chain, Chain-ends, Chain-filter, from_of, cell_kinds, cell_at, children_of_stand, Standing}
use Rattle.model_edit_law.proofs.TableFineLemmas.{row_within, row_ahead}
use Rattle.model_edit_law.proofs.TableSetLemmas.{map-append, length_map, Among, set_in, set_at, set_before, set_among, among_after}
use Rattle.model_edit_law.proofs.TableCellLemmas.{span_read, columns_written, columns_most}
use Rattle.model_edit_law.proofs.RowOutLemmas.{among_opens}
use Rattle.model_edit_law.proofs.SiblingLemmas.{no_less}
use Rattle.model_edit_law.proofs.CellsOutLemmas.{edits_of, fate, node_to, node_fate, Tail, Clear, children_fate, fate_before}
use Rattle.model_edit_law.proofs.CellsReadLemmas.{is_wide, one_narrower, filter_filter, fate_clear, fate_cell, get_fate}
use Rattle.model_edit_law.proofs.CellRowLemmas.{Pairs, cells_in, of_row-cells, Among-filter, homes_among, row_clear, AmongNodes, section_clear}

filter_fate : (f : ℕ → Option ℕ) (kinds : List Kind) (nodes : List Open) →
    filter (λ (o : Open). is_among kinds o.kind) (filter_map (λ (o : Open). node_to o.kind (f o.from)) nodes) ≡ filter_map (λ (o : Open). node_to o.kind (f o.from)) (filter (λ (o : Open). is_among kinds o.kind) nodes)
filter_fate f kinds [] = refl
filter_fate f kinds (o ∷ nodes) =
    by (f o.from) (is_among kinds o.kind) refl (filter_fate f kinds nodes) ∙ sym (whole (is_among kinds o.kind))
  where
    kept : List Open
    kept = filter (λ (x : Open). is_among kinds x.kind) nodes

    whole : (b : Bool) → filter_map (λ (x : Open). node_to x.kind (f x.from)) (cond b (o ∷ filter (λ (x : Open). is_among kinds x.kind) nodes) (filter (λ (x : Open). is_among kinds x.kind) nodes))
        ≡ cond b (cons_option (node_to o.kind (f o.from)) (filter_map (λ (x : Open). node_to x.kind (f x.from)) kept)) (filter_map (λ (x : Open). node_to x.kind (f x.from)) kept)
    whole true = refl
    whole false = refl

    by : (r : Option ℕ) (b : Bool) → is_among kinds o.kind ≡ b → filter (λ (x : Open). is_among kinds x.kind) (filter_map (λ (x : Open). node_to x.kind (f x.from)) nodes) ≡ filter_map (λ (x : Open). node_to x.kind (f x.from)) kept →
        filter (λ (x : Open). is_among kinds x.kind) (cons_option (node_to o.kind r) (filter_map (λ (x : Open). node_to x.kind (f x.from)) nodes))
        ≡ cond b (cons_option (node_to o.kind r) (filter_map (λ (x : Open). node_to x.kind (f x.from)) kept)) (filter_map (λ (x : Open). node_to x.kind (f x.from)) kept)
    by None true t rest = rest
    by None false t rest = rest
    by (Some k) b t rest =
        let F = filter (λ (x : Open). is_among kinds x.kind) (filter_map (λ (x : Open). node_to x.kind (f x.from)) nodes) in
        ap (λ c. cond c (record { kind = o.kind; from = k } ∷ F) F) t ∙ ap (λ v. cond b (record { kind = o.kind; from = k } ∷ v) v) rest

-- what a column that goes leaves of a rectangle
left_none : (column : ℕ) (c : GridCell) → covers_column c column ≡ true → (c.columns == 1) ≡ true → without_column column (rectangle_of c) ≡ None
left_none column c cover one =
    let p = and_parts (nat_le c.column column) _ cover in
    let l = leb-true c.column column p.0 in
    let far : nat_lt column c.column ≡ false = no_less column c.column l in
    (λ i. if far i then Some (record (rectangle_of c) { column = c.column - 1 }) else (if cover i then (if one i then None else Some (record (rectangle_of c) { columns = c.columns - 1 })) else Some (rectangle_of c)))

left_narrow : (column : ℕ) (c : GridCell) → covers_column c column ≡ true → (c.columns == 1) ≡ false → without_column column (rectangle_of c) ≡ Some (record (rectangle_of c) { columns = c.columns - 1 })
left_narrow column c cover one =
    let p = and_parts (nat_le c.column column) _ cover in
    let l = leb-true c.column column p.0 in
    let far : nat_lt column c.column ≡ false = no_less column c.column l in
    (λ i. if far i then Some (record (rectangle_of c) { column = c.column - 1 }) else (if cover i then (if one i then None else Some (record (rectangle_of c) { columns = c.columns - 1 })) else Some (rectangle_of c)))

left_whole : (column : ℕ) (c : GridCell) → covers_column c column ≡ false → (r : Rectangle) × (without_column column (rectangle_of c) ≡ Some r) × (size_of r ≡ size_of (rectangle_of c))
left_whole column c cover = by (nat_lt column c.column) refl
  where
    by : (b : Bool) → nat_lt column c.column ≡ b → (r : Rectangle) × (without_column column (rectangle_of c) ≡ Some r) × (size_of r ≡ size_of (rectangle_of c))
    by true e = (
      record (rectangle_of c) { column = c.column - 1 },
      ap (λ b. if b then Some (record (rectangle_of c) { column = c.column - 1 }) else (if covers_column c column then (if c.columns == 1 then None else Some (record (rectangle_of c) { columns = c.columns - 1 })) else Some (rectangle_of c))) e,
      refl,
    )
    by false e = (
      rectangle_of c,
      (λ i. if e i then Some (record (rectangle_of c) { column = c.column - 1 }) else (if cover i then (if c.columns == 1 then None else Some (record (rectangle_of c) { columns = c.columns - 1 })) else Some (rectangle_of c))),
      refl,
    )

section_length : (nodes : List Open) → length (section_rows nodes) ≡ length nodes
section_length [] = refl
section_length (o ∷ nodes) = ap suc (section_length nodes)

lines_left-append : (column : ℕ) (all : List Rectangle) (i next : ℕ) (xs ys : List Line) → next ≡ i + length xs → lines_left column all i (xs ++ ys) ≡ lines_left column all i xs ++ lines_left column all next ys
lines_left-append column all i next [] ys e = let z : i ≡ next = omega arith in ap (λ k. lines_left column all k ys) z
lines_left-append column all i next (line ∷ xs) ys e =
    ap (λ v. record { left = line.left; spans = map size_of (filter_map (without_column column) (of_row all i)) } ∷ v) (lines_left-append column all (suc i) next xs ys (omega arith))

module _ (items : List PlainItem) (at column : ℕ) (g : Grid) (lawful : Lawful items) (s : Standing items at g)
    (pairs : (k : ℕ) (r : TableRow) → slice_get (table_rows items at) k ≡ Some r → Pairs items (cells_in k g.cells) (row_cells items r.at)) where
  abbrev covers : GridCell → Bool
  covers c = covers_column c column

  abbrev covering : List GridCell
  covering = filter covers g.cells

  abbrev pub without : List PlainItem
  without = substituted_from 0 items (edits_of items covering)

  abbrev rectangles : List Rectangle
  rectangles = map rectangle_of g.cells

  abbrev stays : ℕ → Option ℕ
  stays a = fate items 0 covering a

  abbrev left : List Open → List Open
  left nodes = filter_map (node_fate items 0 covering) nodes

  chain : Chain cell_at items cell_kinds (suc at) (partner items at) covering
  chain = Chain-filter cell_at items cell_kinds covers (suc at) (partner items at) g.cells (s.cells).chain

  tail : Tail items (suc at) 0 items
  tail k l = let z : k ≡ 0 + k = omega arith in ap (λ n. drop n items) z

  fit : partner items at ≤ 0 + length items
  fit = let w = (s.table).within in omega arith

  clear_all : (a : ℕ) (cells : List GridCell) → ((c : GridCell) → Among c cells → (a < c.at) ⊎ (end_of_node items c.at ≤ a)) → Clear items lawful a cells
  clear_all a [] h = tt
  clear_all a (c ∷ cells) h = (h c (inl refl), clear_all a cells (λ c' m. h c' (inr m)))

  kids : (kinds : List Kind) (a b : ℕ) → a < length items → Clear items lawful a covering → stays a ≡ Some b → children_of kinds without b ≡ left (children_of kinds items a)
  kids kinds a b room clear e =
      let y : suc b - 0 ≡ suc b = omega arith in
      let z : suc a - 0 ≡ suc a = omega arith in
      let all : children without b ≡ left (children items a) =
      ap (λ k. siblings 0 (suc b) (drop k without)) (sym y)
      ∙ children_fate items lawful covering (suc at) (partner items at) 0 0 0 items a b chain (omega arith) (omega arith) fit tail (omega arith) (omega arith) clear e
      ∙ ap (λ k. left (siblings 0 (suc a) (drop k items))) z in
      ap (filter (λ (o : Open). is_among kinds o.kind)) all ∙ filter_fate stays kinds (children items a)

  -- what stands at a cell's position afterwards
  read : (c : GridCell) (b : ℕ) (o : Option PlainItem) → Among c g.cells → slice_get items c.at ≡ o → c.at < length items → stays c.at ≡ Some b →
      slice_get without b ≡ (if (if covers c then is_wide c else false) then set_in (codes "colspan") (one_narrower c) o else o)
  read c b o m here room e =
      let y : b - 0 ≡ b = omega arith in
      let z : c.at - 0 ≡ c.at = omega arith in
      ap (slice_get without) (sym y)
      ∙ get_fate items covering (suc at) (partner items at) 0 0 0 items c.at b lawful chain (omega arith) (omega arith) fit tail (omega arith) (omega arith) e
      ∙ (λ i. set_at (codes "colspan") one_narrower c.at (filter_filter is_wide covers g.cells i) (slice_get items (z i)))
      ∙ ap (set_at (codes "colspan") one_narrower c.at (filter (λ c. if covers c then is_wide c else false) g.cells)) here
      ∙ set_among (codes "colspan") one_narrower items (λ c. if covers c then is_wide c else false) g.cells (suc at) (partner items at) c o (s.cells).chain m

  -- a cell's node goes, or has the spans that are left
  abbrev Left : GridCell → Open → Type 0
  Left c n =
      ((without_column column (rectangle_of c) ≡ None) × (stays n.from ≡ None))
      ⊎ ((r : Rectangle) × (b : ℕ) × (without_column column (rectangle_of c) ≡ Some r) × (stays n.from ≡ Some b) × (cell_span_at without (record { kind = n.kind; from = b }) ≡ size_of r))

  cell_left : (c : GridCell) (n : Open) → Among c g.cells → c.at ≡ n.from → c.rows ≡ (cell_span_at items n).rows → c.columns ≡ (cell_span_at items n).columns → Left c n
  cell_left c n m place rows columns =
      let o = among_opens items g.cells (suc at) (partner items at) c (s.cells).chain m in
      let x = Opening o.0 (o.1).head (o.1).marks (o.1).pre (o.1).origin (o.1).generated in
      let w = (o.1).within in
      let room : c.at < length items = (let v = (o.1).ahead in omega arith) in
      let f = fate_cell items covers g.cells (suc at) (partner items at) c (s.cells).chain m 0 in
      let there : slice_get items n.from ≡ Some x = ap (slice_get items) (sym place) ∙ (o.1).here in
      let its_rows : c.rows ≡ (span_read (Some x)).rows = rows ∙ ap (λ v. (span_read v).rows) there in
      let its_columns : c.columns ≡ (span_read (Some x)).columns = columns ∙ ap (λ v. (span_read v).columns) there in
      let whole : span_read (Some x) ≡ size_of (rectangle_of c) = (λ i. record { rows = sym its_rows i; columns = sym its_columns i }) in
      let most : c.columns ≤ max_column_span =
      subst (λ k. k ≤ max_column_span) (sym its_columns) (columns_most o.0 (o.1).head (o.1).marks (o.1).pre (o.1).origin (o.1).generated) in
      let read_here : (b : ℕ) → stays c.at ≡ Some b → slice_get without b ≡ (if (if covers c then is_wide c else false) then set_in (codes "colspan") (one_narrower c) (Some x) else Some x) =
      (λ b e. read c b (Some x) m (o.1).here room e) in
      let written : (k : ℕ) → 1 ≤ k → k ≤ max_column_span → span_read (set_in (codes "colspan") (Some (decimal k)) (Some x)) ≡ record (span_read (Some x)) { columns = k } =
      columns_written o.0 (o.1).head (o.1).marks (o.1).pre (o.1).origin (o.1).generated in
      by (Some x) (covers c) (c.columns == 1) refl refl f.0 f.1 whole its_rows most read_here written
    where
      by : (x : Option PlainItem) (u v : Bool) → covers c ≡ u → (c.columns == 1) ≡ v →
          (covers c ≡ true → (c.columns == 1) ≡ true → stays c.at ≡ None) → ((covers c ≡ false) ⊎ ((c.columns == 1) ≡ false) → (b : ℕ) × (stays c.at ≡ Some b)) →
          span_read x ≡ size_of (rectangle_of c) → c.rows ≡ (span_read x).rows → c.columns ≤ max_column_span →
          ((b : ℕ) → stays c.at ≡ Some b → slice_get without b ≡ (if (if covers c then is_wide c else false) then set_in (codes "colspan") (one_narrower c) x else x)) →
          ((k : ℕ) → 1 ≤ k → k ≤ max_column_span → span_read (set_in (codes "colspan") (Some (decimal k)) x) ≡ record (span_read x) { columns = k }) → Left c n
      by x true true e f gone some whole its_rows most read_here written = inl (left_none column c e f, ap stays (sym place) ∙ gone e f)
      by x true false e f gone some whole its_rows most read_here written =
          let b = some (inr f) in
          let p = and_parts (nat_le c.column column) _ e in
          let l = leb-true c.column column p.0 in
          let h = ltb-true column (c.column + c.columns) p.1 in
          let two = wide c.columns (eqb-false c.columns 1 f) (omega arith) in
          inr (
            record (rectangle_of c) { columns = c.columns - 1 },
            b.0,
            left_narrow column c e f,
            ap stays (sym place) ∙ b.1,
            ap span_read (read_here b.0 b.1 ∙ (λ i. if (if e i then not (f i) else false) then set_in (codes "colspan") (one_narrower c) x else x))
                ∙ written (c.columns - 1) (omega arith) (omega arith) ∙ (λ i. record { rows = sym its_rows i; columns = c.columns - 1 }),
          )
        where
          wide : (h : ℕ) → (h ≡ 1 → ⊥) → 1 ≤ h → 2 ≤ h
          wide zero a b = omega arith
          wide (suc zero) a b = absurd (a refl)
          wide (suc (suc h)) a b = omega arith
      by x false v e f gone some whole its_rows most read_here written =
          let b = some (inl e) in
          let r = left_whole column c e in
          inr (
            r.0,
            b.0,
            r.1,
            ap stays (sym place) ∙ b.1,
            ap span_read (read_here b.0 b.1 ∙ ap (λ t. if (if t then is_wide c else false) then set_in (codes "colspan") (one_narrower c) x else x) e) ∙ whole ∙ sym r.2,
          )

  cells_left : (cells : List GridCell) (nodes : List Open) → Pairs items cells nodes → ((c : GridCell) → Among c cells → Among c g.cells) →
      map (cell_span_at without) (left nodes) ≡ map size_of (filter_map (without_column column) (map rectangle_of cells))
  cells_left [] [] p h = refl
  cells_left [] (n ∷ nodes) p h = absurd p
  cells_left (c ∷ cells) [] p h = absurd p
  cells_left (c ∷ cells) (n ∷ nodes) p h = by (cell_left c n (h c (inl refl)) p.0 p.1 p.2) (cells_left cells nodes p.3 (λ c' m. h c' (inr m)))
    where
      by : Left c n → map (cell_span_at without) (left nodes) ≡ map size_of (filter_map (without_column column) (map rectangle_of cells)) →
          map (cell_span_at without) (cons_option (node_fate items 0 covering n) (left nodes)) ≡ map size_of (cons_option (without_column column (rectangle_of c)) (filter_map (without_column column) (map rectangle_of cells)))
      by (inl f) rest =
          ap (λ o. map (cell_span_at without) (cons_option (node_to n.kind o) (left nodes))) f.1 ∙ rest
          ∙ ap (λ o. map size_of (cons_option o (filter_map (without_column column) (map rectangle_of cells)))) (sym f.0)
      by (inr f) rest =
          ap (λ o. map (cell_span_at without) (cons_option (node_to n.kind o) (left nodes))) f.3
          ∙ (λ i. f.4 i ∷ rest i)
          ∙ ap (λ o. map size_of (cons_option o (filter_map (without_column column) (map rectangle_of cells)))) (sym f.2)

  -- a row that stays has what is left of its cells
  record Stays (i : ℕ) (r : TableRow) : Type 0 where
    pub to : ℕ
    pub there : stays r.at ≡ Some to
    pub spans : map (cell_span_at without) (row_cells without to) ≡ map size_of (filter_map (without_column column) (of_row rectangles i))

  abbrev AllStay : ℕ → List TableRow → Type 0
  AllStay i [] = Unit {0}
  AllStay i (r ∷ rows) = Stays i r × AllStay (suc i) rows

  stay_parts : (i next : ℕ) (xs ys : List TableRow) → next ≡ i + length xs → AllStay i (xs ++ ys) → AllStay i xs × AllStay next ys
  stay_parts i next [] ys e h = (tt, (let z : i ≡ next = omega arith in subst (λ k. AllStay k ys) z h))
  stay_parts i next (x ∷ xs) ys e h = let r = stay_parts (suc i) next xs ys (omega arith) h.1 in ((h.0, r.0), r.1)

  all_stay : (rows : List TableRow) (i : ℕ) → ((k : ℕ) (r : TableRow) → slice_get rows k ≡ Some r → Stays (i + k) r) → AllStay i rows
  all_stay [] i h = tt
  all_stay (r ∷ rows) i h =
      let z : i + 0 ≡ i = omega arith in
      (subst (λ m. Stays m r) z (h 0 r refl), all_stay rows (suc i) (λ k r' e. let y : i + suc k ≡ suc i + k = omega arith in subst (λ m. Stays m r') y (h (suc k) r' e)))

  row_stays : (k : ℕ) (r : TableRow) → slice_get (table_rows items at) k ≡ Some r → Stays k r
  row_stays k r e =
      let rows = table_rows items at in
      let clear = clear_all r.at covering (λ c m. row_clear items (suc at) (partner items at) rows k r c s.rows e (homes_among items rows g.cells c (s.cells).homes (Among-filter covers c g.cells m))) in
      let f = fate_clear items covering (suc at) (partner items at) 0 r.at lawful chain clear in
      let w = row_within items (Tr ∷ []) (suc at) (partner items at) rows k r s.rows e in
      let v = row_ahead items (Tr ∷ []) (suc at) (partner items at) rows k r s.rows e in
      let u = (s.table).within in
      let w1 = w.1 in
      record {
        to = f.0;
        there = f.1;
        spans = ap (map (cell_span_at without)) (kids cell_kinds r.at f.0 (omega arith) clear f.1)
            ∙ cells_left (cells_in k g.cells) (row_cells items r.at) (pairs k r e) (λ c m. Among-filter (λ (d : GridCell). d.row == k) c g.cells m)
            ∙ ap (λ v. map size_of (filter_map (without_column column) v)) (sym (of_row-cells k g.cells));
      }

  rows_length : (nodes : List Open) (i : ℕ) → AllStay i (section_rows nodes) → length (left nodes) ≡ length nodes
  rows_length [] i h = refl
  rows_length (o ∷ nodes) i h = ap (λ r. length (cons_option (node_to o.kind r) (left nodes))) (h.0).there ∙ ap suc (rows_length nodes (suc i) h.1)

  rows_left : (nodes : List Open) (i : ℕ) → AllStay i (section_rows nodes) → map (line_at without) (section_rows (left nodes)) ≡ lines_left column rectangles i (map (line_at items) (section_rows nodes))
  rows_left [] i h = refl
  rows_left (o ∷ nodes) i h =
      ap (λ r. map (line_at without) (section_rows (cons_option (node_to o.kind r) (left nodes)))) (h.0).there
      ∙ (λ j. record { left = suc (rows_length nodes (suc i) h.1 j); spans = (h.0).spans j } ∷ rows_left nodes (suc i) h.1 j)

  abbrev rows_in : List PlainItem → Open → List TableRow
  rows_in list section = section_rows (children_of (Tr ∷ []) list section.from)

  sections_left : (sections : List Open) (i : ℕ) → ((o : Open) → AmongNodes o sections → (b : ℕ) × (stays o.from ≡ Some b) × (children_of (Tr ∷ []) without b ≡ left (children_of (Tr ∷ []) items o.from))) →
      AllStay i (flat_map (rows_in items) sections) →
      map (line_at without) (flat_map (rows_in without) (left sections)) ≡ lines_left column rectangles i (map (line_at items) (flat_map (rows_in items) sections))
  sections_left [] i h all = refl
  sections_left (o ∷ sections) i h all =
      let b = h o (inl refl) in
      let nodes = children_of (Tr ∷ []) items o.from in
      let rows = rows_in items o in
      let later = flat_map (rows_in items) sections in
      let parts = stay_parts i (i + length rows) rows later refl all in
      let long = length_map (line_at items) rows in
      ap (λ r. map (line_at without) (flat_map (rows_in without) (cons_option (node_to o.kind r) (left sections)))) b.1
      ∙ map-append (line_at without) (rows_in without (record { kind = o.kind; from = b.0 })) (flat_map (rows_in without) (left sections))
      ∙ (λ j. map (line_at without) (section_rows (b.2 j)) ++ sections_left sections (i + length rows) (λ o' m. h o' (inr m)) parts.1 j)
      ∙ ap (λ v. v ++ lines_left column rectangles (i + length rows) (map (line_at items) later)) (rows_left nodes i parts.0)
      ∙ sym (lines_left-append column rectangles i (i + length rows) (map (line_at items) rows) (map (line_at items) later) (omega arith))
      ∙ ap (lines_left column rectangles i) (sym (map-append (line_at items) rows later))

  pub lines_narrow : table_lines without at ≡ lines_left column rectangles 0 (table_lines items at)
  lines_narrow =
      let kinds = Thead ∷ Tbody ∷ Tfoot ∷ [] in
      let sections = children_of kinds items at in
      let rows = table_rows items at in
      let u = (s.table).within in
      let v = (s.table).ahead in
      let stand = children_of_stand items kinds Table at lawful s.table in
      let own : stays at ≡ Some (at - 0) = fate_before items covering (suc at) (partner items at) 0 at chain (omega arith) in
      let z : at - 0 ≡ at = omega arith in
      let here : stays at ≡ Some at = own ∙ ap Some z in
      let clear = clear_all at covering (λ c m. inl (among_after (codes "colspan") one_narrower items covering (suc at) (partner items at) c chain m)) in
      let new_sections = kids kinds at at (omega arith) clear here in
      let all = all_stay rows 0 (λ k r e. let y : k ≡ 0 + k = omega arith in subst (λ m. Stays m r) y (row_stays k r e)) in
      let sections_stay : (o : Open) → AmongNodes o sections → (b : ℕ) × (stays o.from ≡ Some b) × (children_of (Tr ∷ []) without b ≡ left (children_of (Tr ∷ []) items o.from)) =
      (λ o m. section_stays o m stand) in
      ap (λ v. map (line_at without) (flat_map (rows_in without) v)) new_sections
      ∙ sections_left sections 0 sections_stay all
    where
      inside : (o : Open) (low high : ℕ) (nodes : List Open) → Chain from_of items (Thead ∷ Tbody ∷ Tfoot ∷ []) low high nodes → AmongNodes o nodes → o.from < high
      inside o low high [] c m = absurd m
      inside o low high (x ∷ nodes) c (inl e) =
          let far = Chain-ends from_of items (Thead ∷ Tbody ∷ Tfoot ∷ []) (end_of_node items x.from) high nodes c.2 in
          let b = (c.1.2).ahead in
          let l : x.from < high = omega arith in
          subst (λ (v : Open). v.from < high) e l
      inside o low high (x ∷ nodes) c (inr m) = inside o (end_of_node items x.from) high nodes c.2 m

      section_stays : (o : Open) → AmongNodes o (children_of (Thead ∷ Tbody ∷ Tfoot ∷ []) items at) →
          Chain from_of items (Thead ∷ Tbody ∷ Tfoot ∷ []) (suc at) (partner items at) (children_of (Thead ∷ Tbody ∷ Tfoot ∷ []) items at) →
          (b : ℕ) × (stays o.from ≡ Some b) × (children_of (Tr ∷ []) without b ≡ left (children_of (Tr ∷ []) items o.from))
      section_stays o m stand =
          let rows = table_rows items at in
          let clear = clear_all o.from covering (λ c a.
          let home = homes_among items rows g.cells c (s.cells).homes (Among-filter covers c g.cells a) in
          beside c home.low home.high home.inside (section_clear items (Thead ∷ Tbody ∷ Tfoot ∷ []) (children_of (Thead ∷ Tbody ∷ Tfoot ∷ []) items at) (suc at) (partner items at) o c.row home.row lawful stand m home.named)) in
          let f = fate_clear items covering (suc at) (partner items at) 0 o.from lawful chain clear in
          let l = inside o (suc at) (partner items at) (children_of (Thead ∷ Tbody ∷ Tfoot ∷ []) items at) stand m in
          let u = (s.table).within in
          (f.0, f.1, kids (Tr ∷ []) o.from f.0 (omega arith) clear f.1)
        where
          beside : (c : GridCell) {place : ℕ} → suc place ≤ c.at → end_of_node items c.at ≤ partner items place → suc c.at ≤ partner items place →
              (o.from < place) ⊎ (suc (partner items place) ≤ o.from) → (o.from < c.at) ⊎ (end_of_node items c.at ≤ o.from)
          beside c low high inside' (inl l) = inl (omega arith)
          beside c low high inside' (inr l) = inr (omega arith)

  -- the table still opens at its position
  pub opens_narrow : passes (is_opening_of Table) (slice_get without at) ≡ true
  opens_narrow =
      let u = (s.table).within in
      let v = (s.table).ahead in
      let o = s.table in
      let z : at - 0 ≡ at = omega arith in
      let own : stays at ≡ Some (at - 0) = fate_before items covering (suc at) (partner items at) 0 at chain (omega arith) in
      let here : stays at ≡ Some at = own ∙ ap Some z in
      let wide_chain = Chain-filter cell_at items cell_kinds is_wide (suc at) (partner items at) covering chain in
      ap (λ k. passes (is_opening_of Table) (slice_get without k)) (sym z)
      ∙ ap (passes (is_opening_of Table)) (get_fate items covering (suc at) (partner items at) 0 0 0 items at at lawful chain (omega arith) (omega arith) fit tail (omega arith) (omega arith) here
      ∙ set_before (codes "colspan") one_narrower items (filter is_wide covering) (suc at) (partner items at) at (slice_get items (at - 0)) wide_chain (omega arith)
      ∙ ap (slice_get items) z ∙ o.here)
