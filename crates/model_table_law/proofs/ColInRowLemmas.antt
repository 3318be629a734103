-- One row of a table with a column put in: its cells, and their spans.
use Rattle.std.specs.Prelude.{slice_get, filter, codes, decimal, nat_le}
use Rattle.std.proofs.Common.{◌≡◌, inl, inr, ℕ, suc, ◌+◌, ◌-◌, ◌<◌, ◌≤◌, ◌==◌, Bool, true, false, not, if◌then◌else◌, nat_lt, List, [], ◌∷◌, ◌++◌, length, map, Option, Some, None, refl, sym, ap, ◌∙◌, subst, arith, append-nil}
use Rattle.std.proofs.lemmas.Bool.{and_parts, leb-true, ltb-true, ltb-false, le-leb}
use Rattle.ve_base.specs.Limits.{max_column_span}
use Rattle.ve_kinds.specs.declared.kind.Kind.TheVariants.{Tr, Td}
use Rattle.ve_kinds.specs.Table.{is_among}
use Rattle.model_items.specs.declared.plain_item.PlainItem.{PlainItem}
use Rattle.model_items.specs.declared.plain_item.PlainItem.TheVariants.{Opening}
use Rattle.model_items.specs.Law.{Lawful}
use Rattle.model_items.specs.Tree.{Open}
use Rattle.model_items.specs.Offsets.{partner, end_of_node, children}
use Rattle.model_edit.specs.Edits.{Edit, Change, InOrder}
use Rattle.model_edit.specs.declared.grid_cell.GridCell.{GridCell}
use Rattle.model_edit.specs.Grid.{TableRow, Grid, table_rows, row_cells}
use Rattle.model_edit.specs.Layout.{Rectangle, moved_right, one_by_one}
use Rattle.model_edit.specs.Tables.{spans_column, new_cell}
use Rattle.model_edit_law.specs.Spans.{rectangle_of, size_of, of_row, cell_span_at}
use Rattle.model_edit_law.proofs.EditLemmas.{order_ends}
use Rattle.model_edit_law.proofs.TablePlaceLemmas.{Chain, Chain-ends, cell_kinds, cell_at, Standing}
use Rattle.model_edit_law.proofs.TableFineLemmas.{InOrder-within, none_spans, place_between, rows_apart, row_ahead, all_row_edits, sets}
use Rattle.model_edit_law.proofs.TableSetLemmas.{map-append, Among, set_in, set_among, among_after}
use Rattle.model_edit_law.proofs.SiblingLemmas.{no_less}
use Rattle.model_edit_law.proofs.TableCellLemmas.{span_read, columns_written}
use Rattle.model_edit_law.proofs.RowOutLemmas.{among_opens}
use Rattle.model_edit_law.proofs.CellRowLemmas.{Pairs, cells_in, of_row-cells, Among-filter}
use Rattle.model_table_law.proofs.RowsAddLemmas.{Rising}
use Rattle.model_table_law.proofs.ColInCoverLemmas.{no_least, lefts, rights, moved, row_widened, row_with}
use Rattle.model_table_law.proofs.PutInLemmas.{moved_by, past, nodes_before, nodes_after, with_new}
use Rattle.model_table_law.proofs.PutEditsLemmas.{Puts, to, to_low, to_before, to-append, set_of, set_of-append, set_of-before, set_of-after, set_of-sets, after, Apart, Apart-append, one_own, children_kept, get_put, get_kept, get_beyond}
use Rattle.model_table_law.proofs.ColInPlaceLemmas.{place_agrees, is_row, opens_row, row_chain, place, place_inside, grows, widened, edits_at, edits_from, Puts_from, Apart_grown, Apart_from, edits_from-append}
use Rattle.model_table_law.proofs.RowNodesLemmas.{split, filter_moved, children_of-moved, cells_with_new, new_among_moved, rising_split, grows_grown, some_spans, filter_all}

module _ (items : List PlainItem) (at column : ℕ) (g : Grid) (lawful : Lawful items) (s : Standing items at g)
    (pairs : (k : ℕ) (r : TableRow) → slice_get (table_rows items at) k ≡ Some r → Pairs items (cells_in k g.cells) (row_cells items r.at))
    (rising : (k : ℕ) → Rising 0 (of_row (map rectangle_of g.cells) k)) (room : (c : GridCell) → Among c g.cells → spans_column column c ≡ true → c.columns < max_column_span) where
  abbrev rows : List TableRow
  rows = table_rows items at

  abbrev rectangles : List Rectangle
  rectangles = map rectangle_of g.cells

  abbrev IsRow : ℕ → TableRow → Type 0
  IsRow k r = is_row items at column g lawful s pairs k r

  abbrev pub all_edits : List Edit
  all_edits = edits_from items at column g lawful s pairs 0 rows

  -- the table with the column
  abbrev pub with_column : List PlainItem
  with_column = after items all_edits

  fits : partner items at ≤ length items
  fits = let w = (s.table).within in omega arith

  -- other rows begin elsewhere
  rows_differ : (j k : ℕ) (r' r : TableRow) → IsRow j r' → IsRow k r → (j ≡ k → ⊥) → r.at ≡ r'.at → ⊥
  rows_differ j k r' r e f other same = by (nat_lt j k) (nat_lt k j) refl refl
    where
      by : (x y : Bool) → nat_lt j k ≡ x → nat_lt k j ≡ y → ⊥
      by true y u v =
          let a = rows_apart items (Tr ∷ []) (suc at) (partner items at) rows j k r' r s.rows e f (ltb-true j k u) in
          let b = row_ahead items (Tr ∷ []) (suc at) (partner items at) rows j r' s.rows e in omega arith
      by false true u v =
          let a = rows_apart items (Tr ∷ []) (suc at) (partner items at) rows k j r r' s.rows f e (ltb-true k j v) in
          let b = row_ahead items (Tr ∷ []) (suc at) (partner items at) rows k r s.rows f in omega arith
      by false false u v = let a = ltb-false j k u in let b = ltb-false k j v in other (omega arith)

  pub in_order : InOrder (suc at) (partner items at) all_edits
  in_order = (all_row_edits items at column g s rows 0 (suc at) (partner items at) (λ n r e. let z : n ≡ 0 + n = omega arith in subst (λ m. slice_get rows m ≡ Some r) z e) s.rows).order

  abbrev own_edits : ℕ → TableRow → List Edit
  own_edits k r = edits_at items at column g lawful s pairs k r

  -- The edits before a row's, its own and those after.
  record Cut (k : ℕ) (r : TableRow) : Type 0 where
    pub first : List Edit
    pub last : List Edit
    pub whole : all_edits ≡ first ++ (own_edits k r ++ last)
    pub before : InOrder (suc at) r.at first
    pub behind : InOrder (end_of_node items r.at) (partner items at) last
    pub puts_first : Puts first
    pub puts_last : Puts last
    pub apart_first : Apart items r.at first
    pub apart_last : Apart items r.at last

  cut : (k : ℕ) (r : TableRow) → IsRow k r → Cut k r
  cut k r e =
      let p = split items rows (suc at) (partner items at) k r s.rows e in
      let o = opens_row items at column g lawful s pairs k r e in
      record {
        first = edits_from items at column g lawful s pairs 0 p.earlier;
        last = edits_from items at column g lawful s pairs (k + 1) p.later;
        whole = ap (λ v. edits_from items at column g lawful s pairs 0 v) p.whole
            ∙ edits_from-append items at column g lawful s pairs 0 k p.earlier (r ∷ p.later) (let c = p.count in omega arith);
        before = (all_row_edits items at column g s p.earlier 0 (suc at) r.at (λ n x h. let z : n ≡ 0 + n = omega arith in subst (λ m. slice_get rows m ≡ Some x) z (p.get_earlier n x h).1) p.before).order;
        behind = (all_row_edits items at column g s p.later (k + 1) (end_of_node items r.at) (partner items at)
            (λ n x h. let z : suc k + n ≡ (k + 1) + n = omega arith in subst (λ m. slice_get rows m ≡ Some x) z (p.get_later n x h)) p.behind).order;
        puts_first = Puts_from items at column g lawful s pairs 0 p.earlier;
        puts_last = Puts_from items at column g lawful s pairs (k + 1) p.later;
        apart_first = Apart_from items at column g lawful s pairs o.0 r.at 0 p.earlier o.2 (λ n x h.
            let z : n ≡ 0 + n = omega arith in
            let q = p.get_earlier n x h in
            let l = q.0 in
            (subst (λ m. IsRow m x) z q.1, rows_differ n k x r q.1 e (λ y. omega arith)));
        apart_last = Apart_from items at column g lawful s pairs o.0 r.at (k + 1) p.later o.2 (λ n x h.
            let z : suc k + n ≡ (k + 1) + n = omega arith in
            let q = p.get_later n x h in
            (subst (λ m. IsRow m x) z q, rows_differ (suc k + n) k x r q e (λ y. omega arith)));
      }

  -- the cells of a row
  abbrev cells_of : ℕ → List GridCell
  cells_of k = cells_in k g.cells

  of_g : (k : ℕ) (c : GridCell) → Among c (cells_of k) → Among c g.cells
  of_g k c m = Among-filter (λ (d : GridCell). d.row == k) c g.cells m

  -- which of them are one wider
  set_where : (k : ℕ) (r : TableRow) → IsRow k r → (c : GridCell) → Among c (cells_of k) → (o : Option PlainItem) →
      set_of all_edits c.at o ≡ (if spans_column column c then set_in (codes "colspan") (Some (decimal (suc c.columns))) o else o)
  set_where k r e c m o =
      let p = cut k r e in
      let chain = row_chain items at column g lawful s pairs k r e in
      let low = among_after (codes "colspan") (λ d. None) items (cells_of k) (suc r.at) (partner items r.at) c chain m in
      let far = inside (cells_of k) (suc r.at) chain m in
      ap (λ v. set_of v c.at o) p.whole
      ∙ set_of-append p.first (own_edits k r ++ p.last) c.at o
      ∙ ap (set_of (own_edits k r ++ p.last) c.at) (set_of-after p.first (suc at) r.at c.at o p.before (omega arith))
      ∙ set_of-append (own_edits k r) p.last c.at o
      ∙ set_of-before p.last (end_of_node items r.at) (partner items at) c.at (set_of (own_edits k r) c.at o) p.behind (omega arith)
      ∙ set_of-append (widened items at column g lawful s pairs k) (if grows items at column g lawful s pairs k then [] else Change (place items at column g lawful s pairs k r) 0 new_cell ∷ []) c.at o
      ∙ none (grows items at column g lawful s pairs k) (set_of (widened items at column g lawful s pairs k) c.at o)
      ∙ set_of-sets (codes "colspan") (λ (d : GridCell). Some (decimal (suc d.columns))) (filter (spans_column column) (cells_of k)) c.at o
      ∙ set_among (codes "colspan") (λ (d : GridCell). Some (decimal (suc d.columns))) items (spans_column column) (cells_of k) (suc r.at) (partner items r.at) c o chain m
    where
      none : (b : Bool) (o' : Option PlainItem) → set_of (if b then [] else Change (place items at column g lawful s pairs k r) 0 new_cell ∷ []) c.at o' ≡ o'
      none true o' = refl
      none false o' = refl

      inside : (cells : List GridCell) (low : ℕ) → Chain cell_at items cell_kinds low (partner items r.at) cells → Among c cells → c.at < partner items r.at
      inside [] low h a = absurd a
      inside (x ∷ cells) low h (inl same) =
          let v = (h.1.2).ahead in
          let w = Chain-ends cell_at items cell_kinds (end_of_node items x.at) (partner items r.at) cells h.2 in
          let l : x.at < partner items r.at = omega arith in
          subst (λ (v : GridCell). v.at < partner items r.at) same l
      inside (x ∷ cells) low h (inr a) = inside cells (end_of_node items x.at) h.2 a

  -- the spans of a cell's node then
  span_then : (k : ℕ) (r : TableRow) → IsRow k r → (c : GridCell) (n : Open) → Among c (cells_of k) → c.at ≡ n.from → c.rows ≡ (cell_span_at items n).rows → c.columns ≡ (cell_span_at items n).columns →
      cell_span_at with_column (moved_by (to all_edits) n) ≡ size_of (moved_right column (rectangle_of c))
  span_then k r e c n m its_place rows' columns =
      let o = among_opens items g.cells (suc at) (partner items at) c (s.cells).chain (of_g k c m) in
      let x = Opening o.0 (o.1).head (o.1).marks (o.1).pre (o.1).origin (o.1).generated in
      let there : slice_get items n.from ≡ Some x = ap (slice_get items) (sym its_place) ∙ (o.1).here in
      let its_rows : c.rows ≡ (span_read (Some x)).rows = rows' ∙ ap (λ v. (span_read v).rows) there in
      let its_columns : c.columns ≡ (span_read (Some x)).columns = columns ∙ ap (λ v. (span_read v).columns) there in
      let read : slice_get with_column (to all_edits n.from) ≡ (if spans_column column c then set_in (codes "colspan") (Some (decimal (suc c.columns))) (Some x) else Some x) =
      get_kept items all_edits (suc at) (partner items at) n.from (Puts_from items at column g lawful s pairs 0 rows) in_order fits
      ∙ ap (set_of all_edits n.from) there ∙ ap (λ a. set_of all_edits a (Some x)) (sym its_place) ∙ set_where k r e c m (Some x) in
      let written : (j : ℕ) → 1 ≤ j → j ≤ max_column_span → span_read (set_in (codes "colspan") (Some (decimal j)) (Some x)) ≡ record (span_read (Some x)) { columns = j } =
      columns_written o.0 (o.1).head (o.1).marks (o.1).pre (o.1).origin (o.1).generated in
      ap span_read read ∙ by (Some x) (spans_column column c) refl (nat_le column c.column) refl its_rows its_columns written
    where
      by : (x : Option PlainItem) (b : Bool) → spans_column column c ≡ b → (d : Bool) → nat_le column c.column ≡ d → c.rows ≡ (span_read x).rows → c.columns ≡ (span_read x).columns →
          ((j : ℕ) → 1 ≤ j → j ≤ max_column_span → span_read (set_in (codes "colspan") (Some (decimal j)) x) ≡ record (span_read x) { columns = j }) →
          span_read (if spans_column column c then set_in (codes "colspan") (Some (decimal (suc c.columns))) x else x) ≡ size_of (moved_right column (rectangle_of c))
      by x true t true u its_rows its_columns written = absurd (let l = leb-true column c.column u in let m' = ltb-true c.column column (and_parts (nat_lt c.column column) _ t).0 in omega arith)
      by x true t false u its_rows its_columns written =
          let most = room c (of_g k c m) t in
          ap (λ b. span_read (if b then set_in (codes "colspan") (Some (decimal (suc c.columns))) x else x)) t
          ∙ written (suc c.columns) (omega arith) (omega arith)
          ∙ (λ i. record { rows = sym its_rows i; columns = suc c.columns })
          ∙ sym (λ i. size_of (if u i then record (rectangle_of c) { column = suc c.column } else (if t i then record (rectangle_of c) { columns = suc c.columns } else rectangle_of c)))
      by x false t d u its_rows its_columns written =
          ap (λ b. span_read (if b then set_in (codes "colspan") (Some (decimal (suc c.columns))) x else x)) t
          ∙ (λ i. record { rows = sym its_rows i; columns = sym its_columns i })
          ∙ same d
          ∙ sym (λ i. size_of (if u i then record (rectangle_of c) { column = suc c.column } else (if t i then record (rectangle_of c) { columns = suc c.columns } else rectangle_of c)))
        where
          same : (d : Bool) → size_of (rectangle_of c) ≡ size_of (if d then record (rectangle_of c) { column = suc c.column } else rectangle_of c)
          same true = refl
          same false = refl

  order_from_0 : InOrder 0 (partner items at) all_edits
  order_from_0 = InOrder-within (suc at) 0 (partner items at) (partner items at) all_edits (omega arith) (omega arith) in_order

  -- In a node in which no new cell stands, the same nodes stand.
  pub same_children : (a : ℕ) → Apart items a all_edits → children with_column (to all_edits a) ≡ map (moved_by (to all_edits)) (children items a)
  same_children a apart =
      subst (λ v. children (after items v) (to v a) ≡ map (moved_by (to all_edits)) (children items a)) (append-nil all_edits)
      (children_kept items all_edits [] (partner items at) a (children items a) (Puts_from items at column g lawful s pairs 0 rows)
      (subst (InOrder 0 (partner items at)) (sym (append-nil all_edits)) order_from_0) fits apart refl)

  rise : (k : ℕ) → Rising 0 (map rectangle_of (cells_of k))
  rise k = subst (Rising 0) (of_row-cells k g.cells) (rising k)

  row_grown : (k : ℕ) (r : TableRow) → IsRow k r → grows items at column g lawful s pairs k ≡ true →
      map (cell_span_at with_column) (row_cells with_column (to all_edits r.at)) ≡ map size_of (row_widened column (map rectangle_of (cells_of k)) true k)
  row_grown k r e yes_ =
      let c = cut k r e in
      let own = Apart_grown items at column g lawful s pairs r.at k r yes_ in
      let apart = subst (Apart items r.at) (sym c.whole) (Apart-append items r.at c.first (own_edits k r ++ c.last) c.apart_first (Apart-append items r.at (own_edits k r) c.last own c.apart_last)) in
      let nodes = row_cells items r.at in
      let R = map rectangle_of (cells_of k) in
      ap (map (cell_span_at with_column)) (children_of-moved cell_kinds items with_column r.at (to all_edits r.at) (to all_edits) (same_children r.at apart))
      ∙ ap (λ v. map (cell_span_at with_column) (map (moved_by (to all_edits)) v)) (sym (filter_all nodes))
      ∙ some_spans items with_column column (to all_edits) (λ n. true) (λ x. true) (cells_of k) nodes (pairs k r e) (λ d n m p. refl) (λ d n m p q w. span_then k r e d n m p q w)
      ∙ ap (λ v. map size_of (moved column v)) (filter_all R ∙ sym (rising_split column 0 R (rise k)))
      ∙ ap (map size_of) (map-append (moved_right column) (lefts column R) (rights column R))

  not_less : (m n : ℕ) → not (nat_lt m n) ≡ nat_le n m
  not_less m n = by (nat_lt m n) refl
    where
      by : (b : Bool) → nat_lt m n ≡ b → not (nat_lt m n) ≡ nat_le n m
      by true e = let l = ltb-true m n e in ap not e ∙ sym (no_least n m l)
      by false e = let l = ltb-false m n e in ap not e ∙ sym (le-leb n m l)

  row_new : (k : ℕ) (r : TableRow) → IsRow k r → grows items at column g lawful s pairs k ≡ false →
      map (cell_span_at with_column) (row_cells with_column (to all_edits r.at)) ≡ map size_of (row_widened column (map rectangle_of (cells_of k)) false k)
  row_new k r e no_ =
      let none = none_spans items rows k column g.cells (s.cells).homes no_ in
      let c = cut k r e in
      let chain = row_chain items at column g lawful s pairs k r e in
      let own : own_edits k r ≡ Change p 0 new_cell ∷ [] =
      (λ i. sets (codes "colspan") (λ (d : GridCell). Some (decimal (suc d.columns))) (none i) ++ (if no_ i then [] else Change p 0 new_cell ∷ [])) in
      let between = place_between items r column (suc r.at) (cells_of k) chain in
      by c (c.whole ∙ ap (λ v. c.first ++ (v ++ c.last)) own) between.0 between.1
    where
      p : ℕ
      p = place items at column g lawful s pairs k r

      nodes : List Open
      nodes = row_cells items r.at

      R : List Rectangle
      R = map rectangle_of (cells_of k)

      by : (c : Cut k r) → all_edits ≡ c.first ++ Change p 0 new_cell ∷ c.last → suc r.at ≤ p → p ≤ partner items r.at →
          map (cell_span_at with_column) (row_cells with_column (to all_edits r.at)) ≡ map size_of (row_widened column R false k)
      by c whole low high =
          let behind = InOrder-within (end_of_node items r.at) p (partner items at) (partner items at) c.last (omega arith) (omega arith) c.behind in
          let behind0 = InOrder-within p 0 (partner items at) (partner items at) c.last (omega arith) (omega arith) behind in
          let ends = order_ends p (partner items at) c.last behind in
          let f = fits in
          let order : InOrder 0 (partner items at) (c.first ++ Change p 0 new_cell ∷ c.last) = subst (InOrder 0 (partner items at)) whole order_from_0 in
          let later : children (after items c.last) (to c.last r.at) ≡ map (moved_by (to c.last)) (children items r.at) =
          subst (λ v. children (after items v) (to v r.at) ≡ map (moved_by (to c.last)) (children items r.at)) (append-nil c.last)
          (children_kept items c.last [] (partner items at) r.at (children items r.at) c.puts_last (subst (InOrder 0 (partner items at)) (sym (append-nil c.last)) behind0) fits c.apart_last refl) in
          let put = one_own items p (partner items at) c.last r.at (map (moved_by (to c.last)) (children items r.at)) behind (omega arith) (omega arith) (place_inside items at column g lawful s pairs k r e) later in
          let all : children with_column (to all_edits r.at) ≡ map (moved_by (to c.first)) (with_new p (map (moved_by (to c.last)) (children items r.at))) =
          (λ i. children (after items (whole i)) (to (whole i) r.at))
          ∙ children_kept items c.first (Change p 0 new_cell ∷ c.last) (partner items at) r.at (with_new p (map (moved_by (to c.last)) (children items r.at))) c.puts_first order fits c.apart_first put in
          let kept : (a : ℕ) → nat_lt (to c.last a) p ≡ nat_lt a p = λ a. same_side c.last p behind a (nat_lt a p) refl in
          let as_whole : (a : ℕ) → to c.first (past p (to c.last a)) ≡ to all_edits a = λ a. sym (ap (λ v. to v a) whole ∙ to-append c.first (Change p 0 new_cell ∷ c.last) a) in
          let cells : row_cells with_column (to all_edits r.at) ≡ map (moved_by (to all_edits)) (nodes_before p nodes) ++ record { kind = Td; from = to c.first p } ∷ map (moved_by (to all_edits)) (nodes_after p nodes) =
          ap (filter (λ (o : Open). is_among cell_kinds o.kind)) all
          ∙ filter_moved cell_kinds (to c.first) (with_new p (map (moved_by (to c.last)) (children items r.at)))
          ∙ ap (map (moved_by (to c.first))) (cells_with_new p (map (moved_by (to c.last)) (children items r.at)) ∙ ap (with_new p) (filter_moved cell_kinds (to c.last) (children items r.at)))
          ∙ new_among_moved p (to c.last) (to c.first) (to all_edits) nodes kept as_whole in
          let new_span : cell_span_at with_column (record { kind = Td; from = to c.first p }) ≡ size_of (one_by_one k column) =
          ap span_read (ap (λ v. slice_get (after items v) (to c.first p)) whole
          ∙ get_beyond items c.first (Change p 0 new_cell ∷ c.last) (suc at) r.at (partner items at) p c.puts_first c.before order fits (omega arith)
          ∙ get_put items p c.last (omega arith)) in
          let chain = row_chain items at column g lawful s pairs k r e in
          let agree : (d : GridCell) (n : Open) → Among d (cells_of k) → d.at ≡ n.from → nat_lt n.from p ≡ nat_lt d.column column =
          λ d n m q. ap (λ a. nat_lt a p) (sym q) ∙ place_agrees items r column (cells_of k) (suc r.at) 0 d chain (rise k) m in
          let left = some_spans items with_column column (to all_edits) (λ n. nat_lt n.from p) (λ x. nat_lt x.column column) (cells_of k) nodes (pairs k r e) agree (λ d n m p' q w. span_then k r e d n m p' q w) in
          let right = some_spans items with_column column (to all_edits) (λ n. not (nat_lt n.from p)) (λ x. nat_le column x.column) (cells_of k) nodes (pairs k r e)
          (λ d n m q. ap not (agree d n m q) ∙ not_less d.column column) (λ d n m p' q w. span_then k r e d n m p' q w) in
          ap (map (cell_span_at with_column)) cells
          ∙ map-append (cell_span_at with_column) (map (moved_by (to all_edits)) (nodes_before p nodes)) (record { kind = Td; from = to c.first p } ∷ map (moved_by (to all_edits)) (nodes_after p nodes))
          ∙ (λ i. left i ++ new_span i ∷ right i)
          ∙ sym (map-append size_of (moved column (lefts column R)) (one_by_one k column ∷ moved column (rights column R)))
        where
          same_side : (edits : List Edit) (q : ℕ) → InOrder q (partner items at) edits → (a : ℕ) (b : Bool) → nat_lt a q ≡ b → nat_lt (to edits a) q ≡ nat_lt a q
          same_side edits q h a true t = ap (λ v. nat_lt v q) (to_before edits q (partner items at) a h (ltb-true a q t))
          same_side edits q h a false t = (let l = ltb-false a q t in let m = to_low edits a in no_less (to edits a) q (omega arith) ∙ sym (no_less a q l))

  -- Each row has the spans of its rectangles with the column.
  pub row_spans : (k : ℕ) (r : TableRow) → IsRow k r → map (cell_span_at with_column) (row_cells with_column (to all_edits r.at)) ≡ map size_of (row_with column rectangles k)
  row_spans k r e = by (grows items at column g lawful s pairs k) refl ∙ sym (λ i. map size_of (row_widened column (of_row-cells k g.cells i) (grows_grown column k g.cells i) k))
    where
      by : (b : Bool) → grows items at column g lawful s pairs k ≡ b →
          map (cell_span_at with_column) (row_cells with_column (to all_edits r.at)) ≡ map size_of (row_widened column (map rectangle_of (cells_of k)) (grows items at column g lawful s pairs k) k)
      by true t = row_grown k r e t ∙ ap (λ b. map size_of (row_widened column (map rectangle_of (cells_of k)) b k)) (sym t)
      by false t = row_new k r e t ∙ ap (λ b. map size_of (row_widened column (map rectangle_of (cells_of k)) b k)) (sym t)
