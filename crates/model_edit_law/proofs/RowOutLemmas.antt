-- The list of a table without a row: its lines are those without the row.
use Rattle.std.specs.Prelude.{slice_get, filter, filter_map, flat_map, codes, decimal}
use Rattle.std.specs.List.{cons_option}
use Rattle.std.proofs.Common.{◌≡◌, ◌⊎◌, inl, inr, ℕ, zero, suc, ◌+◌, ◌-◌, ◌<◌, ◌≤◌, Bool, true, false, ◌&&◌, if◌then◌else◌, nat_le, nat_lt, List, [], ◌∷◌, ◌++◌, length, map, take, drop, Option, Some, None, refl, sym, ap, ◌∙◌, subst, arith}
use Rattle.std.proofs.lemmas.Bool.{ltb-true, ltb-false, lt-ltb, le-leb}
use Rattle.std.proofs.lemmas.Option.{slice_get_within}
use Rattle.std.proofs.lemmas.List.{length-take-le}
use Rattle.std.proofs.Math.Seq.{drop-append-add}
use Rattle.ve_kinds.specs.declared.kind.Kind.{Kind}
use Rattle.ve_kinds.specs.declared.kind.Kind.TheVariants.{Table, Thead, Tbody, Tfoot, Tr}
use Rattle.ve_kinds.specs.Table.{kind_same}
use Rattle.model_items.specs.declared.plain_item.PlainItem.{PlainItem}
use Rattle.model_items.specs.declared.plain_item.PlainItem.TheVariants.{Char, Opening, Closing}
use Rattle.model_items.specs.Law.{Lawful}
use Rattle.model_items.specs.Tree.{Open, Shape, Letter, Begin, End, shape_of}
use Rattle.model_change.proofs.TouchLemmas.{get-take-append}
use Rattle.model_edit.specs.Brackets.{is_opening_of}
use Rattle.model_items.specs.Offsets.{partner, end_of_node, children, passes}
use Rattle.model_edit.specs.Edits.{substituted_from}
use Rattle.model_edit.specs.declared.grid_cell.GridCell.{GridCell}
use Rattle.model_edit.specs.Grid.{TableRow, Grid, children_of, section_rows, table_rows, row_cells}
use Rattle.model_edit.specs.Tables.{spans_row, whole_node}
use Rattle.model_edit_law.specs.Spans.{span_after, lines_after, cell_span_at, line_at, table_lines}
use Rattle.model_edit_law.proofs.BracketLemmas.{node_parts, slice_get-split}
use Rattle.model_edit_law.proofs.TablePlaceLemmas.{Opens, Chain, Chain-ends, Chain-filter, from_of, cell_kinds, cell_at, children_of_stand, Standing}
use Rattle.model_edit_law.proofs.TableFineLemmas.{drop_twice, sets, row_within, rows_apart, row_ahead, row_out_order}
use Rattle.model_edit_law.proofs.TableLawfulLemmas.{row_opens}
use Rattle.model_edit_law.proofs.SiblingLemmas.{place_without, node_without, Outside, place_kept, place_moved, node_outside, children_same, children_without, children_of-without}
use Rattle.model_edit_law.proofs.TableSetLemmas.{map-append, length_map, Among, set_in, set_at, shapes_sets, taken_out, get_sets, set_among, get_drop, get_past}
use Rattle.model_edit_law.proofs.TableCellLemmas.{Placed, AllPlaced, span_read, span_less}
use Rattle.model_edit_law.proofs.TableLinesLemmas.{Kept, AllKept, sections_round}

pub among_opens : (items : List PlainItem) (cells : List GridCell) (low high : ℕ) (c : GridCell) → Chain cell_at items cell_kinds low high cells → Among c cells → (kind : Kind) × Opens items kind c.at
among_opens items [] low high c h a = absurd a
among_opens items (x ∷ cells) low high c h (inl e) = subst (λ (v : GridCell). (kind : Kind) × Opens items kind v.at) e (h.1.0, h.1.2)
among_opens items (x ∷ cells) low high c h (inr a) = among_opens items cells (end_of_node items x.at) high c h.2 a

take_shapes : (n : ℕ) (items : List PlainItem) → map shape_of (take n items) ≡ take n (map shape_of items)
take_shapes zero items = refl
take_shapes (suc n) [] = refl
take_shapes (suc n) (x ∷ items) = ap (λ v. shape_of x ∷ v) (take_shapes n items)

-- each row but one stays
all_kept : (items new : List PlainItem) (p n gone : ℕ) (rows : List TableRow) (i : ℕ) → ((k : ℕ) (r : TableRow) → slice_get rows k ≡ Some r → (i + k ≡ gone → ⊥) → Kept items new p n gone (i + k) r) →
    ((k : ℕ) (r : TableRow) → slice_get rows k ≡ Some r → i + k ≡ gone → r.at ≡ p) → AllKept items new p n gone i rows
all_kept items new p n gone [] i h g = tt
all_kept items new p n gone (r ∷ rows) i h g =
    let z : i + 0 ≡ i = omega arith in (
      (λ other. subst (λ m. Kept items new p n gone m r) z (h 0 r refl (λ e. other (omega arith)))),
      (λ e. g 0 r refl (omega arith)),
      all_kept items new p n gone rows (suc i)
          (λ k r' e other. let y : i + suc k ≡ suc i + k = omega arith in subst (λ m. Kept items new p n gone m r') y (h (suc k) r' e (λ w. other (omega arith))))
          (λ k r' e w. g (suc k) r' e (omega arith)),
    )

module _ (items : List PlainItem) (at row : ℕ) (g : Grid) (lawful : Lawful items) (s : Standing items at g) (gone : TableRow) (here : slice_get (table_rows items at) row ≡ Some gone)
    (placed : (k : ℕ) (r : TableRow) → slice_get (table_rows items at) k ≡ Some r → AllPlaced items g.cells k (row_cells items r.at)) where
  abbrev p : ℕ
  p = gone.at

  abbrev n : ℕ
  n = end_of_node items gone.at - gone.at

  abbrev changed : List GridCell
  changed = filter (spans_row row) g.cells

  abbrev less : GridCell → Option (List ℕ)
  less c = Some (decimal (c.rows - 1))

  abbrev set_list : List PlainItem
  set_list = substituted_from 0 items (sets (codes "rowspan") less changed)

  abbrev pub without : List PlainItem
  without = take p set_list ++ drop (n + p) items

  abbrev fm : List Open → List Open
  fm nodes = filter_map (node_without p n) nodes

  within : (suc at ≤ p) × (suc (partner items p) ≤ partner items at)
  within = row_within items (Tr ∷ []) (suc at) (partner items at) (table_rows items at) row gone s.rows here

  ahead : suc p ≤ partner items p
  ahead = row_ahead items (Tr ∷ []) (suc at) (partner items at) (table_rows items at) row gone s.rows here

  ends : p + n ≡ end_of_node items p
  ends = let a = ahead in omega arith

  some : 0 < n
  some = let a = ahead in omega arith

  room : end_of_node items p ≤ length items
  room = let a = within.1 in let b = (s.table).within in omega arith

  pub made : substituted_from 0 items (sets (codes "rowspan") less changed ++ whole_node items p ∷ []) ≡ without
  made =
      let z : p - 0 ≡ p = omega arith in
      taken_out (codes "rowspan") less changed 0 (length items) p n items (row_out_order items at row g s (Some gone) here) (omega arith)
      ∙ ap (λ m. take m set_list ++ drop (n + m) items) z

  same_shapes : map shape_of set_list ≡ map shape_of items
  same_shapes = shapes_sets (codes "rowspan") less changed 0 items

  set_length : length set_list ≡ length items
  set_length = sym (length_map shape_of set_list) ∙ ap length same_shapes ∙ length_map shape_of items

  pub shapes_without : map shape_of without ≡ map shape_of (take p items ++ drop (n + p) items)
  shapes_without =
      map-append shape_of (take p set_list) (drop (n + p) items)
      ∙ ap (λ v. v ++ map shape_of (drop (n + p) items)) (take_shapes p set_list ∙ ap (take p) same_shapes ∙ sym (take_shapes p items))
      ∙ sym (map-append shape_of (take p items) (drop (n + p) items))

  kids : (a : ℕ) → Outside p n a → children without (place_without p n a) ≡ fm (children items a)
  kids a out =
      let q = row_opens items (suc at) (partner items at) (table_rows items at) row gone s.rows here in
      let o = q.2 in
      let x = Opening q.0 o.head o.marks o.pre o.origin o.generated in
      let np = node_parts items p q.0 o.head o.marks o.pre o.origin o.generated lawful o.here in
      let c = np.closed in
      let far = np.its_partner in
      let split = slice_get-split items p x o.here in
      let parts : items ≡ take p items ++ x ∷ (c.inside ++ Closing q.0 c.pre ∷ c.rest) = split.0 ∙ ap (λ v. take p items ++ x ∷ v) c.whole in
      let size : n ≡ suc (suc (length c.inside)) = omega arith in
      let rest : drop (n + p) items ≡ c.rest =
      sym (drop_twice (length c.inside + 1) (suc p) (n + p) items (omega arith)) ∙ ap (drop (length c.inside + 1)) c.whole ∙ drop-append-add c.inside (Closing q.0 c.pre ∷ c.rest) 1 in
      children_same without (take p items ++ drop (n + p) items) (place_without p n a) shapes_without
      ∙ ap (λ v. children (take p items ++ v) (place_without p n a)) rest
      ∙ children_without p n q.0 o.head o.marks o.pre o.origin o.generated c.inside c.pre c.rest size c.ends (take p items) a split.1 out
      ∙ ap (λ v. fm (children v a)) (sym parts)

  kids_of : (kinds : List Kind) (a : ℕ) → Outside p n a → children_of kinds without (place_without p n a) ≡ fm (children_of kinds items a)
  kids_of kinds a out = children_of-without p n kinds items without a (kids a out)

  pub get_before : (q : ℕ) → q < p → slice_get without q ≡ slice_get set_list q
  get_before q l = get-take-append p set_list (drop (n + p) items) q l (let a = set_length in let b = room in let c = ends in omega arith)

  get_after : (q : ℕ) → p + n ≤ q → slice_get without (q - n) ≡ slice_get items q
  get_after q l =
      let cut : length (take p set_list) ≡ p = length-take-le p set_list (let a = set_length in let b = room in let c = ends in omega arith) in
      let j = q - (n + p) in
      let z : q - n ≡ length (take p set_list) + j = omega arith in
      let y : n + p + j ≡ q = omega arith in
      ap (slice_get without) z ∙ get_past (take p set_list) (drop (n + p) items) j ∙ get_drop (n + p) j items ∙ ap (slice_get items) y

  -- a cell above the row
  cell_above : (k : ℕ) (c : Open) → k < row → c.from < p → Placed items g.cells k c → cell_span_at without (record { kind = c.kind; from = place_without p n c.from }) ≡ span_after row k (cell_span_at items c)
  cell_above k c less_ l it =
      let cell = it.cell in
      let chain = (s.cells).chain in
      let o = among_opens items g.cells (suc at) (partner items at) cell chain it.among in
      let x = Opening o.0 (o.1).head (o.1).marks (o.1).pre (o.1).origin (o.1).generated in
      let there : slice_get items c.from ≡ Some x = ap (slice_get items) (sym it.its_place) ∙ (o.1).here in
      let set_chain = Chain-filter cell_at items cell_kinds (spans_row row) (suc at) (partner items at) g.cells chain in
      let z : 0 + c.from ≡ cell.at = (let w = it.its_place in omega arith) in
      let found : slice_get without c.from ≡ (if spans_row row cell then set_in (codes "rowspan") (less cell) (Some x) else Some x) =
      get_before c.from l
      ∙ get_sets (codes "rowspan") less items changed 0 (suc at) (partner items at) items c.from set_chain (omega arith) (let b = (s.table).within in omega arith)
      ∙ (λ i. set_at (codes "rowspan") less (z i) changed (there i))
      ∙ set_among (codes "rowspan") less items (spans_row row) g.cells (suc at) (partner items at) cell (Some x) chain it.among in
      let up : k ≡ cell.row = sym it.its_row in
      let test : spans_row row cell ≡ nat_lt row (k + cell.rows) =
      (λ i. nat_lt (it.its_row i) row && (nat_le (it.its_row i) row && nat_lt row (it.its_row i + cell.rows)))
      ∙ ap (λ b. b && (nat_le k row && nat_lt row (k + cell.rows))) (lt-ltb k row less_)
      ∙ ap (λ b. b && nat_lt row (k + cell.rows)) (le-leb k row (omega arith)) in
      let tall : cell.rows ≡ (span_read (Some x)).rows = it.its_rows ∙ ap (λ v. (span_read v).rows) there in
      ap (λ m. span_read (slice_get without m)) (place_kept p n c.from l)
      ∙ ap span_read (found ∙ ap (λ b. if b then set_in (codes "rowspan") (less cell) (Some x) else Some x) test)
      ∙ span_less o.0 (o.1).head (o.1).marks (o.1).pre (o.1).origin (o.1).generated cell.rows k row tall less_
      ∙ ap (λ v. span_after row k (span_read v)) (sym there)

  cells_above : (k : ℕ) (cells : List Open) (low high : ℕ) → k < row → high ≤ p → Chain from_of items cell_kinds low high cells → AllPlaced items g.cells k cells →
      map (cell_span_at without) (fm cells) ≡ map (span_after row k) (map (cell_span_at items) cells)
  cells_above k [] low high less_ l c it = refl
  cells_above k (o ∷ cells) low high less_ l c it =
      let a = (c.1.2).ahead in
      let b = Chain-ends from_of items cell_kinds (end_of_node items o.from) high cells c.2 in
      let near : o.from < p = omega arith in
      ap (λ r. map (cell_span_at without) (cons_option r (fm cells))) (node_outside p n o (inl near))
      ∙ (λ i. cell_above k o less_ near it.0 i ∷ cells_above k cells (end_of_node items o.from) high less_ l c.2 it.1 i)

  cells_below : (cells : List Open) (low high : ℕ) → p + n ≤ low → Chain from_of items cell_kinds low high cells → map (cell_span_at without) (fm cells) ≡ map (cell_span_at items) cells
  cells_below [] low high l c = refl
  cells_below (o ∷ cells) low high l c =
      let a = (c.1.2).ahead in
      let b = c.0 in
      let far : p + n ≤ o.from = omega arith in
      ap (λ r. map (cell_span_at without) (cons_option r (fm cells))) (node_outside p n o (inr far))
      ∙ (λ i. span_read ((ap (slice_get without) (place_moved p n o.from far) ∙ get_after o.from far) i) ∷ cells_below cells (end_of_node items o.from) high (omega arith) c.2 i)

  row_kept : (k : ℕ) (r : TableRow) → slice_get (table_rows items at) k ≡ Some r → (k ≡ row → ⊥) → Kept items without p n row k r
  row_kept k r e other =
      let rows = table_rows items at in
      let o = row_opens items (suc at) (partner items at) rows k r s.rows e in
      let chain = children_of_stand items cell_kinds o.0 r.at lawful o.2 in
      let out : Outside p n r.at = outside (cases k row) in
      record {
        outside = out;
        above = λ l. ap (map (cell_span_at without)) (kids_of cell_kinds r.at out)
            ∙ cells_above k (row_cells items r.at) (suc r.at) (partner items r.at) l (let w = rows_apart items (Tr ∷ []) (suc at) (partner items at) rows k row r gone s.rows e here l in omega arith) chain (placed k r e);
        below = λ l. ap (map (cell_span_at without)) (kids_of cell_kinds r.at out)
            ∙ cells_below (row_cells items r.at) (suc r.at) (partner items r.at) (let w = rows_apart items (Tr ∷ []) (suc at) (partner items at) rows row k gone r s.rows here e l in let v = ends in omega arith) chain;
      }
    where
      cases : (a b : ℕ) → (a < b) ⊎ ((a ≡ b) ⊎ (b < a))
      cases a b = by (nat_lt a b) (nat_lt b a) refl refl
        where
          by : (x y : Bool) → nat_lt a b ≡ x → nat_lt b a ≡ y → (a < b) ⊎ ((a ≡ b) ⊎ (b < a))
          by true y e f = inl (ltb-true a b e)
          by false true e f = inr (inr (ltb-true b a f))
          by false false e f =
              let l = ltb-false a b e in let m = ltb-false b a f in inr (inl (omega arith))

      outside : (k < row) ⊎ ((k ≡ row) ⊎ (row < k)) → Outside p n r.at
      outside (inl l) =
          let w = rows_apart items (Tr ∷ []) (suc at) (partner items at) (table_rows items at) k row r gone s.rows e here l in
          let v = row_ahead items (Tr ∷ []) (suc at) (partner items at) (table_rows items at) k r s.rows e in inl (omega arith)
      outside (inr (inl z)) = absurd (other z)
      outside (inr (inr l)) =
          let w = rows_apart items (Tr ∷ []) (suc at) (partner items at) (table_rows items at) row k gone r s.rows here e l in let v = ends in inr (omega arith)

  pub lines_without : table_lines without at ≡ lines_after row row 0 (table_lines items at)
  lines_without =
      let kinds = Thead ∷ Tbody ∷ Tfoot ∷ [] in
      let a = within.0 in
      let near : at < p = omega arith in
      let sections = children_of kinds items at in
      let new_sections : children_of kinds without at ≡ fm sections = ap (children_of kinds without) (sym (place_kept p n at near)) ∙ kids_of kinds at (inl near) in
      let all = all_kept items without p n row (table_rows items at) 0
      (λ k r e other. let z : k ≡ 0 + k = omega arith in subst (λ m. Kept items without p n row m r) z (row_kept k r e (λ w. other (omega arith))))
      (λ k r e w. let z : row ≡ k = omega arith in let q : ◌≡◌ {A = Option TableRow} (Some r) (Some gone) = sym e ∙ ap (slice_get (table_rows items at)) (sym z) ∙ here in let y : r ≡ gone = cc in ap (λ (v : TableRow). v.at) y) in
      let many = slice_get_within (table_rows items at) row gone here in
      ap (λ v. map (line_at without) (flat_map (λ (section : Open). section_rows (children_of (Tr ∷ []) without section.from)) v)) new_sections
      ∙ sym (sections_round items without p n row some lawful kinds ends (kids_of (Tr ∷ [])) sections 0 row (suc at) (partner items at) (omega arith) many
      (children_of_stand items kinds Table at lawful s.table) all)

  -- the table still opens at its position
  pub opens_still : passes (is_opening_of Table) (slice_get without at) ≡ true
  opens_still =
      let a = within.0 in
      let o = s.table in
      get_opening (slice_get without at)
      (get_shape at without ∙ ap (λ v. slice_get v at) shapes_without ∙ sym (get_shape at (take p items ++ drop (n + p) items))
      ∙ ap on_shape (get-take-append p items (drop (n + p) items) at (omega arith) (let b = room in let c = ends in omega arith) ∙ o.here))
    where
      on_shape : Option PlainItem → Option Shape
      on_shape None = None
      on_shape (Some x) = Some (shape_of x)

      get_shape : (k : ℕ) (xs : List PlainItem) → on_shape (slice_get xs k) ≡ slice_get (map shape_of xs) k
      get_shape k [] = refl
      get_shape zero (x ∷ xs) = refl
      get_shape (suc k) (x ∷ xs) = get_shape k xs

      get_opening : (r : Option PlainItem) → on_shape r ≡ Some (Begin Table) → passes (is_opening_of Table) r ≡ true
      get_opening None e = cc
      get_opening (Some (Char c marks)) e = cc
      get_opening (Some (Closing kind pre)) e = cc
      get_opening (Some (Opening kind head marks pre origin generated)) e =
          let z : kind ≡ Table = begins (let w : Begin kind ≡ Begin Table = cc in w) in
          ap (λ k. kind_same k Table) z
        where
          kind_in : Shape → Kind
          kind_in (Begin k) = k
          kind_in (End k) = k
          kind_in Letter = Table

          begins : Begin kind ≡ Begin Table → kind ≡ Table
          begins w = ap kind_in w
