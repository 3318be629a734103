-- A row into which a new cell is put.
use Rattle.std.specs.Prelude.{slice_get, filter, codes}
use Rattle.std.specs.List.{list_any}
use Rattle.std.proofs.Common.{◌≡◌, ℕ, suc, ◌+◌, ◌≤◌, Bool, true, false, cond, ◌&&◌, if◌then◌else◌, nat_le, nat_lt, List, [], ◌∷◌, ◌++◌, length, map, Option, refl, sym, ap, ◌∙◌, subst, arith, append-nil}
use Rattle.std.proofs.lemmas.Bool.{leb-true, leb-false, le-leb, lt-ltb, or_parts}
use Rattle.ve_base.specs.Limits.{max_row_span}
use Rattle.ve_kinds.specs.declared.kind.Kind.{Kind}
use Rattle.ve_kinds.specs.declared.kind.Kind.TheVariants.{Tr}
use Rattle.ve_kinds.specs.Table.{is_among}
use Rattle.model_items.specs.declared.plain_item.PlainItem.{PlainItem}
use Rattle.model_items.specs.Law.{Lawful}
use Rattle.model_items.specs.Tree.{Open}
use Rattle.model_items.specs.Offsets.{partner, end_of_node}
use Rattle.model_edit.specs.Edits.{Edit, Change, Set}
use Rattle.model_edit.specs.declared.grid_cell.GridCell.{GridCell}
use Rattle.model_edit.specs.Grid.{TableRow, row_cells, covers_row}
use Rattle.model_edit.specs.Tables.{spans_column, new_cell, cell_place}
use Rattle.model_edit_law.proofs.SiblingLemmas.{no_less}
use Rattle.model_edit_law.proofs.TableSetLemmas.{map-append}
use Rattle.model_edit_law.proofs.TablePlaceLemmas.{Opens, Chain, from_of, cell_kinds, children_of_stand, span_least}
use Rattle.model_edit_law.proofs.CellRowLemmas.{Pairs}
use Rattle.model_table_law.specs.Cells.{inside}
use Rattle.model_table_law.proofs.ReadLemmas.{InSection, InRow}
use Rattle.model_table_law.proofs.PieceLemmas.{Turned, Turned-join, Turned-put, Walk-row, Walk-row_end}
use Rattle.model_table_law.proofs.NodeTurnLemmas.{piece, lawful_node, node_partner, AllTurned, turned_inside, turned_node, turned_row}
use Rattle.model_table_law.proofs.FilledLemmas.{cell_insides, AllIn, Rising}
use Rattle.model_table_law.proofs.MovedLemmas.{empty_paragraph, Walk-new}
use Rattle.model_table_law.proofs.RowsTurnLemmas.{cell_kept, cells_kept, node_long, row_set}

module _ (column : ℕ) where
  abbrev pub left_of : GridCell → Bool
  left_of c = nat_lt c.column column

  abbrev pub right_of : GridCell → Bool
  right_of c = nat_le column c.column

  -- a cell right of the column is not left of it, and the other way round
  right_not_left : (c : GridCell) → right_of c ≡ true → left_of c ≡ false
  right_not_left c e = no_less c.column column (leb-true column c.column e)

  left_not_right : (c : GridCell) → right_of c ≡ false → left_of c ≡ true
  left_not_right c e = lt-ltb c.column column (leb-false column c.column e)

  all_right : (cells : List GridCell) (end : ℕ) → column ≤ end → Rising end cells → (filter left_of cells ≡ []) × (filter right_of cells ≡ cells)
  all_right [] end l r = (refl, refl)
  all_right (c ∷ cells) end l r =
      let a = r.0 in
      let later = all_right cells (c.column + c.columns) (omega arith) r.1 in
      let right : right_of c ≡ true = le-leb column c.column (omega arith) in (
        ap (λ b. cond b (c ∷ filter left_of cells) (filter left_of cells)) (right_not_left c right) ∙ later.0,
        ap (λ b. cond b (c ∷ filter right_of cells) (filter right_of cells)) right ∙ ap (λ v. c ∷ v) later.1,
      )

  pub both_sides : (cells : List GridCell) (end : ℕ) → Rising end cells → filter left_of cells ++ filter right_of cells ≡ cells
  both_sides [] end r = refl
  both_sides (c ∷ cells) end r = by (right_of c) refl (both_sides cells (c.column + c.columns) r.1)
    where
      by : (b : Bool) → right_of c ≡ b → filter left_of cells ++ filter right_of cells ≡ cells →
          filter left_of (c ∷ cells) ++ filter right_of (c ∷ cells) ≡ c ∷ cells
      by true e later =
          let a = leb-true column c.column e in
          let none = all_right cells (c.column + c.columns) (omega arith) r.1 in
          (λ i. cond (right_not_left c e i) (c ∷ filter left_of cells) (filter left_of cells) ++ cond (e i) (c ∷ filter right_of cells) (filter right_of cells))
          ∙ (λ i. none.0 i ++ c ∷ none.1 i)
      by false e later =
          (λ i. cond (left_not_right c e i) (c ∷ filter left_of cells) (filter left_of cells) ++ cond (e i) (c ∷ filter right_of cells) (filter right_of cells))
          ∙ ap (λ v. c ∷ v) later

  module _ (items : List PlainItem) (lawful : Lawful items) where
    abbrev pub put : ℕ → List Edit
    put place = Change place 0 new_cell ∷ []

    -- what is read of a row's cells with the new one
    abbrev pub read_with : List GridCell → List (List PlainItem)
    read_with cells = cell_insides items (filter left_of cells) ++ (empty_paragraph ∷ cell_insides items (filter right_of cells))

    place_first : (r : TableRow) (c : GridCell) (cells : List GridCell) → right_of c ≡ true → cell_place items r column (c ∷ cells) ≡ c.at
    place_first r c [] e = ap (λ b. if b then c.at else end_of_node items c.at) e
    place_first r c (next ∷ cells) e = ap (λ b. if b then c.at else cell_place items r column (next ∷ cells)) e

    one_kept : (n : Open) (kind : Kind) → is_among cell_kinds kind ≡ true → Opens items kind n.from → (c : GridCell) → c.at ≡ n.from →
        Turned InRow InRow n.from (piece items n.from) [] (inside items c.at ∷ [])
    one_kept n kind t o c e =
        subst (λ k. Turned InRow InRow n.from (piece items n.from) [] (inside items k ∷ [])) (sym e) (cell_kept items lawful kind n.from t o)

    -- before the first cell that is right of the column
    put_first : (r : TableRow) (c : GridCell) (cells : List GridCell) (n : Open) (nodes : List Open) (end low high : ℕ) → right_of c ≡ true →
        Pairs items (c ∷ cells) (n ∷ nodes) → Rising end (c ∷ cells) → Chain from_of items cell_kinds low high (n ∷ nodes) →
        AllTurned from_of items InRow (n ∷ nodes) (put (cell_place items r column (c ∷ cells))) (read_with (c ∷ cells))
    put_first r c cells n nodes end low high e p rising chain =
        let a = leb-true column c.column e in
        let none = all_right cells (c.column + c.columns) (omega arith) rising.1 in (
          put c.at,
          [],
          empty_paragraph ∷ inside items c.at ∷ [],
          cell_insides items cells,
          ap put (place_first r c cells e),
          (λ i. cell_insides items (cond (right_not_left c e i) (c ∷ filter left_of cells) (filter left_of cells)) ++
              (empty_paragraph ∷ cell_insides items (cond (e i) (c ∷ filter right_of cells) (filter right_of cells))))
              ∙ (λ i. cell_insides items (none.0 i) ++ (empty_paragraph ∷ inside items c.at ∷ cell_insides items (none.1 i))),
          Turned-join n.from n.from [] (piece items n.from) (put c.at) [] (empty_paragraph ∷ []) (inside items c.at ∷ []) (omega arith)
              (Turned-put n.from c.at new_cell (empty_paragraph ∷ []) p.0 Walk-new) (one_kept n chain.1.0 chain.1.1 chain.1.2 c p.0),
          cells_kept items lawful cells nodes (end_of_node items n.from) high p.3 chain.2,
        )

    -- after the last cell
    put_last : (r : TableRow) (c : GridCell) (n : Open) (low high : ℕ) → right_of c ≡ false → Pairs items (c ∷ []) (n ∷ []) →
        Chain from_of items cell_kinds low high (n ∷ []) →
        AllTurned from_of items InRow (n ∷ []) (put (cell_place items r column (c ∷ []))) (read_with (c ∷ []))
    put_last r c n low high e p chain =
        let end = end_of_node items c.at in
        let long = node_long items lawful chain.1.0 n.from chain.1.2 in
        let same : end ≡ n.from + length (piece items n.from) = ap (end_of_node items) p.0 ∙ sym long in
        let both = Turned-join n.from (n.from + length (piece items n.from)) (piece items n.from) [] [] (put end) (inside items c.at ∷ [])
        (empty_paragraph ∷ []) refl (one_kept n chain.1.0 chain.1.1 chain.1.2 c p.0)
        (Turned-put (n.from + length (piece items n.from)) end new_cell (empty_paragraph ∷ []) same Walk-new) in (
          put end,
          [],
          inside items c.at ∷ empty_paragraph ∷ [],
          [],
          ap (λ b. put (if b then c.at else end)) e,
          (λ i. cell_insides items (cond (left_not_right c e i) (c ∷ []) []) ++ (empty_paragraph ∷ cell_insides items (cond (e i) (c ∷ []) []))),
          subst (λ v. Turned InRow InRow n.from v (put end) (inside items c.at ∷ empty_paragraph ∷ [])) (append-nil (piece items n.from)) both,
          (refl, refl),
        )

    cells_with : (r : TableRow) (c : GridCell) (cells : List GridCell) (nodes : List Open) (end low high : ℕ) → Pairs items (c ∷ cells) nodes →
        Rising end (c ∷ cells) → Chain from_of items cell_kinds low high nodes →
        AllTurned from_of items InRow nodes (put (cell_place items r column (c ∷ cells))) (read_with (c ∷ cells))
    cells_with r c cells [] end low high p rising chain = absurd p
    cells_with r c [] (n ∷ nodes) end low high p rising chain = by nodes (right_of c) refl p chain
      where
        by : (nodes : List Open) (b : Bool) → right_of c ≡ b → Pairs items (c ∷ []) (n ∷ nodes) → Chain from_of items cell_kinds low high (n ∷ nodes) →
            AllTurned from_of items InRow (n ∷ nodes) (put (cell_place items r column (c ∷ []))) (read_with (c ∷ []))
        by nodes true e p chain = put_first r c [] n nodes end low high e p rising chain
        by [] false e p chain = put_last r c n low high e p chain
        by (m ∷ nodes) false e p chain = absurd p.3
    cells_with r c (next ∷ cells) (n ∷ nodes) end low high p rising chain =
        by (right_of c) refl (cells_with r next cells nodes (c.column + c.columns) (end_of_node items n.from) high p.3 rising.1 chain.2)
      where
        by : (b : Bool) → right_of c ≡ b → AllTurned from_of items InRow nodes (put (cell_place items r column (next ∷ cells))) (read_with (next ∷ cells)) →
            AllTurned from_of items InRow (n ∷ nodes) (put (cell_place items r column (c ∷ next ∷ cells))) (read_with (c ∷ next ∷ cells))
        by true e later = put_first r c (next ∷ cells) n nodes end low high e p rising chain
        by false e later = (
          [],
          put (cell_place items r column (next ∷ cells)),
          inside items c.at ∷ [],
          read_with (next ∷ cells),
          ap (λ b. put (if b then c.at else cell_place items r column (next ∷ cells))) e,
          (λ i. cell_insides items (cond (left_not_right c e i) (c ∷ filter left_of (next ∷ cells)) (filter left_of (next ∷ cells)))
              ++ (empty_paragraph ∷ cell_insides items (cond (e i) (c ∷ filter right_of (next ∷ cells)) (filter right_of (next ∷ cells))))),
          one_kept n chain.1.0 chain.1.1 chain.1.2 c p.0,
          later,
        )

    module _ (kind : Kind) (r : TableRow) (o : Opens items kind r.at) (t : is_among (Tr ∷ []) kind ≡ true) where
      abbrev Row : List Edit → List (List PlainItem) → Type 0
      Row edits out = Turned InSection InSection r.at (piece items r.at) edits out

      -- a row without cells
      only_put : Pairs items [] (row_cells items r.at) → Row (put (partner items r.at)) (empty_paragraph ∷ [])
      only_put p =
          let n = lawful_node items kind r.at lawful o in
          let far = node_partner n in
          let all = cells_kept items lawful [] (row_cells items r.at) (suc r.at) (partner items r.at) p (children_of_stand items cell_kinds kind r.at lawful o) in
          let none = turned_inside items kind r.at n [] [] InRow all in
          let both = Turned-join (suc r.at) (suc r.at + length n.within) n.within [] [] (put (partner items r.at)) [] (empty_paragraph ∷ []) refl none
          (Turned-put (suc r.at + length n.within) (partner items r.at) new_cell (empty_paragraph ∷ []) (omega arith) Walk-new) in
          turned_node items kind r.at n (put (partner items r.at)) (empty_paragraph ∷ []) InSection InRow
          (Walk-row kind n.head n.marks n.pre n.origin n.generated t) (Walk-row_end n.closing n.white)
          (subst (λ v. Turned InRow InRow (suc r.at) v (put (partner items r.at)) (empty_paragraph ∷ [])) (append-nil n.within) both)

      row_put : (cells : List GridCell) → Pairs items cells (row_cells items r.at) → Rising 0 cells →
          Row (put (cell_place items r column cells)) (read_with cells)
      row_put [] p rising = only_put p
      row_put (c ∷ cells) p rising =
          turned_row items kind r.at (lawful_node items kind r.at lawful o) (put (cell_place items r column (c ∷ cells))) (read_with (c ∷ cells)) t
          (cells_with r c cells (row_cells items r.at) 0 (suc r.at) (partner items r.at) p rising (children_of_stand items cell_kinds kind r.at lawful o))

      -- where no cell grows into the row none of its own spans the column
      none_spans : (k : ℕ) (cells : List GridCell) (nodes : List Open) → Pairs items cells nodes → AllIn k cells →
          list_any (λ c. spans_column column c && covers_row c k) cells ≡ false → filter (spans_column column) cells ≡ []
      none_spans k [] nodes p a e = refl
      none_spans k (c ∷ cells) [] p a e = absurd p
      none_spans k (c ∷ cells) (n ∷ nodes) p a e =
          let least = span_least (codes "rowspan") max_row_span (slice_get items n.from) in
          let tall = p.1 in
          let its = a.0 in
          let q = or_parts (spans_column column c && covers_row c k) (list_any (λ d. spans_column column d && covers_row d k) cells) e in
          let over : covers_row c k ≡ true = (λ i. le-leb c.row k (omega arith) i && lt-ltb k (c.row + c.rows) (omega arith) i) in
          ap (λ b. cond b (c ∷ filter (spans_column column) cells) (filter (spans_column column) cells))
          (first (spans_column column c) (ap (λ b. spans_column column c && b) (sym over) ∙ q.0))
          ∙ none_spans k cells nodes p.3 a.1 q.1
        where
          first : (b : Bool) → (b && true) ≡ false → b ≡ false
          first true e = e
          first false e = refl

      pub row_with : (k : ℕ) (cells : List GridCell) (grows : Bool) → Pairs items cells (row_cells items r.at) → AllIn k cells → Rising 0 cells →
          (grows ≡ false → list_any (λ c. spans_column column c && covers_row c k) cells ≡ false) → (to : GridCell → Option (List ℕ)) →
          Row (map (λ (c : GridCell). Set c.at (codes "colspan") (to c)) (filter (spans_column column) cells) ++
          (if grows then [] else put (cell_place items r column cells)))
          (cell_insides items (filter left_of cells) ++ ((if grows then [] else empty_paragraph ∷ []) ++ cell_insides items (filter right_of cells)))
      row_with k cells true p a rising none to =
          let sets = map (λ (c : GridCell). Set c.at (codes "colspan") (to c)) (filter (spans_column column) cells) in
          subst (λ v. Row v (cell_insides items (filter left_of cells) ++ cell_insides items (filter right_of cells))) (sym (append-nil sets))
          (subst (Row sets) (sym (sym (map-append (λ (c : GridCell). inside items c.at) (filter left_of cells) (filter right_of cells)) ∙ ap
          (cell_insides items) (both_sides cells 0 rising)))
          (row_set items lawful (codes "colspan") to (spans_column column) cells kind r.at o t p))
      row_with k cells false p a rising none to =
          let empty = none_spans k cells (row_cells items r.at) p a (none refl) in
          subst (λ v. Row (map (λ (c : GridCell). Set c.at (codes "colspan") (to c)) v ++ put (cell_place items r column cells)) (read_with cells))
          (sym empty) (row_put cells p rising)
