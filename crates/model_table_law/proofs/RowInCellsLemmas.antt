-- The list of a table with a row put in, and what its cells span there.
use Rattle.std.specs.Prelude.{slice_get, filter, flat_map, codes, decimal, not}
use Rattle.std.proofs.Common.{◌≡◌, ℕ, suc, ◌+◌, ◌-◌, ◌≤◌, Bool, true, false, cond, if◌then◌else◌, nat_lt, List, [], ◌∷◌, ◌++◌, length, map, take, drop, Option, Some, refl, sym, ap, ◌∙◌, subst, arith, length-drop}
use Rattle.std.proofs.lemmas.List.{append_assoc, length-take-le}
use Rattle.std.proofs.Math.Seq.{take-append-add}
use Rattle.ve_kinds.specs.declared.kind.Kind.{Kind}
use Rattle.ve_kinds.specs.declared.kind.Kind.TheVariants.{Tr, Td}
use Rattle.ve_base.specs.declared.head.Head.{Head}
use Rattle.ve_base.specs.declared.marks.Mark.{Mark}
use Rattle.ve_base.specs.Limits.{max_row_span}
use Rattle.model_items.specs.declared.plain_item.PlainItem.{PlainItem}
use Rattle.model_items.specs.declared.plain_item.PlainItem.TheVariants.{Opening}
use Rattle.model_items.specs.Tree.{End, shape_of}
use Rattle.model_items.specs.Offsets.{siblings}
use Rattle.model_change.specs.Attributes.{item_changed}
use Rattle.model_change.specs.Transaction.{on_first}
use Rattle.model_edit.specs.Brackets.{opening_of, closing_of}
use Rattle.model_edit.specs.Edits.{Change, setting, substituted_from, InOrder}
use Rattle.model_edit.specs.declared.grid_cell.GridCell.{GridCell}
use Rattle.model_edit.specs.Tables.{new_cell}
use Rattle.model_edit_law.specs.Spans.{CellSpan, cell_span_at}
use Rattle.model_edit_law.proofs.EditLemmas.{drop-on_first, length-on_first, order_ends, earlier_order}
use Rattle.model_edit_law.proofs.SiblingLemmas.{nodes_in}
use Rattle.model_edit_law.proofs.TablePlaceLemmas.{cell_kinds}
use Rattle.model_edit_law.proofs.TableFineLemmas.{drop_twice, sets}
use Rattle.model_edit_law.proofs.TableSetLemmas.{map-append, set_in, get_drop}
use Rattle.model_edit_law.proofs.TableCellLemmas.{span_read, rows_written}
use Rattle.model_table_law.proofs.RowInLayLemmas.{single, span_with}
use Rattle.model_table_law.proofs.RowInNodesLemmas.{depth_after, depth_then, depth_append, nodes_through, of_kinds, OneNode}

-- the list after attributes are set and a part after those is put in
pub put_in : (name : List ℕ) (f : GridCell → Option (List ℕ)) (cells : List GridCell) (at end place : ℕ) (new items : List PlainItem) →
    InOrder at end (sets name f cells ++ Change place 0 new ∷ []) →
    end ≤ at + length items →
    substituted_from at items (sets name f cells ++ Change place 0 new ∷ []) ≡ take (place - at) (substituted_from at items (sets name f cells)) ++ (new ++ drop (place - at) items)
put_in name f [] at end place new items h fit = refl
put_in name f (c ∷ cells) at end place new items h fit =
    let m = c.at - at in
    let rest = drop m items in
    let first = on_first (item_changed (setting name (f c) rest)) rest in
    let X = substituted_from c.at first (sets name f cells) in
    let low = h.0 in
    let far = last_place cells (suc c.at) h.1 in
    let high = order_ends (suc c.at) end _ h.1 in
    let long : length first ≡ length items - m = length-on_first (item_changed (setting name (f c) rest)) rest ∙ omega (arith, length-drop m items) in
    let next = put_in name f cells c.at end place new first (earlier_order c.at end _ h.1) (omega arith) in
    let whole : drop (place - c.at) first ≡ drop (place - at) items =
    drop-on_first (item_changed (setting name (f c) rest)) (place - c.at) rest (omega arith) ∙ drop_twice (place - c.at) m (place - at) items (omega arith) in
    let cut : length (take m items) ≡ m = length-take-le m items (omega arith) in
    let z : place - at ≡ length (take m items) + (place - c.at) = omega arith in
    ap (λ v. take m items ++ v) (next ∙ ap (λ v. take (place - c.at) X ++ (new ++ v)) whole)
    ∙ sym (append_assoc (take m items) (take (place - c.at) X) (new ++ drop (place - at) items))
    ∙ ap (λ v. v ++ (new ++ drop (place - at) items)) (sym (ap (λ n. take n (take m items ++ X)) z ∙ take-append-add (take m items) X (place - c.at)))
  where
    last_place : (cells : List GridCell) (low : ℕ) → InOrder low end (sets name f cells ++ Change place 0 new ∷ []) → low ≤ place
    last_place [] low h = h.0
    last_place (c ∷ cells) low h = let a = h.0 in let b = last_place cells (suc c.at) h.1 in omega arith

-- the cells of a new row, where `test` tells which columns are covered
module _ (test : ℕ → Bool) where
  abbrev pub new_cells : List ℕ → List PlainItem
  new_cells columns = flat_map (λ column. if test column then [] else new_cell) columns

  abbrev pub row_of : List ℕ → List PlainItem
  row_of columns = opening_of Tr [] ∷ (new_cells columns ++ closing_of Tr ∷ [])

  cells_level : (columns : List ℕ) (d : ℕ) → depth_after d (map shape_of (new_cells columns)) ≡ Some d
  cells_level [] d = refl
  cells_level (c ∷ columns) d = by (test c) (cells_level columns d)
    where
      by : (b : Bool) → depth_after d (map shape_of (new_cells columns)) ≡ Some d →
          depth_after d (map shape_of ((if b then [] else new_cell) ++ new_cells columns)) ≡ Some d
      by true e = e
      by false e = e

  cells_within : (columns : List ℕ) (d q : ℕ) → nodes_in (suc d) q (map shape_of (new_cells columns)) ≡ []
  cells_within [] d q = refl
  cells_within (c ∷ columns) d q = by (test c) (λ k. cells_within columns d k)
    where
      by : (b : Bool) → ((k : ℕ) → nodes_in (suc d) k (map shape_of (new_cells columns)) ≡ []) →
          nodes_in (suc d) q (map shape_of ((if b then [] else new_cell) ++ new_cells columns)) ≡ []
      by true e = e q
      by false e = e (suc (suc (suc (suc q))))

  pub row_is_one : (columns : List ℕ) → OneNode Tr (map shape_of (row_of columns))
  row_is_one columns =
      let C = map shape_of (new_cells columns) in
      let whole : map shape_of (new_cells columns ++ closing_of Tr ∷ []) ≡ C ++ End Tr ∷ [] = map-append shape_of (new_cells columns) (closing_of Tr ∷ []) in
      let inside : (d q : ℕ) → nodes_in (suc d) q (C ++ End Tr ∷ []) ≡ [] =
      λ d q. nodes_through C (End Tr ∷ []) (suc d) q (suc d) (q + length C) (cells_level columns (suc d)) refl ∙ ap (λ v. v ++ []) (cells_within columns d q) in
      record {
        level = λ d. ap (depth_after (suc d)) whole ∙ depth_append C (End Tr ∷ []) (suc d) ∙ ap (λ v. depth_then v (End Tr ∷ [])) (cells_level columns (suc d));
        top = λ q. ap (λ v. record { kind = Tr; from = q } ∷ nodes_in 1 (suc q) v) whole ∙ ap (λ v. record { kind = Tr; from = q } ∷ v) (inside 0 (suc q));
        within = λ d q. ap (nodes_in (suc (suc d)) (suc q)) whole ∙ inside (suc d) (suc q);
      }

  -- each is one row high and one column wide
  pub cells_read : (columns : List ℕ) (q : ℕ) (rest new : List PlainItem) → drop q new ≡ new_cells columns ++ closing_of Tr ∷ rest →
      map (cell_span_at new) (of_kinds cell_kinds (siblings 0 q (new_cells columns ++ closing_of Tr ∷ rest))) ≡ map (λ c. single) (filter (λ column. not (test column)) columns)
  cells_read [] q rest new h = refl
  cells_read (c ∷ columns) q rest new h = by (test c) h (λ k e. cells_read columns k rest new e)
    where
      by : (b : Bool) → drop q new ≡ ((if b then [] else new_cell) ++ new_cells columns) ++ closing_of Tr ∷ rest →
          ((k : ℕ) → drop k new ≡ new_cells columns ++ closing_of Tr ∷ rest →
          map (cell_span_at new) (of_kinds cell_kinds (siblings 0 k (new_cells columns ++ closing_of Tr ∷ rest))) ≡ map (λ c. single) (filter (λ column. not (test column)) columns)) →
          map (cell_span_at new) (of_kinds cell_kinds (siblings 0 q (((if b then [] else new_cell) ++ new_cells columns) ++ closing_of Tr ∷ rest)))
          ≡ map (λ c. single) (cond (not b) (c ∷ filter (λ column. not (test column)) columns) (filter (λ column. not (test column)) columns))
      by true e next = next q e
      by false e next =
          let far : drop (suc (suc (suc (suc q)))) new ≡ new_cells columns ++ closing_of Tr ∷ rest = sym (drop_twice 4 q (suc (suc (suc (suc q)))) new (omega arith)) ∙ ap (drop 4) e in
          let z : q ≡ q + 0 = omega arith in
          let here : slice_get new q ≡ Some (opening_of Td []) = ap (slice_get new) z ∙ sym (get_drop q 0 new) ∙ ap (λ v. slice_get v 0) e in
          (λ i. span_read (here i) ∷ next (suc (suc (suc (suc q)))) far i)

-- A cell that reaches the new row has one row more.
pub span_more : (kind : Kind) (head : Head) (marks : List Mark) (pre : List ℕ) (origin : Option ℕ) (generated : Bool) (rows k row : ℕ) →
    rows ≡ (span_read (Some (Opening kind head marks pre origin generated))).rows → (nat_lt row (k + rows) ≡ true → suc rows ≤ max_row_span) →
    span_read (if nat_lt row (k + rows) then set_in (codes "rowspan") (Some (decimal (suc rows))) (Some (Opening kind head marks pre origin generated)) else Some (Opening kind head marks pre origin generated))
    ≡ span_with row k (span_read (Some (Opening kind head marks pre origin generated)))
span_more kind head marks pre origin generated rows k row e room =
    subst (λ m. span_read (if nat_lt row (k + rows) then set_in (codes "rowspan") (Some (decimal (suc rows))) (Some x) else Some x) ≡ (if nat_lt row (k + m) then record own { rows = suc m } else own)) e
    (by (nat_lt row (k + rows)) refl)
  where
    x : PlainItem
    x = Opening kind head marks pre origin generated

    own : CellSpan
    own = span_read (Some x)

    by : (b : Bool) → nat_lt row (k + rows) ≡ b →
        span_read (if b then set_in (codes "rowspan") (Some (decimal (suc rows))) (Some x) else Some x) ≡ (if b then record own { rows = suc rows } else own)
    by true t = rows_written kind head marks pre origin generated (suc rows) (omega arith) (room t)
    by false t = refl
