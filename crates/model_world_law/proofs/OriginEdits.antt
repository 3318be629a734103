-- Each opening with an origin that an edit inserts is one that the page was read with, where those of
-- the list are: what is made new has no origin, and marks change no kind and no head.
use Rattle.std.specs.Prelude.{filter, flat_map, slice_get}
use Rattle.std.specs.List.{enumerate_from, list_any, range_with_len}
use Rattle.std.proofs.Common.{◌≡◌, ℕ, zero, suc, ◌-◌, ◌==◌, true, false, not, ◌&&◌, if◌then◌else◌, List, [], ◌∷◌, ◌++◌, length, map, reverse, take, Option, Some, None, Result, Ok, refl, sym, subst}
use Rattle.std.proofs.lemmas.Grind.{reverse_onto}
use Rattle.ve_base.specs.declared.marks.Mark.{Mark}
use Rattle.ve_kinds.specs.declared.kind.Kind.{Kind}
use Rattle.ve_kinds.specs.declared.kind.Kind.TheVariants.{Li, P, Tr}
use Rattle.ve_kinds.specs.Table.{is_content_branch, is_element, kind_same}
use Rattle.model_items.specs.declared.plain_item.PlainItem.{PlainItem}
use Rattle.model_items.specs.declared.plain_item.PlainItem.TheVariants.{Char, Closing, Opening}
use Rattle.model_items.specs.Marks.{with_mark, without_mark}
use Rattle.model_items.specs.Offsets.{end_of_node, is_bad_span, is_unmatched, kind_at, openings_at, opens_at, partner, passes, places_in, stack_at, unmatched_places}
use Rattle.model_items.specs.Same.{marks_same}
use Rattle.model_items.specs.Tree.{Open}
use Rattle.model_items.proofs.LawLemmas.{Ok-same}
use Rattle.model_change.specs.Attributes.{is_reserved}
use Rattle.model_change.specs.Transaction.{Transaction, all_inserted}
use Rattle.model_edit.specs.Brackets.{closing_for, closing_of, copy_of, is_closing_of, opening_of}
use Rattle.model_edit.specs.Causes.{BuildCause, ListCause, TableCause}
use Rattle.model_edit.specs.Convert.{attribute, convert, converted, opens_kind}
use Rattle.model_edit.specs.Edits.{Change, Edit, Set, transaction_of}
use Rattle.model_edit.specs.Grid.{Grid, TableRow, covers_column, covers_row, grid, table_rows}
use Rattle.model_edit.specs.Insert.{in_paragraph, insertion, is_bad_depth, is_bad_offset, is_content_pieces, is_mixed, levels_up, put_into, reopened, split, text_pieces}
use Rattle.model_edit.specs.Lists.{begin_after, copy_at, end_before, indent, indent_edits, is_list_item, list_ends, outdent, outdent_from, passes_before}
use Rattle.model_edit.specs.Marking.{is_bad_mark, item_marks, marking, remark_edit, remarked, unmarking}
use Rattle.model_edit.specs.Remove.{Join, is_bad_removal, join_at, removal, removal_edits}
use Rattle.model_edit.specs.Tables.{cell_place, cell_removed, col_in, col_out, column_edits, fault_or, new_cell, new_row, row_in, row_in_edits, row_out, row_place, row_removed, set_columns, set_rows, spans_column, spans_row, whole_node}
use Rattle.model_edit.specs.Wrap.{closings_of, is_bad_wrap, node_edits, nodes_in, openings_of, wrap, wrap_edits, wrapped_unless, wrong_place}
use Rattle.model_edit.specs.declared.grid_cell.GridCell.{GridCell}
use Rattle.model_edit.specs.declared.wrap_plan.Shape.{Shape}
use Rattle.model_edit.specs.declared.wrap_plan.WrapPlan.{WrapPlan}
use Rattle.model_edit_law.specs.ApartLaws.{inserted_pieces}
use Rattle.model_edit_law.proofs.ApartLemmas.{edits_insert_pieces}
use Rattle.model_edit_law.proofs.ShapeLemmas.{if_ok_else, if_ok_then, marked_is}
use Rattle.model_edit_law.proofs.TableFineLemmas.{fault_or_is, grid_given}
use Rattle.model_site_law.specs.ItemLaws.{AllPass}
use Rattle.model_world_law.specs.PutBack.{has_first}

module _ (opened : List PlainItem) where
  abbrev pub AllFirst : List PlainItem → Type 0
  AllFirst items = AllPass (has_first opened) items

  abbrev PiecesFirst : List Edit → Type 0
  PiecesFirst edits = AllFirst (inserted_pieces edits)

  pub first-append : (xs ys : List PlainItem) → AllFirst xs → AllFirst ys → AllFirst (xs ++ ys)
  first-append [] ys p q = q
  first-append (x ∷ xs) ys p q = (p.0, first-append xs ys p.1 q)

  first-reverse : (items : List PlainItem) → AllFirst items → AllFirst (reverse items)
  first-reverse [] p = tt
  first-reverse (x ∷ items) p = subst AllFirst (sym (reverse_onto items x [])) (first-append (reverse items) (x ∷ []) (first-reverse items p.1) (p.0, tt))

  abbrev FoundFirst : Option PlainItem → Type 0
  FoundFirst None = Unit {0}
  FoundFirst (Some item) = has_first opened item ≡ true

  found_first : (items : List PlainItem) (n : ℕ) → AllFirst items → FoundFirst (slice_get items n)
  found_first [] n p = tt
  found_first (x ∷ items) zero p = p.0
  found_first (x ∷ items) (suc n) p = found_first items n p.1

  -- ---- lists of edits

  first_pieces-append : (xs ys : List Edit) → PiecesFirst xs → PiecesFirst ys → PiecesFirst (xs ++ ys)
  first_pieces-append [] ys p q = q
  first_pieces-append (Change place count inserted ∷ xs) ys p q =
      let parts = cut inserted (inserted_pieces xs) p in first-append inserted (inserted_pieces (xs ++ ys)) parts.0 (first_pieces-append xs ys parts.1 q)
    where
      cut : (xs ys : List PlainItem) → AllFirst (xs ++ ys) → AllFirst xs × AllFirst ys
      cut [] ys p = (tt, p)
      cut (x ∷ xs) ys p = let r = cut xs ys p.1 in ((p.0, r.0), r.1)
  first_pieces-append (Set place name to ∷ xs) ys p q = first_pieces-append xs ys p q

  first_pieces-each : {A : Type 0} (f : A → List Edit) → ((x : A) → PiecesFirst (f x)) → (xs : List A) → PiecesFirst (flat_map f xs)
  first_pieces-each f h [] = tt
  first_pieces-each f h (x ∷ xs) = first_pieces-append (f x) (flat_map f xs) (h x) (first_pieces-each f h xs)

  first_pieces-map : {A : Type 0} (f : A → Edit) → ((x : A) → PiecesFirst (f x ∷ [])) → (xs : List A) → PiecesFirst (map f xs)
  first_pieces-map f h [] = tt
  first_pieces-map f h (x ∷ xs) = first_pieces-append (f x ∷ []) (map f xs) (h x) (first_pieces-map f h xs)

  edits_first : (items : List PlainItem) (edits : List Edit) → PiecesFirst edits → AllFirst (all_inserted (transaction_of items edits))
  edits_first items edits p = subst AllFirst (sym (edits_insert_pieces items edits)) p

  answered : {E : Type 0} (items : List PlainItem) (edits : List Edit) (t : Transaction) → PiecesFirst edits → ◌≡◌ {A = Result Transaction E} (Ok (transaction_of items edits)) (Ok t) → AllFirst (all_inserted t)
  answered {E} items edits t p h = subst (λ v. AllFirst (all_inserted v)) (Ok-same {E = E} _ t h) (edits_first items edits p)

  one_change : {E : Type 0} (items new : List PlainItem) (at count : ℕ) (t : Transaction) → AllFirst new → ◌≡◌ {A = Result Transaction E} (Ok (transaction_of items (Change at count new ∷ []))) (Ok t) → AllFirst (all_inserted t)
  one_change {E} items new at count t p h = answered {E = E} items (Change at count new ∷ []) t (first-append new [] p tt) h

  -- ---- insertion and split

  closing_first : (item : PlainItem) → has_first opened (closing_for item) ≡ true
  closing_first (Char c marks) = refl
  closing_first (Opening kind head marks pre origin generated) = refl
  closing_first (Closing kind pre) = refl

  copy_first : (item : PlainItem) → has_first opened (copy_of item) ≡ true
  copy_first (Char c marks) = refl
  copy_first (Opening kind head marks pre origin generated) = refl
  copy_first (Closing kind pre) = refl

  each_first : (f : PlainItem → PlainItem) → ((item : PlainItem) → has_first opened (f item) ≡ true) → (items : List PlainItem) → AllFirst (map f items)
  each_first f h [] = tt
  each_first f h (x ∷ items) = (h x, each_first f h items)

  reopened_first : (openings pieces : List PlainItem) → AllFirst pieces → AllFirst (reopened openings pieces)
  reopened_first openings pieces p =
      first-append (map closing_for openings) (pieces ++ reverse (map copy_of openings)) (each_first closing_for closing_first openings)
      (first-append pieces (reverse (map copy_of openings)) p (first-reverse (map copy_of openings) (each_first copy_of copy_first openings)))

  paragraph_first : (parent : Kind) (pieces : List PlainItem) → AllFirst pieces → AllFirst (in_paragraph parent pieces)
  paragraph_first parent pieces p =
      elim (is_content_pieces pieces && not (is_content_branch parent)) as (λ b. AllFirst (if b then opening_of P [] ∷ pieces ++ closing_of P ∷ [] else pieces)) [
        | true ↦ (refl, first-append pieces (closing_of P ∷ []) p (refl, tt))
        | false ↦ p
      ]

  pub insertion_first : (items : List PlainItem) (at : ℕ) (pieces : List PlainItem) (t : Transaction) → AllFirst pieces → insertion items at pieces ≡ Ok t → AllFirst (all_inserted t)
  insertion_first items at pieces t given h =
      let p = if_ok_else (is_bad_offset items at) _ _ t h in
      let q = if_ok_else (is_mixed pieces) _ _ t p.1 in
      let placed = in_paragraph (kind_at items at) pieces in
      put placed (levels_up placed (stack_at items at)) (paragraph_first (kind_at items at) pieces given) q.1
    where
      put : (placed : List PlainItem) (o : Option ℕ) → AllFirst placed → put_into items at placed o ≡ Ok t → AllFirst (all_inserted t)
      put placed None given h = cc
      put placed (Some j) given h =
          one_change {E = BuildCause} items (reopened (take j (openings_at items at)) placed) at 0 t (reopened_first (take j (openings_at items at)) placed given) h

  pub text_first : (marks : List Mark) (text : List ℕ) → AllFirst (text_pieces marks text)
  text_first marks [] = tt
  text_first marks (c ∷ text) = (refl, text_first marks text)

  pub split_first : (items : List PlainItem) (at depth : ℕ) (t : Transaction) → split items at depth ≡ Ok t → AllFirst (all_inserted t)
  split_first items at depth t h =
      let p = if_ok_else (is_bad_offset items at) _ _ t h in
      let q = if_ok_else (not (Rattle.model_items.specs.Offsets.is_content items at)) _ _ t p.1 in
      let r = if_ok_else (is_bad_depth (stack_at items at) depth) _ _ t q.1 in
      one_change {E = BuildCause} items (reopened (take depth (openings_at items at)) []) at 0 t (reopened_first (take depth (openings_at items at)) [] tt) r.1

  -- ---- removal

  removal_first_pieces : (items : List PlainItem) (from to : ℕ) (o : Option Join) → PiecesFirst (removal_edits items from to o)
  removal_first_pieces items from to None = first_pieces-map (λ at. Change at 1 []) (λ at. tt) (filter (λ at. not (is_unmatched items from to at)) (places_in from to))
  removal_first_pieces items from to (Some join) =
      elim (kind_same join.first join.second) as (λ b. PiecesFirst (if b then [] else Change join.second_closing 1 (closing_of join.first ∷ []) ∷ []))
      [ true ↦ tt | false ↦ (refl, tt) ]

  pub removal_first : (items : List PlainItem) (from to : ℕ) (t : Transaction) → removal items from to ≡ Ok t → AllFirst (all_inserted t)
  removal_first items from to t h =
      let p = if_ok_else (is_bad_removal items from to) _ _ t h in
      let o = join_at items (unmatched_places items from to) in
      answered {E = BuildCause} items (removal_edits items from to o) t (removal_first_pieces items from to o) p.1

  -- ---- marks, kinds and attributes

  remarked_first : (f : List Mark → List Mark) (item : PlainItem) → has_first opened item ≡ true → has_first opened (remarked f item) ≡ true
  remarked_first f (Char c marks) h = refl
  remarked_first f (Opening kind head marks pre None generated) h = refl
  remarked_first f (Opening kind head marks pre (Some origin) generated) h = h
  remarked_first f (Closing kind pre) h = refl

  remark_first_pieces : (f : List Mark → List Mark) (at : ℕ) (o : Option PlainItem) → FoundFirst o → PiecesFirst (remark_edit f at o)
  remark_first_pieces f at None h = tt
  remark_first_pieces f at (Some item) h =
      elim (marks_same (item_marks (remarked f item)) (item_marks item)) as (λ b. PiecesFirst (if b then [] else Change at 1 (remarked f item ∷ []) ∷ []))
      [ true ↦ tt | false ↦ (remarked_first f item h, tt) ]

  remark_first : (f : List Mark → List Mark) (items : List PlainItem) (places : List ℕ) → AllFirst items → PiecesFirst (flat_map (λ at. remark_edit f at (slice_get items at)) places)
  remark_first f items places p = first_pieces-each (λ at. remark_edit f at (slice_get items at)) (λ at. remark_first_pieces f at (slice_get items at) (found_first items at p)) places

  pub marking_first : (items : List PlainItem) (from to : ℕ) (m : Mark) (t : Transaction) → AllFirst items → marking items from to m ≡ Ok t → AllFirst (all_inserted t)
  marking_first items from to m t p h =
      let a = if_ok_else (is_bad_span items from to) _ _ t h in
      let b = if_ok_else (is_bad_mark m) _ _ t a.1 in
      subst (λ v. AllFirst (all_inserted v)) (marked_is _ _ t b.1)
      (edits_first items (flat_map (λ at. remark_edit (with_mark m) at (slice_get items at)) (places_in from to)) (remark_first (with_mark m) items (places_in from to) p))

  pub unmarking_first : (items : List PlainItem) (from to : ℕ) (m : Mark) (t : Transaction) → AllFirst items → unmarking items from to m ≡ Ok t → AllFirst (all_inserted t)
  unmarking_first items from to m t p h =
      let a = if_ok_else (is_bad_span items from to) _ _ t h in
      let b = if_ok_else (is_bad_mark m) _ _ t a.1 in
      subst (λ v. AllFirst (all_inserted v)) (Ok-same {E = BuildCause} _ t b.1)
      (edits_first items (flat_map (λ at. remark_edit (without_mark m) at (slice_get items at)) (places_in from to)) (remark_first (without_mark m) items (places_in from to) p))

  converted_first : (kind : Kind) (o : Option PlainItem) → AllFirst (converted kind o)
  converted_first kind None = tt
  converted_first kind (Some (Char c marks)) = tt
  converted_first kind (Some (Closing old pre)) = tt
  converted_first kind (Some (Opening old head marks pre origin generated)) = (refl, tt)

  pub convert_first : (items : List PlainItem) (at : ℕ) (kind : Kind) (t : Transaction) → convert items at kind ≡ Ok t → AllFirst (all_inserted t)
  convert_first items at kind t h =
      let a = if_ok_then (passes (opens_kind is_content_branch) (slice_get items at) && is_content_branch kind) _ _ t h in
      let new = converted kind (slice_get items at) in
      answered {E = BuildCause} items (Change at 1 new ∷ Change (partner items at) 1 (closing_of kind ∷ []) ∷ []) t
      (first-append new (closing_of kind ∷ []) (converted_first kind (slice_get items at)) (refl, tt)) a.1

  pub attribute_first : (items : List PlainItem) (at : ℕ) (name : List ℕ) (to : Option (List ℕ)) (t : Transaction) → attribute items at name to ≡ Ok t → AllFirst (all_inserted t)
  attribute_first items at name to t h =
      let a = if_ok_then (passes (opens_kind is_element) (slice_get items at)) _ _ t h in
      let b = if_ok_else (is_reserved name) _ _ t a.1 in
      answered {E = BuildCause} items (Set at name to ∷ []) t tt b.1

  -- ---- wrap

  openings_first : (shapes : List Shape) → AllFirst (openings_of shapes)
  openings_first [] = tt
  openings_first (s ∷ shapes) = (refl, openings_first shapes)

  closings_first : (shapes : List Shape) → AllFirst (closings_of shapes)
  closings_first shapes = first-reverse (map (λ (s : Shape). closing_of s.kind) shapes) (each shapes)
    where
      each : (shapes : List Shape) → AllFirst (map (λ (s : Shape). closing_of s.kind) shapes)
      each [] = tt
      each (s ∷ shapes) = (refl, each shapes)

  node_first_pieces : (from to count : ℕ) (shapes : List Shape) → PiecesFirst (node_edits from to count shapes)
  node_first_pieces from to count shapes =
      first-append (openings_of shapes) (closings_of shapes ++ []) (openings_first shapes) (first-append (closings_of shapes) [] (closings_first shapes) tt)

  pub wrap_first : (items : List PlainItem) (from to : ℕ) (plan : WrapPlan) (t : Transaction) → wrap items from to plan ≡ Ok t → AllFirst (all_inserted t)
  wrap_first items from to plan t h =
      let p = if_ok_else (is_bad_wrap items from to) _ _ t h in
      made (wrong_place items from to plan.unwrap_outer plan.unwrap_each) p.1
    where
      pieces : PiecesFirst (wrap_edits items from to plan)
      pieces =
          let f : Open → List Edit = λ node. node_edits node.from (end_of_node items node.from) (length plan.unwrap_each) plan.wrap_each in
          let each = flat_map f (nodes_in items from to) in
          let last = Change to (length plan.unwrap_outer) (closings_of plan.wrap_outer) ∷ [] in
          first-append (openings_of plan.wrap_outer) (inserted_pieces (each ++ last)) (openings_first plan.wrap_outer)
          (first_pieces-append each last
          (first_pieces-each f (λ (node : Open). node_first_pieces node.from (end_of_node items node.from) (length plan.unwrap_each) plan.wrap_each) (nodes_in items from to))
          (first-append (closings_of plan.wrap_outer) [] (closings_first plan.wrap_outer) tt))

      made : (o : Option ℕ) → wrapped_unless o (transaction_of items (wrap_edits items from to plan)) ≡ Ok t → AllFirst (all_inserted t)
      made (Some at) h = cc
      made None h = answered {E = BuildCause} items (wrap_edits items from to plan) t pieces h

  -- ---- list items

  indent_first_pieces : (items : List PlainItem) (at : ℕ) (kind : Kind) → PiecesFirst (indent_edits items at kind)
  indent_first_pieces items at kind =
      elim (passes_before (is_closing_of kind) items (at - 1)) as (λ b. PiecesFirst
      ((if b then Change (at - 2) 2 [] else Change (at - 1) 1 (opening_of kind [] ∷ [])) ∷ Change (end_of_node items at) 0 (list_ends kind) ∷ []))
      [ true ↦ (refl, (refl, tt)) | false ↦ (refl, (refl, (refl, tt))) ]

  pub indent_first : (items : List PlainItem) (at : ℕ) (t : Transaction) → indent items at ≡ Ok t → AllFirst (all_inserted t)
  indent_first items at t h =
      let p = if_ok_then (is_list_item items at) _ _ t h in
      let q = if_ok_then (passes_before (is_closing_of Li) items at) _ _ t p.1 in
      answered {E = ListCause} items (indent_edits items at (kind_at items at)) t (indent_first_pieces items at (kind_at items at)) q.1

  end_first_pieces : (at : ℕ) (list : Open) → PiecesFirst (end_before at list ∷ [])
  end_first_pieces at list =
      elim (suc list.from == at) as (λ b. PiecesFirst ((if b then Change list.from 1 (closing_of Li ∷ []) else Change at 0 (list_ends list.kind)) ∷ []))
      [ true ↦ (refl, tt) | false ↦ (refl, (refl, tt)) ]

  copy_at_first : (items : List PlainItem) (from : ℕ) → AllFirst (copy_at items from)
  copy_at_first [] from = tt
  copy_at_first (x ∷ items) zero = (copy_first x, tt)
  copy_at_first (x ∷ items) (suc from) = copy_at_first items from

  begin_first_pieces : (items : List PlainItem) (closing : ℕ) (list : Open) → PiecesFirst (begin_after items closing list ∷ [])
  begin_first_pieces items closing list =
      elim (partner items list.from == suc closing) as (λ b. PiecesFirst ((if b then Change closing 2 [] else Change closing 1 (copy_at items list.from)) ∷ []))
      [ true ↦ tt | false ↦ first-append (copy_at items list.from) [] (copy_at_first items list.from) tt ]

  pub outdent_first : (items : List PlainItem) (at : ℕ) (t : Transaction) → outdent items at ≡ Ok t → AllFirst (all_inserted t)
  outdent_first items at t h =
      let p = if_ok_then (is_list_item items at) _ _ t h in
      nested (opens_at items at) p.1
    where
      nested : (nodes : List Open) → outdent_from items at nodes ≡ Ok t → AllFirst (all_inserted t)
      nested [] h = cc
      nested (list ∷ []) h = cc
      nested (list ∷ outer ∷ rest) h =
          answered {E = ListCause} items (end_before at list ∷ begin_after items (partner items at) list ∷ []) t
          (first_pieces-append (end_before at list ∷ []) (begin_after items (partner items at) list ∷ []) (end_first_pieces at list) (begin_first_pieces items (partner items at) list))
          (if_ok_then (kind_same outer.kind Li) _ _ t h).1

  -- ---- tables

  on_answer : (items : List PlainItem) (edits : List Edit) (o : Option TableCause) (t : Transaction) → PiecesFirst edits → fault_or o (transaction_of items edits) ≡ Ok t → AllFirst (all_inserted t)
  on_answer items edits o t p h = subst (λ v. AllFirst (all_inserted v)) (fault_or_is o (transaction_of items edits) t h) (edits_first items edits p)

  new_row_first : (g : Grid) (row : ℕ) → AllFirst (new_row g row)
  new_row_first g row = (refl, first-append _ (closing_of Tr ∷ []) (cells (range_with_len 0 g.columns)) (refl, tt))
    where
      cells : (columns : List ℕ) → AllFirst (flat_map (λ column. if list_any (λ c. spans_row row c && covers_column c column) g.cells then [] else new_cell) columns)
      cells [] = tt
      cells (column ∷ columns) =
          first-append _ (flat_map (λ column. if list_any (λ c. spans_row row c && covers_column c column) g.cells then [] else new_cell) columns)
          (elim (list_any (λ c. spans_row row c && covers_column c column) g.cells) as (λ b. AllFirst (if b then [] else new_cell)) [ true ↦ tt | false ↦ (refl, (refl, (refl, (refl, tt)))) ])
          (cells columns)

  pub row_in_first : (items : List PlainItem) (at row : ℕ) (t : Transaction) → row_in items at row ≡ Ok t → AllFirst (all_inserted t)
  row_in_first items at row t h =
      let p = grid_given (grid items at) _ t h in
      let g = p.0 in
      let grown = filter (spans_row row) g.cells in
      let new = Change (row_place items (table_rows items at) row) 0 (new_row g row) ∷ [] in
      on_answer items (row_in_edits items (table_rows items at) row g) _ t
      (first_pieces-append (map (λ (c : GridCell). set_rows (suc c.rows) c) grown) new
      (first_pieces-map (λ (c : GridCell). set_rows (suc c.rows) c) (λ c. tt) grown)
      (first-append (new_row g row) [] (new_row_first g row) tt)) p.2

  column_first_pieces : (items : List PlainItem) (column : ℕ) (g : Grid) (at : ℕ × TableRow) → PiecesFirst (column_edits items column g at)
  column_first_pieces items column g (index, row) =
      let cells = filter (λ (c : GridCell). c.row == index) g.cells in
      let grown = filter (spans_column column) cells in
      first_pieces-append (map (λ (c : GridCell). set_columns (suc c.columns) c) grown) _
      (first_pieces-map (λ (c : GridCell). set_columns (suc c.columns) c) (λ c. tt) grown)
      (elim (list_any (λ c. spans_column column c && covers_row c index) g.cells) as (λ b. PiecesFirst (if b then [] else Change (cell_place items row column cells) 0 new_cell ∷ []))
      [ true ↦ tt | false ↦ (refl, (refl, (refl, (refl, tt)))) ])

  pub col_in_first : (items : List PlainItem) (at column : ℕ) (t : Transaction) → col_in items at column ≡ Ok t → AllFirst (all_inserted t)
  col_in_first items at column t h =
      let p = grid_given (grid items at) _ t h in
      let rows = enumerate_from 0 (table_rows items at) in
      on_answer items (flat_map (column_edits items column p.0) rows) _ t (first_pieces-each (column_edits items column p.0) (column_first_pieces items column p.0) rows) p.2

  removed_first_pieces : (items : List PlainItem) (o : Option TableRow) → PiecesFirst (row_removed items o)
  removed_first_pieces items None = tt
  removed_first_pieces items (Some row) = tt

  pub row_out_first : (items : List PlainItem) (at row : ℕ) (t : Transaction) → row_out items at row ≡ Ok t → AllFirst (all_inserted t)
  row_out_first items at row t h =
      let p = grid_given (grid items at) _ t h in
      let shrunk = filter (spans_row row) p.0.cells in
      let gone = row_removed items (slice_get (table_rows items at) row) in
      on_answer items (map (λ (c : GridCell). set_rows (c.rows - 1) c) shrunk ++ gone) _ t
      (first_pieces-append (map (λ (c : GridCell). set_rows (c.rows - 1) c) shrunk) gone
      (first_pieces-map (λ (c : GridCell). set_rows (c.rows - 1) c) (λ c. tt) shrunk)
      (removed_first_pieces items (slice_get (table_rows items at) row))) p.2

  cell_first_pieces : (items : List PlainItem) (cell : GridCell) → PiecesFirst (cell_removed items cell ∷ [])
  cell_first_pieces items cell =
      elim (cell.columns == 1) as (λ b. PiecesFirst ((if b then whole_node items cell.at else set_columns (cell.columns - 1) cell) ∷ []))
      [ true ↦ tt | false ↦ tt ]

  pub col_out_first : (items : List PlainItem) (at column : ℕ) (t : Transaction) → col_out items at column ≡ Ok t → AllFirst (all_inserted t)
  col_out_first items at column t h =
      let p = grid_given (grid items at) _ t h in
      let cells = filter (λ (c : GridCell). covers_column c column) p.0.cells in
      on_answer items (map (cell_removed items) cells) _ t (first_pieces-map (cell_removed items) (cell_first_pieces items) cells) p.2
