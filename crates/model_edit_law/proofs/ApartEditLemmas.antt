-- The items that each edit inserts have names apart.
use Rattle.std.specs.Prelude.{slice_get, filter, flat_map}
use Rattle.std.specs.List.{list_any, range_with_len, enumerate_from}
use Rattle.std.proofs.Common.{◌≡◌, ℕ, zero, suc, ◌-◌, ◌==◌, true, false, not, ◌&&◌, if◌then◌else◌, List, [], ◌∷◌, ◌++◌, length, map, reverse, take, Option, Some, None, Result, Ok, subst}
use Rattle.ve_kinds.specs.declared.kind.Kind.{Kind}
use Rattle.ve_kinds.specs.declared.kind.Kind.TheVariants.{Li, P, Tr}
use Rattle.ve_kinds.specs.Table.{kind_same, is_content_branch, is_element}
use Rattle.ve_base.specs.declared.marks.Mark.{Mark}
use Rattle.model_items.specs.declared.plain_item.PlainItem.{PlainItem}
use Rattle.model_items.specs.declared.plain_item.PlainItem.TheVariants.{Char, Opening, Closing}
use Rattle.model_items.specs.Same.{marks_same}
use Rattle.model_items.specs.Tree.{Open}
use Rattle.model_items.proofs.LawLemmas.{Ok-same}
use Rattle.model_change.specs.Attributes.{NamesApartIn, AllNamesApart, is_reserved}
use Rattle.model_change.specs.Transaction.{Transaction, InsertedApart}
use Rattle.model_edit.specs.Causes.{BuildCause, ListCause, TableCause}
use Rattle.model_edit.specs.Brackets.{opening_of, closing_of, closing_for, copy_of, is_closing_of}
use Rattle.model_items.specs.Offsets.{is_bad_span, openings_at, stack_at, kind_at, opens_at, is_content, partner, end_of_node, is_unmatched, places_in, unmatched_places, passes}
use Rattle.model_edit.specs.Edits.{Edit, Change, Set, transaction_of}
use Rattle.model_edit.specs.Insert.{is_bad_offset, is_mixed, in_paragraph, is_content_pieces, levels_up, reopened, put_into, text_pieces, marks_before, is_bad_depth}
use Rattle.model_edit.specs.Remove.{is_bad_removal, Join, join_at, removal_edits}
use Rattle.model_items.specs.Marks.{with_mark, without_mark}
use Rattle.model_edit.specs.Marking.{is_bad_mark, remarked, item_marks, remark_edit, remark}
use Rattle.model_edit.specs.declared.wrap_plan.Shape.{Shape}
use Rattle.model_edit.specs.Wrap.{is_bad_wrap, openings_of, closings_of, node_edits, nodes_in, wrong_place, wrapped_unless, wrap_edits}
use Rattle.model_edit.specs.Convert.{opens_kind, converted}
use Rattle.model_edit.specs.Lists.{is_list_item, passes_before, list_ends, indent_edits, end_before, copy_at, begin_after, outdent_from}
use Rattle.model_edit.specs.declared.grid_cell.GridCell.{GridCell}
use Rattle.model_edit.specs.Grid.{Grid, TableRow, grid, table_rows, covers_row, covers_column}
use Rattle.model_edit.specs.Tables.{set_rows, set_columns, new_cell, spans_row, spans_column, row_place, new_row, row_in_edits, cell_place, column_edits, whole_node, row_removed, cell_removed, fault_or}
use Rattle.model_edit_law.specs.ApartLaws
use Rattle.model_edit_law.specs.ApartLaws.{inserted_pieces, ShapesApart}
use Rattle.model_edit_law.proofs.ShapeLemmas.{if_ok_else, if_ok_then, marked_is}
use Rattle.model_edit_law.proofs.TableFineLemmas.{fault_or_is, grid_given}
use Rattle.model_edit_law.proofs.ApartLemmas.{AllNamesApart-append, AllNamesApart-take, AllNamesApart-reverse, FoundApart, found_apart, copy_apart, copies_apart, closings_apart, openings_apart, edits_are_apart, pieces_apart-append, pieces_apart-each, pieces_apart-map}

-- one change that is answered
one_change : {E : Type 0} (items new : List PlainItem) (at count : ℕ) (t : Transaction) → AllNamesApart new →
    ◌≡◌ {A = Result Transaction E} (Ok (transaction_of items (Change at count new ∷ []))) (Ok t) → InsertedApart t
one_change {E} items new at count t p h =
    subst InsertedApart (Ok-same {E = E} _ t h) (edits_are_apart items (Change at count new ∷ []) (AllNamesApart-append new [] p tt))

answered : {E : Type 0} (items : List PlainItem) (edits : List Edit) (t : Transaction) → AllNamesApart (inserted_pieces edits) →
    ◌≡◌ {A = Result Transaction E} (Ok (transaction_of items edits)) (Ok t) → InsertedApart t
answered {E} items edits t p h = subst InsertedApart (Ok-same {E = E} _ t h) (edits_are_apart items edits p)

-- insertion, typing and split

reopened_apart : (items : List PlainItem) (at depth : ℕ) (pieces : List PlainItem) → AllNamesApart items → AllNamesApart pieces →
    AllNamesApart (reopened (take depth (openings_at items at)) pieces)
reopened_apart items at depth pieces p q =
    let openings = take depth (openings_at items at) in
    AllNamesApart-append (map closing_for openings) (pieces ++ reverse (map copy_of openings)) (closings_apart openings)
    (AllNamesApart-append pieces (reverse (map copy_of openings)) q
    (copies_apart openings (AllNamesApart-take depth (openings_at items at) (openings_apart items at p))))

paragraph_apart : (parent : Kind) (pieces : List PlainItem) → AllNamesApart pieces → AllNamesApart (in_paragraph parent pieces)
paragraph_apart parent pieces p =
    elim (is_content_pieces pieces && not (is_content_branch parent)) as (λ b. AllNamesApart (if b then opening_of P [] ∷ pieces ++ closing_of P ∷ [] else pieces)) [
      | true ↦ (tt, AllNamesApart-append pieces _ p (tt, tt))
      | false ↦ p
    ]

pub insertion_apart : ApartLaws.InsertionIsApart
insertion_apart items at pieces t apart given h =
    let p = if_ok_else (is_bad_offset items at) _ _ t h in
    let q = if_ok_else (is_mixed pieces) _ _ t p.1 in
    let placed = in_paragraph (kind_at items at) pieces in
    put placed (levels_up placed (stack_at items at)) (paragraph_apart (kind_at items at) pieces given) q.1
  where
    put : (placed : List PlainItem) (o : Option ℕ) → AllNamesApart placed → put_into items at placed o ≡ Ok t → InsertedApart t
    put placed None given h = cc
    put placed (Some j) given h = one_change {E = BuildCause} items (reopened (take j (openings_at items at)) placed) at 0 t (reopened_apart items at j placed apart given) h

text_apart : (marks : List Mark) (text : List ℕ) → AllNamesApart (text_pieces marks text)
text_apart marks [] = tt
text_apart marks (c ∷ text) = (tt, text_apart marks text)

pub typing_apart : ApartLaws.TypingIsApart
typing_apart items at text t apart h = insertion_apart items at (text_pieces (marks_before items at) text) t apart (text_apart (marks_before items at) text) h

pub plain_typing_apart : ApartLaws.PlainTypingIsApart
plain_typing_apart items at text t apart h = insertion_apart items at (text_pieces [] text) t apart (text_apart [] text) h

pub split_apart : ApartLaws.SplitIsApart
split_apart items at depth t apart h =
    let p = if_ok_else (is_bad_offset items at) _ _ t h in
    let q = if_ok_else (not (is_content items at)) _ _ t p.1 in
    let r = if_ok_else (is_bad_depth (stack_at items at) depth) _ _ t q.1 in
    one_change {E = BuildCause} items (reopened (take depth (openings_at items at)) []) at 0 t (reopened_apart items at depth [] apart tt) r.1

-- removal

removal_pieces : (items : List PlainItem) (from to : ℕ) (o : Option Join) → AllNamesApart (inserted_pieces (removal_edits items from to o))
removal_pieces items from to None = pieces_apart-map (λ at. Change at 1 []) (λ at. tt) (filter (λ at. not (is_unmatched items from to at)) (places_in from to))
removal_pieces items from to (Some join) =
    elim (kind_same join.first join.second) as (λ b. AllNamesApart (inserted_pieces (if b then [] else Change join.second_closing 1 (closing_of join.first ∷ []) ∷ [])))
    [ true ↦ tt | false ↦ (tt, tt) ]

pub removal_apart : ApartLaws.RemovalIsApart
removal_apart items from to t h =
    let p = if_ok_else (is_bad_removal items from to) _ _ t h in
    let o = join_at items (unmatched_places items from to) in
    answered {E = BuildCause} items (removal_edits items from to o) t (removal_pieces items from to o) p.1

-- marks, kinds and attributes

remarked_apart : (f : List Mark → List Mark) (item : PlainItem) → NamesApartIn item → NamesApartIn (remarked f item)
remarked_apart f (Char c marks) h = tt
remarked_apart f (Opening kind head marks pre origin generated) h = h
remarked_apart f (Closing kind pre) h = tt

remark_pieces : (f : List Mark → List Mark) (at : ℕ) (o : Option PlainItem) → FoundApart o → AllNamesApart (inserted_pieces (remark_edit f at o))
remark_pieces f at None h = tt
remark_pieces f at (Some item) h =
    elim (marks_same (item_marks (remarked f item)) (item_marks item)) as (λ b. AllNamesApart (inserted_pieces (if b then [] else Change at 1 (remarked f item ∷ []) ∷ [])))
    [ true ↦ tt | false ↦ (remarked_apart f item h, tt) ]

remark_apart : (f : List Mark → List Mark) (items : List PlainItem) (from to : ℕ) → AllNamesApart items → InsertedApart (remark f items from to)
remark_apart f items from to apart =
    edits_are_apart items (flat_map (λ at. remark_edit f at (slice_get items at)) (places_in from to))
    (pieces_apart-each (λ at. remark_edit f at (slice_get items at)) (λ at. remark_pieces f at (slice_get items at) (found_apart items at apart)) (places_in from to))

pub marking_apart : ApartLaws.MarkingIsApart
marking_apart items from to m t apart h =
    let p = if_ok_else (is_bad_span items from to) _ _ t h in
    let q = if_ok_else (is_bad_mark m) _ _ t p.1 in
    subst InsertedApart (marked_is _ _ t q.1) (remark_apart (with_mark m) items from to apart)

pub unmarking_apart : ApartLaws.UnmarkingIsApart
unmarking_apart items from to m t apart h =
    let p = if_ok_else (is_bad_span items from to) _ _ t h in
    let q = if_ok_else (is_bad_mark m) _ _ t p.1 in
    subst InsertedApart (Ok-same {E = BuildCause} _ t q.1) (remark_apart (without_mark m) items from to apart)

converted_apart : (kind : Kind) (o : Option PlainItem) → FoundApart o → AllNamesApart (converted kind o)
converted_apart kind None h = tt
converted_apart kind (Some (Char c marks)) h = tt
converted_apart kind (Some (Opening old head marks pre origin generated)) h = (h, tt)
converted_apart kind (Some (Closing old pre)) h = tt

pub convert_apart : ApartLaws.ConvertIsApart
convert_apart items at kind t apart h =
    let p = if_ok_then (passes (opens_kind is_content_branch) (slice_get items at) && is_content_branch kind) _ _ t h in
    let new = converted kind (slice_get items at) in
    answered {E = BuildCause} items (Change at 1 new ∷ Change (partner items at) 1 (closing_of kind ∷ []) ∷ []) t
    (AllNamesApart-append new (closing_of kind ∷ []) (converted_apart kind (slice_get items at) (found_apart items at apart)) (tt, tt)) p.1

pub attribute_apart : ApartLaws.AttributeIsApart
attribute_apart items at name to t h =
    let p = if_ok_then (passes (opens_kind is_element) (slice_get items at)) _ _ t h in
    let q = if_ok_else (is_reserved name) _ _ t p.1 in
    answered {E = BuildCause} items (Set at name to ∷ []) t tt q.1

-- wrap

openings_of_apart : (shapes : List Shape) → ShapesApart shapes → AllNamesApart (openings_of shapes)
openings_of_apart [] h = tt
openings_of_apart (s ∷ shapes) h = (h.0, openings_of_apart shapes h.1)

closings_of_apart : (shapes : List Shape) → AllNamesApart (closings_of shapes)
closings_of_apart shapes = AllNamesApart-reverse (map (λ (s : Shape). closing_of s.kind) shapes) (each shapes)
  where
    each : (shapes : List Shape) → AllNamesApart (map (λ (s : Shape). closing_of s.kind) shapes)
    each [] = tt
    each (s ∷ shapes) = (tt, each shapes)

node_pieces : (from to count : ℕ) (shapes : List Shape) → ShapesApart shapes → AllNamesApart (inserted_pieces (node_edits from to count shapes))
node_pieces from to count shapes h =
    AllNamesApart-append (openings_of shapes) (closings_of shapes ++ []) (openings_of_apart shapes h)
    (AllNamesApart-append (closings_of shapes) [] (closings_of_apart shapes) tt)

pub wrap_apart : ApartLaws.WrapIsApart
wrap_apart items from to plan t given h =
    let p = if_ok_else (is_bad_wrap items from to) _ _ t h in
    made (wrong_place items from to plan.unwrap_outer plan.unwrap_each) p.1
  where
    pieces : AllNamesApart (inserted_pieces (wrap_edits items from to plan))
    pieces =
        let each = flat_map (λ (node : Open). node_edits node.from (end_of_node items node.from) (length plan.unwrap_each) plan.wrap_each) (nodes_in items from to) in
        let last = Change to (length plan.unwrap_outer) (closings_of plan.wrap_outer) ∷ [] in
        AllNamesApart-append (openings_of plan.wrap_outer) (inserted_pieces (each ++ last)) (openings_of_apart plan.wrap_outer given.0)
        (pieces_apart-append each last
        (pieces_apart-each (λ (node : Open). node_edits node.from (end_of_node items node.from) (length plan.unwrap_each) plan.wrap_each)
        (λ (node : Open). node_pieces node.from (end_of_node items node.from) (length plan.unwrap_each) plan.wrap_each given.1) (nodes_in items from to))
        (AllNamesApart-append (closings_of plan.wrap_outer) [] (closings_of_apart plan.wrap_outer) tt))

    made : (o : Option ℕ) → wrapped_unless o (transaction_of items (wrap_edits items from to plan)) ≡ Ok t → InsertedApart t
    made (Some at) h = cc
    made None h = answered {E = BuildCause} items (wrap_edits items from to plan) t pieces h

-- list items

indent_pieces : (items : List PlainItem) (at : ℕ) (kind : Kind) → AllNamesApart (inserted_pieces (indent_edits items at kind))
indent_pieces items at kind =
    elim (passes_before (is_closing_of kind) items (at - 1)) as (λ b. AllNamesApart (inserted_pieces
    ((if b then Change (at - 2) 2 [] else Change (at - 1) 1 (opening_of kind [] ∷ [])) ∷ Change (end_of_node items at) 0 (list_ends kind) ∷ [])))
    [ true ↦ (tt, (tt, tt)) | false ↦ (tt, (tt, (tt, tt))) ]

pub indent_apart : ApartLaws.IndentIsApart
indent_apart items at t h =
    let p = if_ok_then (is_list_item items at) _ _ t h in
    let q = if_ok_then (passes_before (is_closing_of Li) items at) _ _ t p.1 in
    answered {E = ListCause} items (indent_edits items at (kind_at items at)) t (indent_pieces items at (kind_at items at)) q.1

copy_at_apart : (items : List PlainItem) (at : ℕ) → AllNamesApart items → AllNamesApart (copy_at items at)
copy_at_apart [] at h = tt
copy_at_apart (x ∷ items) zero h = (copy_apart x h.0, tt)
copy_at_apart (x ∷ items) (suc at) h = copy_at_apart items at h.1

end_pieces : (at : ℕ) (list : Open) → AllNamesApart (inserted_pieces (end_before at list ∷ []))
end_pieces at list =
    elim (suc list.from == at) as (λ b. AllNamesApart (inserted_pieces ((if b then Change list.from 1 (closing_of Li ∷ []) else Change at 0 (list_ends list.kind)) ∷ [])))
    [ true ↦ (tt, tt) | false ↦ (tt, (tt, tt)) ]

begin_pieces : (items : List PlainItem) (closing : ℕ) (list : Open) → AllNamesApart items → AllNamesApart (inserted_pieces (begin_after items closing list ∷ []))
begin_pieces items closing list h =
    elim (partner items list.from == suc closing) as (λ b. AllNamesApart (inserted_pieces ((if b then Change closing 2 [] else Change closing 1 (copy_at items list.from)) ∷ [])))
    [ true ↦ tt | false ↦ AllNamesApart-append (copy_at items list.from) [] (copy_at_apart items list.from h) tt ]

pub outdent_apart : ApartLaws.OutdentIsApart
outdent_apart items at t apart h = nested (opens_at items at) (if_ok_then (is_list_item items at) _ _ t h).1
  where
    nested : (nodes : List Open) → outdent_from items at nodes ≡ Ok t → InsertedApart t
    nested [] h = cc
    nested (list ∷ []) h = cc
    nested (list ∷ outer ∷ others) h =
        answered {E = ListCause} items (end_before at list ∷ begin_after items (partner items at) list ∷ []) t
        (pieces_apart-append (end_before at list ∷ []) (begin_after items (partner items at) list ∷ []) (end_pieces at list) (begin_pieces items (partner items at) list apart))
        (if_ok_then (kind_same outer.kind Li) _ _ t h).1

-- tables

on_answer : (items : List PlainItem) (edits : List Edit) (o : Option TableCause) (t : Transaction) → AllNamesApart (inserted_pieces edits) →
    fault_or o (transaction_of items edits) ≡ Ok t → InsertedApart t
on_answer items edits o t p h = subst InsertedApart (fault_or_is o (transaction_of items edits) t h) (edits_are_apart items edits p)

new_row_apart : (g : Grid) (row : ℕ) → AllNamesApart (new_row g row)
new_row_apart g row = (tt, AllNamesApart-append _ (closing_of Tr ∷ []) (cells (range_with_len 0 g.columns)) (tt, tt))
  where
    cells : (columns : List ℕ) → AllNamesApart (flat_map (λ column. if list_any (λ c. spans_row row c && covers_column c column) g.cells then [] else new_cell) columns)
    cells [] = tt
    cells (column ∷ columns) =
        AllNamesApart-append _ (flat_map (λ column. if list_any (λ c. spans_row row c && covers_column c column) g.cells then [] else new_cell) columns)
        (elim (list_any (λ c. spans_row row c && covers_column c column) g.cells) as (λ b. AllNamesApart (if b then [] else new_cell)) [ true ↦ tt | false ↦ (tt, (tt, (tt, (tt, tt)))) ])
        (cells columns)

pub row_in_apart : ApartLaws.RowInIsApart
row_in_apart items at row t h =
    let p = grid_given (grid items at) _ t h in
    let g = p.0 in
    let grown = filter (spans_row row) g.cells in
    let new = Change (row_place items (table_rows items at) row) 0 (new_row g row) ∷ [] in
    on_answer items (row_in_edits items (table_rows items at) row g) _ t
    (pieces_apart-append (map (λ (c : GridCell). set_rows (suc c.rows) c) grown) new
    (pieces_apart-map (λ (c : GridCell). set_rows (suc c.rows) c) (λ c. tt) grown)
    (AllNamesApart-append (new_row g row) [] (new_row_apart g row) tt)) p.2

column_pieces : (items : List PlainItem) (column : ℕ) (g : Grid) (at : ℕ × TableRow) → AllNamesApart (inserted_pieces (column_edits items column g at))
column_pieces items column g (index, row) =
    let cells = filter (λ (c : GridCell). c.row == index) g.cells in
    let grown = filter (spans_column column) cells in
    pieces_apart-append (map (λ (c : GridCell). set_columns (suc c.columns) c) grown) _
    (pieces_apart-map (λ (c : GridCell). set_columns (suc c.columns) c) (λ c. tt) grown)
    (elim (list_any (λ c. spans_column column c && covers_row c index) g.cells) as (λ b. AllNamesApart (inserted_pieces (if b then [] else Change (cell_place items row column cells) 0 new_cell ∷ [])))
    [ true ↦ tt | false ↦ (tt, (tt, (tt, (tt, tt)))) ])

pub col_in_apart : ApartLaws.ColInIsApart
col_in_apart items at column t h =
    let p = grid_given (grid items at) _ t h in
    let rows = enumerate_from 0 (table_rows items at) in
    on_answer items (flat_map (column_edits items column p.0) rows) _ t
    (pieces_apart-each (column_edits items column p.0) (column_pieces items column p.0) rows) p.2

removed_pieces : (items : List PlainItem) (o : Option TableRow) → AllNamesApart (inserted_pieces (row_removed items o))
removed_pieces items None = tt
removed_pieces items (Some row) = tt

pub row_out_apart : ApartLaws.RowOutIsApart
row_out_apart items at row t h =
    let p = grid_given (grid items at) _ t h in
    let shrunk = filter (spans_row row) p.0.cells in
    let gone = row_removed items (slice_get (table_rows items at) row) in
    on_answer items (map (λ (c : GridCell). set_rows (c.rows - 1) c) shrunk ++ gone) _ t
    (pieces_apart-append (map (λ (c : GridCell). set_rows (c.rows - 1) c) shrunk) gone
    (pieces_apart-map (λ (c : GridCell). set_rows (c.rows - 1) c) (λ c. tt) shrunk)
    (removed_pieces items (slice_get (table_rows items at) row))) p.2

cell_pieces : (items : List PlainItem) (cell : GridCell) → AllNamesApart (inserted_pieces (cell_removed items cell ∷ []))
cell_pieces items cell =
    elim (cell.columns == 1) as (λ b. AllNamesApart (inserted_pieces ((if b then whole_node items cell.at else set_columns (cell.columns - 1) cell) ∷ [])))
    [ true ↦ tt | false ↦ tt ]

pub col_out_apart : ApartLaws.ColOutIsApart
col_out_apart items at column t h =
    let p = grid_given (grid items at) _ t h in
    let cells = filter (λ (c : GridCell). covers_column c column) p.0.cells in
    on_answer items (map (cell_removed items) cells) _ t (pieces_apart-map (cell_removed items) (cell_pieces items) cells) p.2
