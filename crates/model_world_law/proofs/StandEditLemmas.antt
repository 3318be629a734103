-- The items that each edit inserts may stand, where the list's items may and those that are given.
use Rattle.std.specs.Prelude.{codes, filter, find, flat_map, nat_le, nat_lt, slice_get}
use Rattle.std.specs.List.{AllByRecursion, enumerate_from, list_all, list_any, range_with_len}
use Rattle.std.proofs.Common.{◌≡◌, inl, inr, ◌≤◌, ℕ, zero, suc, ◌-◌, ◌==◌, Bool, true, false, not, ◌&&◌, if◌then◌else◌, List, [], ◌∷◌, ◌++◌, length, map, reverse, take, Option, Some, None, Result, Ok, refl, sym, ap, ◌∙◌, subst, arith}
use Rattle.std.proofs.lemmas.Bool.{and_parts, and_from, cases_Bool, le-leb, leb-true, ltb-false, or_parts}
use Rattle.ve_kinds.specs.declared.kind.Kind.{Kind}
use Rattle.ve_kinds.specs.declared.kind.Kind.TheVariants.{InternalItem, Li, P, Ref, Tr}
use Rattle.ve_kinds.specs.Table.{is_content_branch, is_element, is_inline_leaf, kind_same, may_hold}
use Rattle.ve_base.specs.Limits.{max_marks}
use Rattle.ve_base.specs.declared.head.Head.{Head}
use Rattle.ve_base.specs.declared.marks.Mark.{Mark}
use Rattle.model_items.specs.declared.plain_item.PlainItem.{PlainItem}
use Rattle.model_items.specs.declared.plain_item.PlainItem.TheVariants.{Char, Closing, Opening}
use Rattle.model_items.specs.Law.{Lawful, top}
use Rattle.model_items.specs.Marks.{with_mark, without_mark}
use Rattle.model_items.specs.Offsets.{end_of_node, is_bad_span, is_content, is_unmatched, kind_at, openings_at, opens_at, partner, passes, places_in, stack_at, unmatched_places}
use Rattle.model_items.specs.Same.{mark_same, marks_same}
use Rattle.model_items.specs.Tree.{Open}
use Rattle.model_items.proofs.LawLemmas.{Ok-same}
use Rattle.model_change.specs.Attributes.{attr_removed, is_reserved}
use Rattle.model_change.specs.Transaction.{Transaction, all_inserted}
use Rattle.model_edit.specs.Brackets.{closing_of, copy_of, is_closing_of, is_internal, opening_of}
use Rattle.model_edit.specs.Causes.{BuildCause, ListCause, TableCause}
use Rattle.model_edit.specs.Convert.{converted, opens_kind}
use Rattle.model_edit.specs.Edits.{Change, Edit, Set, transaction_of}
use Rattle.model_edit.specs.Grid.{Grid, TableRow, covers_column, covers_row, grid, table_rows}
use Rattle.model_edit.specs.Insert.{in_paragraph, insertion, is_bad_depth, is_bad_offset, is_content_pieces, is_mixed, levels_up, marks_after, marks_before, marks_of, put_into, reopened, split, text_pieces}
use Rattle.model_edit.specs.Lists.{begin_after, copy_at, end_before, indent, indent_edits, is_list_item, list_ends, outdent, outdent_from, passes_before}
use Rattle.model_edit.specs.Marking.{is_bad_mark, is_full_for, item_marks, marked_unless, marking, remark, remark_edit, remarked, unmarking}
use Rattle.model_edit.specs.Convert.{attribute, convert}
use Rattle.model_edit.specs.Remove.{Join, is_bad_removal, join_at, removal, removal_edits}
use Rattle.model_edit.specs.Tables.{cell_place, cell_removed, col_in, col_out, column_edits, new_cell, new_row, row_in, row_in_edits, row_out, row_place, row_removed, set_columns, set_rows, spans_column, spans_row, whole_node}
use Rattle.model_edit.specs.Wrap.{closings_of, is_bad_wrap, node_edits, nodes_in, openings_of, wrap, wrap_edits, wrapped_unless, wrong_place}
use Rattle.model_edit.specs.declared.grid_cell.GridCell.{GridCell}
use Rattle.model_edit.specs.declared.wrap_plan.Shape.{Shape}
use Rattle.model_edit.specs.declared.wrap_plan.WrapPlan.{WrapPlan}
use Rattle.model_edit_law.specs.ApartLaws.{inserted_pieces}
use Rattle.model_edit_law.proofs.ApartLemmas.{edits_insert_pieces}
use Rattle.model_edit_law.proofs.BracketLemmas.{Opened, Opened-after, node_parts, stack_at-after}
use Rattle.model_edit_law.proofs.ShapeLemmas.{if_ok_else, if_ok_then, marked_is}
use Rattle.model_edit_law.proofs.TableFineLemmas.{fault_or_is, grid_given}
use Rattle.model_page.specs.Editable.{head_refers}
use Rattle.model_page_law.proofs.MadeRefers.{Other, element-other}
use Rattle.model_world_law.specs.Standing.{PlanOfElements, ShapesOfElements, has_few_marks}
use Rattle.model_world_law.proofs.StandLemmas.{AllStand, FoundStands, Stands, few_of, found_stands, none_left, opening_stands, pieces_stand-append, pieces_stand-each, pieces_stand-map, plain_stands, reopened_stand, stand-append, stand-reverse}

-- what a transaction of edits inserts
edits_stand : (items : List PlainItem) (edits : List Edit) → AllStand (inserted_pieces edits) → AllStand (all_inserted (transaction_of items edits))
edits_stand items edits p = subst AllStand (sym (edits_insert_pieces items edits)) p

answered : {E : Type 0} (items : List PlainItem) (edits : List Edit) (t : Transaction) → AllStand (inserted_pieces edits) → ◌≡◌ {A = Result Transaction E} (Ok (transaction_of items edits)) (Ok t) → AllStand (all_inserted t)
answered {E} items edits t p h = subst (λ v. AllStand (all_inserted v)) (Ok-same {E = E} _ t h) (edits_stand items edits p)

one_change : {E : Type 0} (items new : List PlainItem) (at count : ℕ) (t : Transaction) → AllStand new → ◌≡◌ {A = Result Transaction E} (Ok (transaction_of items (Change at count new ∷ []))) (Ok t) → AllStand (all_inserted t)
one_change {E} items new at count t p h = answered {E = E} items (Change at count new ∷ []) t (stand-append new [] p tt) h

-- ---- insertion, typing and split

paragraph_stands : (parent : Kind) (pieces : List PlainItem) → AllStand pieces → AllStand (in_paragraph parent pieces)
paragraph_stands parent pieces p =
    elim (is_content_pieces pieces && not (is_content_branch parent)) as (λ b. AllStand (if b then opening_of P [] ∷ pieces ++ closing_of P ∷ [] else pieces)) [
      | true ↦ (refl, stand-append pieces (closing_of P ∷ []) p (refl, tt))
      | false ↦ p
    ]

pub insertion_stands : (items : List PlainItem) (at : ℕ) (pieces : List PlainItem) (t : Transaction) → Lawful items → AllStand pieces → insertion items at pieces ≡ Ok t → AllStand (all_inserted t)
insertion_stands items at pieces t lawful given h =
    let p = if_ok_else (is_bad_offset items at) _ _ t h in
    let q = if_ok_else (is_mixed pieces) _ _ t p.1 in
    let placed = in_paragraph (kind_at items at) pieces in
    let leaf = (or_parts (nat_le (length items) at) _ p.0).1 in
    put placed (levels_up placed (stack_at items at)) refl leaf (paragraph_stands (kind_at items at) pieces given) q.1
  where
    put : (placed : List PlainItem) (o : Option ℕ) → levels_up placed (stack_at items at) ≡ o → Rattle.ve_kinds.specs.Table.is_leaf (kind_at items at) ≡ false → AllStand placed → put_into items at placed o ≡ Ok t → AllStand (all_inserted t)
    put placed None e leaf given h = cc
    put placed (Some j) e leaf given h =
        one_change {E = BuildCause} items (reopened (take j (openings_at items at)) placed) at 0 t (reopened_stand items at j placed lawful leaf (none_left placed (stack_at items at) j e) given) h

text_stands : (marks : List Mark) (text : List ℕ) → nat_le (length marks) max_marks ≡ true → AllStand (text_pieces marks text)
text_stands marks [] few = tt
text_stands marks (c ∷ text) few = (few, text_stands marks text few)

found_few : (o : Option PlainItem) → FoundStands o → nat_le (length (marks_of o)) max_marks ≡ true
found_few None s = refl
found_few (Some (Char c marks)) s = s
found_few (Some (Opening kind head marks pre origin generated)) s = few_of (Opening kind head marks pre origin generated) s
found_few (Some (Closing kind pre)) s = refl

marks_before_few : (items : List PlainItem) (at : ℕ) → AllStand items → nat_le (length (marks_before items at)) max_marks ≡ true
marks_before_few items zero p = refl
marks_before_few items (suc at) p = by (slice_get items at) (found_stands items at p)
  where
    by : (o : Option PlainItem) → FoundStands o → nat_le (length (marks_after o items at)) max_marks ≡ true
    by None s = refl
    by (Some (Char c marks)) s = s
    by (Some (Opening kind head marks pre origin generated)) s = refl
    by (Some (Closing kind pre)) s =
        elim (is_inline_leaf kind) as (λ b. nat_le (length (if b then marks_of (slice_get items (partner items at)) else [])) max_marks ≡ true)
        [ true ↦ found_few (slice_get items (partner items at)) (found_stands items (partner items at) p) | false ↦ refl ]

pub typing_stands : (items : List PlainItem) (at : ℕ) (text : List ℕ) (t : Transaction) → Lawful items → AllStand items → insertion items at (text_pieces (marks_before items at) text) ≡ Ok t → AllStand (all_inserted t)
typing_stands items at text t lawful p h = insertion_stands items at (text_pieces (marks_before items at) text) t lawful (text_stands (marks_before items at) text (marks_before_few items at p)) h

pub plain_typing_stands : (items : List PlainItem) (at : ℕ) (text : List ℕ) (t : Transaction) → Lawful items → insertion items at (text_pieces [] text) ≡ Ok t → AllStand (all_inserted t)
plain_typing_stands items at text t lawful h = insertion_stands items at (text_pieces [] text) t lawful (text_stands [] text refl) h

pub split_stands : (items : List PlainItem) (at depth : ℕ) (t : Transaction) → Lawful items → split items at depth ≡ Ok t → AllStand (all_inserted t)
split_stands items at depth t lawful h =
    let p = if_ok_else (is_bad_offset items at) _ _ t h in
    let q = if_ok_else (not (is_content items at)) _ _ t p.1 in
    let r = if_ok_else (is_bad_depth (stack_at items at) depth) _ _ t q.1 in
    let leaf = (or_parts (nat_le (length items) at) _ p.0).1 in
    let none = (or_parts (nat_lt (length (stack_at items at)) depth) _ (or_parts (depth == 0) _ r.0).1).1 in
    one_change {E = BuildCause} items (reopened (take depth (openings_at items at)) []) at 0 t (reopened_stand items at depth [] lawful leaf none tt) r.1

-- ---- removal

removal_pieces : (items : List PlainItem) (from to : ℕ) (o : Option Join) → AllStand (inserted_pieces (removal_edits items from to o))
removal_pieces items from to None = pieces_stand-map (λ at. Change at 1 []) (λ at. tt) (filter (λ at. not (is_unmatched items from to at)) (places_in from to))
removal_pieces items from to (Some join) =
    elim (kind_same join.first join.second) as (λ b. AllStand (inserted_pieces (if b then [] else Change join.second_closing 1 (closing_of join.first ∷ []) ∷ [])))
    [ true ↦ tt | false ↦ (refl, tt) ]

pub removal_stands : (items : List PlainItem) (from to : ℕ) (t : Transaction) → removal items from to ≡ Ok t → AllStand (all_inserted t)
removal_stands items from to t h =
    let p = if_ok_else (is_bad_removal items from to) _ _ t h in
    let o = join_at items (unmatched_places items from to) in
    answered {E = BuildCause} items (removal_edits items from to o) t (removal_pieces items from to o) p.1

-- ---- marks, kinds and attributes

remarked_stands : (f : List Mark → List Mark) (item : PlainItem) → Stands item → has_few_marks (remarked f item) ≡ true → Stands (remarked f item)
remarked_stands f (Char c marks) s few = few
remarked_stands f (Opening kind head marks pre origin generated) s few = and_from (head_refers kind head) _ (and_parts (head_refers kind head) _ s).0 few
remarked_stands f (Closing kind pre) s few = refl

abbrev FoundFew : (List Mark → List Mark) → Option PlainItem → Type 0
FoundFew f None = Unit {0}
FoundFew f (Some item) = has_few_marks (remarked f item) ≡ true

remark_pieces : (f : List Mark → List Mark) (at : ℕ) (o : Option PlainItem) → FoundStands o → FoundFew f o → AllStand (inserted_pieces (remark_edit f at o))
remark_pieces f at None s few = tt
remark_pieces f at (Some item) s few =
    elim (marks_same (item_marks (remarked f item)) (item_marks item)) as (λ b. AllStand (inserted_pieces (if b then [] else Change at 1 (remarked f item ∷ []) ∷ [])))
    [ true ↦ tt | false ↦ (remarked_stands f item s few, tt) ]

remark_stands : (f : List Mark → List Mark) (items : List PlainItem) (places : List ℕ) → AllStand items → AllByRecursion (λ at. FoundFew f (slice_get items at)) places →
    AllStand (inserted_pieces (flat_map (λ at. remark_edit f at (slice_get items at)) places))
remark_stands f items [] p few = tt
remark_stands f items (at ∷ places) p few =
    pieces_stand-append (remark_edit f at (slice_get items at)) (flat_map (λ n. remark_edit f n (slice_get items n)) places)
    (remark_pieces f at (slice_get items at) (found_stands items at p) few.0) (remark_stands f items places p few.1)

none_full : (m : Mark) (items : List PlainItem) (places : List ℕ) → find (λ at. passes (is_full_for m) (slice_get items at)) places ≡ None → AllByRecursion (λ at. FoundFew (with_mark m) (slice_get items at)) places
none_full m items [] h = tt
none_full m items (at ∷ places) h =
    elim (cases_Bool (passes (is_full_for m) (slice_get items at))) [
      | inl full ↦ absurd (let e : Some at ≡ None = sym (ap (λ b. Rattle.std.proofs.Common.cond b (Some at) (find (λ n. passes (is_full_for m) (slice_get items n)) places)) full) ∙ h in cc)
      | inr free ↦ (
        not_full (slice_get items at) free,
        none_full m items places (sym (ap (λ b. Rattle.std.proofs.Common.cond b (Some at) (find (λ n. passes (is_full_for m) (slice_get items n)) places)) free) ∙ h),
      )
    ]
  where
    not_full : (o : Option PlainItem) → passes (is_full_for m) o ≡ false → FoundFew (with_mark m) o
    not_full None h = tt
    not_full (Some item) h =
        let few = ltb-false max_marks (length (item_marks (remarked (with_mark m) item))) h in
        le-leb (length (item_marks (remarked (with_mark m) item))) max_marks few

no_fault : (o : Option ℕ) (s t : Transaction) → marked_unless o s ≡ Ok t → o ≡ None
no_fault None s t h = refl
no_fault (Some at) s t h = cc

pub marking_stands : (items : List PlainItem) (from to : ℕ) (m : Mark) (t : Transaction) → AllStand items → marking items from to m ≡ Ok t → AllStand (all_inserted t)
marking_stands items from to m t p h =
    let a = if_ok_else (is_bad_span items from to) _ _ t h in
    let b = if_ok_else (is_bad_mark m) _ _ t a.1 in
    let none = no_fault (find (λ at. passes (is_full_for m) (slice_get items at)) (places_in from to)) (remark (with_mark m) items from to) t b.1 in
    subst (λ v. AllStand (all_inserted v)) (marked_is _ _ t b.1)
    (edits_stand items (flat_map (λ at. remark_edit (with_mark m) at (slice_get items at)) (places_in from to)) (remark_stands (with_mark m) items (places_in from to) p (none_full m items (places_in from to) none)))

fewer : (m : Mark) (marks : List Mark) → length (without_mark m marks) ≤ length marks
fewer m [] = omega arith
fewer m (one ∷ marks) = by (not (mark_same m one)) (fewer m marks)
  where
    by : (b : Bool) → length (without_mark m marks) ≤ length marks → length (Rattle.std.proofs.Common.cond b (one ∷ without_mark m marks) (without_mark m marks)) ≤ suc (length marks)
    by true h = omega arith
    by false h = omega arith

few_without : (m : Mark) (marks : List Mark) → nat_le (length marks) max_marks ≡ true → nat_le (length (without_mark m marks)) max_marks ≡ true
few_without m marks h =
    let a = leb-true (length marks) max_marks h in
    let b = fewer m marks in
    le-leb (length (without_mark m marks)) max_marks (omega arith)

unmarked_few : (m : Mark) (o : Option PlainItem) → FoundStands o → FoundFew (without_mark m) o
unmarked_few m None s = tt
unmarked_few m (Some (Char c marks)) s = few_without m marks s
unmarked_few m (Some (Closing kind pre)) s = refl
unmarked_few m (Some (Opening kind head marks pre origin generated)) s =
    let few = few_of (Opening kind head marks pre origin generated) s in
    elim (is_inline_leaf kind) as (λ b. nat_le (length (if b then without_mark m marks else marks)) max_marks ≡ true) [ true ↦ few_without m marks few | false ↦ few ]

all_unmarked_few : (m : Mark) (items : List PlainItem) (places : List ℕ) → AllStand items → AllByRecursion (λ at. FoundFew (without_mark m) (slice_get items at)) places
all_unmarked_few m items [] p = tt
all_unmarked_few m items (at ∷ places) p = (unmarked_few m (slice_get items at) (found_stands items at p), all_unmarked_few m items places p)

pub unmarking_stands : (items : List PlainItem) (from to : ℕ) (m : Mark) (t : Transaction) → AllStand items → unmarking items from to m ≡ Ok t → AllStand (all_inserted t)
unmarking_stands items from to m t p h =
    let a = if_ok_else (is_bad_span items from to) _ _ t h in
    let b = if_ok_else (is_bad_mark m) _ _ t a.1 in
    subst (λ v. AllStand (all_inserted v)) (Ok-same {E = BuildCause} _ t b.1)
    (edits_stand items (flat_map (λ at. remark_edit (without_mark m) at (slice_get items at)) (places_in from to)) (remark_stands (without_mark m) items (places_in from to) p (all_unmarked_few m items (places_in from to) p)))

branch_other : (k : Kind) → is_content_branch k ≡ true → Other k
branch_other Ref h = cc
branch_other InternalItem h = cc
branch_other _ h = (refl, refl)

converted_stands : (kind : Kind) (o : Option PlainItem) → is_content_branch kind ≡ true → FoundStands o → AllStand (converted kind o)
converted_stands kind None b s = tt
converted_stands kind (Some (Char c marks)) b s = tt
converted_stands kind (Some (Closing old pre)) b s = tt
converted_stands kind (Some (Opening old head marks pre origin generated)) b s =
    (opening_stands kind head marks pre None false (branch_other kind b) (few_of (Opening old head marks pre origin generated) s), tt)

pub convert_stands : (items : List PlainItem) (at : ℕ) (kind : Kind) (t : Transaction) → AllStand items → convert items at kind ≡ Ok t → AllStand (all_inserted t)
convert_stands items at kind t p h =
    let a = if_ok_then (passes (opens_kind is_content_branch) (slice_get items at) && is_content_branch kind) _ _ t h in
    let new = converted kind (slice_get items at) in
    answered {E = BuildCause} items (Change at 1 new ∷ Change (partner items at) 1 (closing_of kind ∷ []) ∷ []) t
    (stand-append new (closing_of kind ∷ []) (converted_stands kind (slice_get items at) (and_parts _ (is_content_branch kind) a.0).1 (found_stands items at p)) (refl, tt)) a.1

pub attribute_stands : (items : List PlainItem) (at : ℕ) (name : List ℕ) (to : Option (List ℕ)) (t : Transaction) → attribute items at name to ≡ Ok t → AllStand (all_inserted t)
attribute_stands items at name to t h =
    let a = if_ok_then (passes (opens_kind is_element) (slice_get items at)) _ _ t h in
    let b = if_ok_else (is_reserved name) _ _ t a.1 in
    answered {E = BuildCause} items (Set at name to ∷ []) t tt b.1

-- ---- wrap

openings_stand : (shapes : List Shape) → ShapesOfElements shapes → AllStand (openings_of shapes)
openings_stand [] h = tt
openings_stand (s ∷ shapes) h = (plain_stands s.kind s.attrs (element-other s.kind h.0), openings_stand shapes h.1)

closings_stand : (shapes : List Shape) → AllStand (closings_of shapes)
closings_stand shapes = stand-reverse (map (λ (s : Shape). closing_of s.kind) shapes) (each shapes)
  where
    each : (shapes : List Shape) → AllStand (map (λ (s : Shape). closing_of s.kind) shapes)
    each [] = tt
    each (s ∷ shapes) = (refl, each shapes)

node_pieces : (from to count : ℕ) (shapes : List Shape) → ShapesOfElements shapes → AllStand (inserted_pieces (node_edits from to count shapes))
node_pieces from to count shapes h =
    stand-append (openings_of shapes) (closings_of shapes ++ []) (openings_stand shapes h) (stand-append (closings_of shapes) [] (closings_stand shapes) tt)

pub wrap_stands : (items : List PlainItem) (from to : ℕ) (plan : WrapPlan) (t : Transaction) → PlanOfElements plan → wrap items from to plan ≡ Ok t → AllStand (all_inserted t)
wrap_stands items from to plan t given h =
    let p = if_ok_else (is_bad_wrap items from to) _ _ t h in
    made (wrong_place items from to plan.unwrap_outer plan.unwrap_each) p.1
  where
    pieces : AllStand (inserted_pieces (wrap_edits items from to plan))
    pieces =
        let f : Open → List Edit = λ node. node_edits node.from (end_of_node items node.from) (length plan.unwrap_each) plan.wrap_each in
        let each = flat_map f (nodes_in items from to) in
        let last = Change to (length plan.unwrap_outer) (closings_of plan.wrap_outer) ∷ [] in
        stand-append (openings_of plan.wrap_outer) (inserted_pieces (each ++ last)) (openings_stand plan.wrap_outer given.0)
        (pieces_stand-append each last
        (pieces_stand-each f (λ (node : Open). node_pieces node.from (end_of_node items node.from) (length plan.unwrap_each) plan.wrap_each given.1) (nodes_in items from to))
        (stand-append (closings_of plan.wrap_outer) [] (closings_stand plan.wrap_outer) tt))

    made : (o : Option ℕ) → wrapped_unless o (transaction_of items (wrap_edits items from to plan)) ≡ Ok t → AllStand (all_inserted t)
    made (Some at) h = cc
    made None h = answered {E = BuildCause} items (wrap_edits items from to plan) t pieces h

-- ---- list items

-- an item's list is a list
list_other : (k : Kind) → may_hold k Li ≡ true → Other k
list_other Ref h = cc
list_other InternalItem h = cc
list_other _ h = (refl, refl)

opened_item : (o : Option PlainItem) → passes (Rattle.model_edit.specs.Brackets.is_opening_of Li) o ≡ true →
    (head : Head) × (marks : List Mark) × (pre : List ℕ) × (origin : Option ℕ) × (generated : Bool) × (o ≡ Some (Opening Li head marks pre origin generated))
opened_item None h = cc
opened_item (Some (Char c marks)) h = cc
opened_item (Some (Closing kind pre)) h = cc
opened_item (Some (Opening kind head marks pre origin generated)) h =
    (head, marks, pre, origin, generated, ap (λ k. Some (Opening k head marks pre origin generated)) (Rattle.model_items.proofs.SameLemmas.Means-kind_same.equal kind Li h))

item_in_list : (items : List PlainItem) (at : ℕ) → Lawful items → is_list_item items at ≡ true → Other (kind_at items at)
item_in_list items at lawful h =
    let o = opened_item (slice_get items at) h in
    let n = node_parts items at Li o.0 o.1 o.2 o.3 o.4 lawful o.5 in
    let may = held n.before.stack (n.before).seen n.allowed.0 n.allowed.1 in
    list_other (kind_at items at) (ap (λ st. may_hold (top st) Li) (stack_at-after items at n.before n.reached) ∙ may)
  where
    held : (stack : List Kind) (seen : Bool) (u : Rattle.model_items.specs.Law.State) → Rattle.model_items.specs.Law.state_opened (record { stack = stack; seen = seen }) Li ≡ Ok u → may_hold (top stack) Li ≡ true
    held stack seen u e = (and_parts (may_hold (top stack) Li) _ (Rattle.model_items.proofs.LawLemmas.if_ok (Rattle.model_items.specs.Law.may_open (record { stack = stack; seen = seen }) Li) _ _ u e).0).0

indent_pieces : (items : List PlainItem) (at : ℕ) (kind : Kind) → Other kind → AllStand (inserted_pieces (indent_edits items at kind))
indent_pieces items at kind other =
    elim (passes_before (is_closing_of kind) items (at - 1)) as (λ b. AllStand (inserted_pieces
    ((if b then Change (at - 2) 2 [] else Change (at - 1) 1 (opening_of kind [] ∷ [])) ∷ Change (end_of_node items at) 0 (list_ends kind) ∷ [])))
    [ true ↦ (refl, (refl, tt)) | false ↦ (plain_stands kind [] other, (refl, (refl, tt))) ]

pub indent_stands : (items : List PlainItem) (at : ℕ) (t : Transaction) → Lawful items → indent items at ≡ Ok t → AllStand (all_inserted t)
indent_stands items at t lawful h =
    let p = if_ok_then (is_list_item items at) _ _ t h in
    let q = if_ok_then (passes_before (is_closing_of Li) items at) _ _ t p.1 in
    answered {E = ListCause} items (indent_edits items at (kind_at items at)) t (indent_pieces items at (kind_at items at) (item_in_list items at lawful p.0)) q.1

end_pieces : (at : ℕ) (list : Open) → AllStand (inserted_pieces (end_before at list ∷ []))
end_pieces at list =
    elim (suc list.from == at) as (λ b. AllStand (inserted_pieces ((if b then Change list.from 1 (closing_of Li ∷ []) else Change at 0 (list_ends list.kind)) ∷ [])))
    [ true ↦ (refl, tt) | false ↦ (refl, (refl, tt)) ]

copy_stands : (items : List PlainItem) (from : ℕ) (kind : Kind) (head : Head) (marks : List Mark) (pre : List ℕ) (origin : Option ℕ) (generated : Bool) → Other kind → slice_get items from ≡ Some (Opening kind head marks pre origin generated) → AllStand (copy_at items from)
copy_stands [] from kind head marks pre origin generated o h = cc
copy_stands (x ∷ items) zero kind head marks pre origin generated o h =
    let same : x ≡ Opening kind head marks pre origin generated = cc in
    subst (λ y. AllStand (copy_of y ∷ [])) (sym same) (plain_stands kind (attr_removed (codes "id") head.attrs) o, tt)
copy_stands (x ∷ items) (suc from) kind head marks pre origin generated o h = copy_stands items from kind head marks pre origin generated o h

begin_pieces : (items : List PlainItem) (closing : ℕ) (list : Open) → AllStand (copy_at items list.from) → AllStand (inserted_pieces (begin_after items closing list ∷ []))
begin_pieces items closing list p =
    elim (partner items list.from == suc closing) as (λ b. AllStand (inserted_pieces ((if b then Change closing 2 [] else Change closing 1 (copy_at items list.from)) ∷ [])))
    [ true ↦ tt | false ↦ stand-append (copy_at items list.from) [] p tt ]

pub outdent_stands : (items : List PlainItem) (at : ℕ) (t : Transaction) → Lawful items → outdent items at ≡ Ok t → AllStand (all_inserted t)
outdent_stands items at t lawful h =
    let p = if_ok_then (is_list_item items at) _ _ t h in
    nested (opens_at items at) refl (item_in_list items at lawful p.0) p.1
  where
    nested : (nodes : List Open) → opens_at items at ≡ nodes → Other (kind_at items at) → outdent_from items at nodes ≡ Ok t → AllStand (all_inserted t)
    nested [] e o h = cc
    nested (list ∷ []) e o h = cc
    nested (list ∷ outer ∷ rest) e o h =
        let opened : Opened (take at items) (list ∷ outer ∷ rest) = subst (Opened (take at items)) e (Opened-after (take at items) [] [] tt) in
        let f = opened.0 in
        let here : slice_get items list.from ≡ Some (Opening list.kind f.0 f.1 f.2 f.3 f.4) =
        ap (λ v. slice_get v list.from) (sym (Rattle.std.proofs.lemmas.List.take-append-drop at items)) ∙ f.5 (Rattle.std.specs.Prelude.drop at items) in
        let other : Other list.kind = subst (λ ns. Other (top (map (λ (n : Open). n.kind) ns))) e o in
        answered {E = ListCause} items (end_before at list ∷ begin_after items (partner items at) list ∷ []) t
        (pieces_stand-append (end_before at list ∷ []) (begin_after items (partner items at) list ∷ []) (end_pieces at list)
        (begin_pieces items (partner items at) list (copy_stands items list.from list.kind f.0 f.1 f.2 f.3 f.4 other here)))
        (if_ok_then (kind_same outer.kind Li) _ _ t h).1

-- ---- tables

on_answer : (items : List PlainItem) (edits : List Edit) (o : Option TableCause) (t : Transaction) → AllStand (inserted_pieces edits) →
    Rattle.model_edit.specs.Tables.fault_or o (transaction_of items edits) ≡ Ok t → AllStand (all_inserted t)
on_answer items edits o t p h = subst (λ v. AllStand (all_inserted v)) (fault_or_is o (transaction_of items edits) t h) (edits_stand items edits p)

new_row_stands : (g : Grid) (row : ℕ) → AllStand (new_row g row)
new_row_stands g row = (refl, stand-append _ (closing_of Tr ∷ []) (cells (range_with_len 0 g.columns)) (refl, tt))
  where
    cells : (columns : List ℕ) → AllStand (flat_map (λ column. if list_any (λ c. spans_row row c && covers_column c column) g.cells then [] else new_cell) columns)
    cells [] = tt
    cells (column ∷ columns) =
        stand-append _ (flat_map (λ column. if list_any (λ c. spans_row row c && covers_column c column) g.cells then [] else new_cell) columns)
        (elim (list_any (λ c. spans_row row c && covers_column c column) g.cells) as (λ b. AllStand (if b then [] else new_cell)) [ true ↦ tt | false ↦ (refl, (refl, (refl, (refl, tt)))) ])
        (cells columns)

pub row_in_stands : (items : List PlainItem) (at row : ℕ) (t : Transaction) → row_in items at row ≡ Ok t → AllStand (all_inserted t)
row_in_stands items at row t h =
    let p = grid_given (grid items at) _ t h in
    let g = p.0 in
    let grown = filter (spans_row row) g.cells in
    let new = Change (row_place items (table_rows items at) row) 0 (new_row g row) ∷ [] in
    on_answer items (row_in_edits items (table_rows items at) row g) _ t
    (pieces_stand-append (map (λ (c : GridCell). set_rows (suc c.rows) c) grown) new
    (pieces_stand-map (λ (c : GridCell). set_rows (suc c.rows) c) (λ c. tt) grown)
    (stand-append (new_row g row) [] (new_row_stands g row) tt)) p.2

column_pieces : (items : List PlainItem) (column : ℕ) (g : Grid) (at : ℕ × TableRow) → AllStand (inserted_pieces (column_edits items column g at))
column_pieces items column g (index, row) =
    let cells = filter (λ (c : GridCell). c.row == index) g.cells in
    let grown = filter (spans_column column) cells in
    pieces_stand-append (map (λ (c : GridCell). set_columns (suc c.columns) c) grown) _
    (pieces_stand-map (λ (c : GridCell). set_columns (suc c.columns) c) (λ c. tt) grown)
    (elim (list_any (λ c. spans_column column c && covers_row c index) g.cells) as (λ b. AllStand (inserted_pieces (if b then [] else Change (cell_place items row column cells) 0 new_cell ∷ [])))
    [ true ↦ tt | false ↦ (refl, (refl, (refl, (refl, tt)))) ])

pub col_in_stands : (items : List PlainItem) (at column : ℕ) (t : Transaction) → col_in items at column ≡ Ok t → AllStand (all_inserted t)
col_in_stands items at column t h =
    let p = grid_given (grid items at) _ t h in
    let rows = enumerate_from 0 (table_rows items at) in
    on_answer items (flat_map (column_edits items column p.0) rows) _ t (pieces_stand-each (column_edits items column p.0) (column_pieces items column p.0) rows) p.2

removed_pieces : (items : List PlainItem) (o : Option TableRow) → AllStand (inserted_pieces (row_removed items o))
removed_pieces items None = tt
removed_pieces items (Some row) = tt

pub row_out_stands : (items : List PlainItem) (at row : ℕ) (t : Transaction) → row_out items at row ≡ Ok t → AllStand (all_inserted t)
row_out_stands items at row t h =
    let p = grid_given (grid items at) _ t h in
    let shrunk = filter (spans_row row) p.0.cells in
    let gone = row_removed items (slice_get (table_rows items at) row) in
    on_answer items (map (λ (c : GridCell). set_rows (c.rows - 1) c) shrunk ++ gone) _ t
    (pieces_stand-append (map (λ (c : GridCell). set_rows (c.rows - 1) c) shrunk) gone
    (pieces_stand-map (λ (c : GridCell). set_rows (c.rows - 1) c) (λ c. tt) shrunk)
    (removed_pieces items (slice_get (table_rows items at) row))) p.2

cell_pieces : (items : List PlainItem) (cell : GridCell) → AllStand (inserted_pieces (cell_removed items cell ∷ []))
cell_pieces items cell =
    elim (cell.columns == 1) as (λ b. AllStand (inserted_pieces ((if b then whole_node items cell.at else set_columns (cell.columns - 1) cell) ∷ [])))
    [ true ↦ tt | false ↦ tt ]

pub col_out_stands : (items : List PlainItem) (at column : ℕ) (t : Transaction) → col_out items at column ≡ Ok t → AllStand (all_inserted t)
col_out_stands items at column t h =
    let p = grid_given (grid items at) _ t h in
    let cells = filter (λ (c : GridCell). covers_column c column) p.0.cells in
    on_answer items (map (cell_removed items) cells) _ t (pieces_stand-map (cell_removed items) (cell_pieces items) cells) p.2
