-- A line can write each item that an edit inserts and each attribute that it sets, where it can write
-- those of the list, and what is given.
use Rattle.std.specs.Prelude.{filter, flat_map, slice_get}
use Rattle.std.specs.List.{AllByRecursion, list_all, list_any}
use Rattle.std.proofs.Common.{◌≡◌, ℕ, zero, suc, ◌+◌, ◌-◌, Bool, true, false, not, ◌&&◌, if◌then◌else◌, List, [], ◌∷◌, ◌++◌, length, map, reverse, take, drop, Option, Some, None, Result, Ok, refl, sym, ap, ◌∙◌, subst}
use Rattle.std.proofs.lemmas.Bool.{and_from, and_parts, not-false, or_parts}
use Rattle.std.proofs.lemmas.Grind.{reverse_onto}
use Rattle.ve_base.specs.declared.attrs.Attr.{Attr}
use Rattle.ve_base.specs.declared.marks.Mark.{Mark}
use Rattle.ve_kinds.specs.declared.kind.Kind.{Kind}
use Rattle.ve_kinds.specs.declared.kind.Kind.TheVariants.{P}
use Rattle.ve_kinds.specs.Table.{is_content_branch, is_element, is_inline_leaf, kind_same}
use Rattle.ve_kinds.specs.Tags.{annotation_tags, is_one_of}
use Rattle.model_items.specs.declared.plain_item.PlainItem.{PlainItem}
use Rattle.model_items.specs.declared.plain_item.PlainItem.TheVariants.{Char, Closing, Opening}
use Rattle.model_items.specs.Marks.{with_mark, without_mark}
use Rattle.model_items.specs.Offsets.{end_of_node, is_bad_span, is_content, is_unmatched, kind_at, openings_after, openings_at, partner, passes, places_in, stack_at, unmatched_places}
use Rattle.model_items.specs.Same.{marks_same}
use Rattle.model_items.specs.Tree.{Open}
use Rattle.model_items.proofs.LawLemmas.{Ok-same}
use Rattle.model_change.specs.Attributes.{is_reserved}
use Rattle.model_change.specs.Transaction.{Attribute, Replace, Retain, Transaction}
use Rattle.model_edit.specs.Brackets.{closing_for, closing_of, copy_of, opening_of}
use Rattle.model_edit.specs.Causes.{BuildCause}
use Rattle.model_edit.specs.Convert.{attribute, convert, converted, opens_kind}
use Rattle.model_edit.specs.Edits.{Change, Edit, Set, merged, replacing, retaining, setting, transaction_from, transaction_of}
use Rattle.model_edit.specs.Insert.{in_paragraph, insertion, is_bad_depth, is_bad_offset, is_content_pieces, is_mixed, levels_up, marks_after, marks_before, marks_of, put_into, reopened, split, text_pieces}
use Rattle.model_edit.specs.Marking.{is_bad_mark, item_marks, marking, remark_edit, remarked, unmarking}
use Rattle.model_edit.specs.Remove.{Join, is_bad_removal, join_at, removal, removal_edits}
use Rattle.model_edit.specs.Wrap.{closings_of, is_bad_wrap, node_edits, nodes_in, openings_of, wrap, wrap_edits, wrapped_unless, wrong_place}
use Rattle.model_edit.specs.declared.wrap_plan.Shape.{Shape}
use Rattle.model_edit.specs.declared.wrap_plan.WrapPlan.{WrapPlan}
use Rattle.model_edit_law.specs.ApartLaws.{inserted_pieces}
use Rattle.model_edit_law.proofs.ApartLemmas.{edits_insert_pieces}
use Rattle.model_edit_law.proofs.ShapeLemmas.{if_ok_else, if_ok_then, marked_is}
use Rattle.model_page.specs.Tags.{is_annotation_tag}
use Rattle.model_world.specs.Attributes.{are_allowed, are_apart, is_mark}
use Rattle.model_site_law.specs.ItemLaws.{AttrsPass, PutsIn, all_set, attr_of}
use Rattle.model_world_law.specs.Writable.{ShapesAreWritable, are_marks, is_attr, is_spelled_mark, is_text, is_writable, is_writable_mark}
use Rattle.model_world_law.proofs.WritableLemmas.{AllWrite, Writes, closing_for_writes, closing_writes, converted_writes, copy_writes, free_heads, heads_allowed, opening_marks, pieces_write, plain_writes, remarked_writes, with_marks, without_marks}

abbrev pub InsertsWritten : Transaction → Type 0
InsertsWritten t = PutsIn is_writable is_attr t

-- ---- lists

pub write-append : (xs ys : List PlainItem) → AllWrite xs → AllWrite ys → AllWrite (xs ++ ys)
write-append [] ys p q = q
write-append (x ∷ xs) ys p q = (p.0, write-append xs ys p.1 q)

write-reverse : (items : List PlainItem) → AllWrite items → AllWrite (reverse items)
write-reverse [] p = tt
write-reverse (x ∷ items) p = subst AllWrite (sym (reverse_onto items x [])) (write-append (reverse items) (x ∷ []) (write-reverse items p.1) (p.0, tt))

write-take : (n : ℕ) (items : List PlainItem) → AllWrite items → AllWrite (take n items)
write-take zero items p = tt
write-take (suc n) [] p = tt
write-take (suc n) (x ∷ items) p = (p.0, write-take n items p.1)

abbrev FoundWrites : Option PlainItem → Type 0
FoundWrites None = Unit {0}
FoundWrites (Some item) = Writes item

found_writes : (items : List PlainItem) (n : ℕ) → AllWrite items → FoundWrites (slice_get items n)
found_writes [] n p = tt
found_writes (x ∷ items) zero p = p.0
found_writes (x ∷ items) (suc n) p = found_writes items n p.1

openings_write : (outer items : List PlainItem) → AllWrite outer → AllWrite items → AllWrite (openings_after outer items)
openings_write outer [] p q = p
openings_write outer (Char c marks ∷ items) p q = openings_write outer items p q.1
openings_write outer (Opening kind head marks pre origin generated ∷ items) p q = openings_write (Opening kind head marks pre origin generated ∷ outer) items (q.0, p) q.1
openings_write outer (Closing kind pre ∷ items) p q = openings_write (drop 1 outer) items (less outer p) q.1
  where
    less : (outer : List PlainItem) → AllWrite outer → AllWrite (drop 1 outer)
    less [] p = tt
    less (x ∷ outer) p = p.1

-- ---- lists of edits

abbrev pub EditWrites : Edit → Type 0
EditWrites (Change at count inserted) = AllWrite inserted
EditWrites (Set at name to) = AttrsPass is_attr (attr_of name to)

abbrev pub EditsWrite : List Edit → Type 0
EditsWrite edits = AllByRecursion EditWrites edits

pub edits-append : (xs ys : List Edit) → EditsWrite xs → EditsWrite ys → EditsWrite (xs ++ ys)
edits-append [] ys p q = q
edits-append (x ∷ xs) ys p q = (p.0, edits-append xs ys p.1 q)

pub edits-each : {A : Type 0} (f : A → List Edit) → ((x : A) → EditsWrite (f x)) → (xs : List A) → EditsWrite (flat_map f xs)
edits-each f h [] = tt
edits-each f h (x ∷ xs) = edits-append (f x) (flat_map f xs) (h x) (edits-each f h xs)

pub edits-map : {A : Type 0} (f : A → Edit) → ((x : A) → EditWrites (f x)) → (xs : List A) → EditsWrite (map f xs)
edits-map f h [] = tt
edits-map f h (x ∷ xs) = (h x, edits-map f h xs)

set_retaining : (n : ℕ) (t : Transaction) → all_set (retaining n t) ≡ all_set t
set_retaining zero t = refl
set_retaining (suc n) [] = refl
set_retaining (suc n) (Retain count ∷ ops) = refl
set_retaining (suc n) (Replace gone new ∷ ops) = refl
set_retaining (suc n) (Attribute c ∷ ops) = refl

set_merged : (gone new : List PlainItem) (t : Transaction) → all_set (merged gone new t) ≡ all_set t
set_merged gone new [] = refl
set_merged gone new (Retain count ∷ ops) = refl
set_merged gone new (Replace next others ∷ ops) = refl
set_merged gone new (Attribute c ∷ ops) = refl

set_replacing : (gone new : List PlainItem) (t : Transaction) → all_set (replacing gone new t) ≡ all_set t
set_replacing [] [] t = refl
set_replacing [] (x ∷ new) t = set_merged [] (x ∷ new) t
set_replacing (x ∷ gone) new t = set_merged (x ∷ gone) new t

pub attrs-append : (xs ys : List Attr) → AttrsPass is_attr xs → AttrsPass is_attr ys → AttrsPass is_attr (xs ++ ys)
attrs-append [] ys p q = q
attrs-append (x ∷ xs) ys p q = (p.0, attrs-append xs ys p.1 q)

sets_from : (at : ℕ) (items : List PlainItem) (edits : List Edit) → EditsWrite edits → AttrsPass is_attr (all_set (transaction_from at items edits))
sets_from at items [] p = subst (AttrsPass is_attr) (sym (set_retaining (length items) [])) tt
sets_from at items (Change place count new ∷ edits) p =
    let rest = drop (place - at) items in
    let later = transaction_from (place + count) (drop count rest) edits in
    subst (AttrsPass is_attr) (sym (set_retaining (place - at) (replacing (take count rest) new later) ∙ set_replacing (take count rest) new later))
    (sets_from (place + count) (drop count rest) edits p.1)
sets_from at items (Set place name to ∷ edits) p =
    let rest = drop (place - at) items in
    subst (AttrsPass is_attr) (sym (set_retaining (place - at) (Attribute (setting name to rest) ∷ transaction_from place rest edits)))
    (by rest (sets_from place rest edits p.1))
  where
    by : (rest : List PlainItem) → AttrsPass is_attr (all_set (transaction_from place rest edits)) → AttrsPass is_attr (all_set (Attribute (setting name to rest) ∷ transaction_from place rest edits))
    by [] q = attrs-append (attr_of name to) (all_set (transaction_from place [] edits)) p.0 q
    by (x ∷ rest) q = attrs-append (attr_of name to) (all_set (transaction_from place (x ∷ rest) edits)) p.0 q

pieces_of : (edits : List Edit) → EditsWrite edits → AllWrite (inserted_pieces edits)
pieces_of [] p = tt
pieces_of (Change at count new ∷ edits) p = write-append new (inserted_pieces edits) p.0 (pieces_of edits p.1)
pieces_of (Set at name to ∷ edits) p = pieces_of edits p.1

pub edits_write : (items : List PlainItem) (edits : List Edit) → EditsWrite edits → InsertsWritten (transaction_of items edits)
edits_write items edits p = (subst AllWrite (sym (edits_insert_pieces items edits)) (pieces_of edits p), sets_from 0 items edits p)

pub answered : {E : Type 0} (items : List PlainItem) (edits : List Edit) (t : Transaction) → EditsWrite edits → ◌≡◌ {A = Result Transaction E} (Ok (transaction_of items edits)) (Ok t) → InsertsWritten t
answered {E} items edits t p h = subst InsertsWritten (Ok-same {E = E} _ t h) (edits_write items edits p)

-- ---- insertion and split

each_writes : (f : PlainItem → PlainItem) → ((item : PlainItem) → Writes item → Writes (f item)) → (items : List PlainItem) → AllWrite items → AllWrite (map f items)
each_writes f h [] p = tt
each_writes f h (x ∷ items) p = (h x p.0, each_writes f h items p.1)

reopened_writes : (items : List PlainItem) (at depth : ℕ) (pieces : List PlainItem) → AllWrite items → AllWrite pieces → AllWrite (reopened (take depth (openings_at items at)) pieces)
reopened_writes items at depth pieces p given =
    let openings = take depth (openings_at items at) in
    let own = write-take depth (openings_at items at) (openings_write [] (take at items) tt (write-take at items p)) in
    write-append (map closing_for openings) (pieces ++ reverse (map copy_of openings)) (each_writes closing_for closing_for_writes openings own)
    (write-append pieces (reverse (map copy_of openings)) given (write-reverse (map copy_of openings) (each_writes copy_of copy_writes openings own)))

pub opens : (kind : Kind) → Writes (opening_of kind [])
opens kind = plain_writes kind [] (λ e. refl)

paragraph_writes : (parent : Kind) (pieces : List PlainItem) → AllWrite pieces → AllWrite (in_paragraph parent pieces)
paragraph_writes parent pieces p =
    elim (is_content_pieces pieces && not (is_content_branch parent)) as (λ b. AllWrite (if b then opening_of P [] ∷ pieces ++ closing_of P ∷ [] else pieces)) [
      | true ↦ (opens P, write-append pieces (closing_of P ∷ []) p (closing_writes P, tt))
      | false ↦ p
    ]

pub insertion_writes : (items : List PlainItem) (at : ℕ) (pieces : List PlainItem) (t : Transaction) → AllWrite items → AllWrite pieces → insertion items at pieces ≡ Ok t → InsertsWritten t
insertion_writes items at pieces t own given h =
    let p = if_ok_else (is_bad_offset items at) _ _ t h in
    let q = if_ok_else (is_mixed pieces) _ _ t p.1 in
    let placed = in_paragraph (kind_at items at) pieces in
    put placed (levels_up placed (stack_at items at)) (paragraph_writes (kind_at items at) pieces given) q.1
  where
    put : (placed : List PlainItem) (o : Option ℕ) → AllWrite placed → put_into items at placed o ≡ Ok t → InsertsWritten t
    put placed None given h = cc
    put placed (Some j) given h =
        answered {E = BuildCause} items (Change at 0 (reopened (take j (openings_at items at)) placed) ∷ []) t (reopened_writes items at j placed own given, tt) h

pub split_writes : (items : List PlainItem) (at depth : ℕ) (t : Transaction) → AllWrite items → split items at depth ≡ Ok t → InsertsWritten t
split_writes items at depth t own h =
    let p = if_ok_else (is_bad_offset items at) _ _ t h in
    let q = if_ok_else (not (is_content items at)) _ _ t p.1 in
    let r = if_ok_else (is_bad_depth (stack_at items at) depth) _ _ t q.1 in
    answered {E = BuildCause} items (Change at 0 (reopened (take depth (openings_at items at)) []) ∷ []) t (reopened_writes items at depth [] own tt, tt) r.1

-- the marks that typed text takes over
found_marks : (o : Option PlainItem) → FoundWrites o → are_marks (marks_of o) ≡ true
found_marks None p = refl
found_marks (Some (Char c marks)) p = (and_parts (is_text (c ∷ [])) (are_marks marks) p).1
found_marks (Some (Opening kind head marks pre origin generated)) p = opening_marks kind head marks pre origin generated p
found_marks (Some (Closing kind pre)) p = refl

marks_before_write : (items : List PlainItem) (at : ℕ) → AllWrite items → are_marks (marks_before items at) ≡ true
marks_before_write items zero p = refl
marks_before_write items (suc at) p = by (slice_get items at) (found_writes items at p)
  where
    by : (o : Option PlainItem) → FoundWrites o → are_marks (marks_after o items at) ≡ true
    by None q = refl
    by (Some (Char c marks)) q = found_marks (Some (Char c marks)) q
    by (Some (Opening kind head marks pre origin generated)) q = refl
    by (Some (Closing kind pre)) q =
        elim (is_inline_leaf kind) as (λ b. are_marks (if b then marks_of (slice_get items (partner items at)) else []) ≡ true)
        [ true ↦ found_marks (slice_get items (partner items at)) (found_writes items (partner items at) p) | false ↦ refl ]

pub typing_writes : (items : List PlainItem) (at : ℕ) (text : List ℕ) (t : Transaction) → is_text text ≡ true → AllWrite items →
    insertion items at (text_pieces (marks_before items at) text) ≡ Ok t → InsertsWritten t
typing_writes items at text t own p h =
    insertion_writes items at (text_pieces (marks_before items at) text) t p (pieces_write (marks_before items at) text (marks_before_write items at p) own) h

pub plain_typing_writes : (items : List PlainItem) (at : ℕ) (text : List ℕ) (t : Transaction) → is_text text ≡ true → AllWrite items → insertion items at (text_pieces [] text) ≡ Ok t → InsertsWritten t
plain_typing_writes items at text t own p h = insertion_writes items at (text_pieces [] text) t p (pieces_write [] text refl own) h

-- ---- removal

removal_edits_write : (items : List PlainItem) (from to : ℕ) (o : Option Join) → EditsWrite (removal_edits items from to o)
removal_edits_write items from to None = edits-map (λ at. Change at 1 []) (λ at. tt) (filter (λ at. not (is_unmatched items from to at)) (places_in from to))
removal_edits_write items from to (Some join) = (tt, by (kind_same join.first join.second))
  where
    by : (b : Bool) → EditsWrite (if b then [] else Change join.second_closing 1 (closing_of join.first ∷ []) ∷ [])
    by true = tt
    by false = ((closing_writes join.first, tt), tt)

pub removal_writes : (items : List PlainItem) (from to : ℕ) (t : Transaction) → removal items from to ≡ Ok t → InsertsWritten t
removal_writes items from to t h =
    let p = if_ok_else (is_bad_removal items from to) _ _ t h in
    let o = join_at items (unmatched_places items from to) in
    answered {E = BuildCause} items (removal_edits items from to o) t (removal_edits_write items from to o) p.1

-- ---- marks, kinds and attributes

module _ (f : List Mark → List Mark) (keeps : (marks : List Mark) → are_marks marks ≡ true → are_marks (f marks) ≡ true) where
  remark_edit_writes : (at : ℕ) (o : Option PlainItem) → FoundWrites o → EditsWrite (remark_edit f at o)
  remark_edit_writes at None h = tt
  remark_edit_writes at (Some item) h =
      elim (marks_same (item_marks (remarked f item)) (item_marks item)) as (λ b. EditsWrite (if b then [] else Change at 1 (remarked f item ∷ []) ∷ []))
      [ true ↦ tt | false ↦ ((remarked_writes f keeps item h, tt), tt) ]

  remark_writes : (items : List PlainItem) (places : List ℕ) → AllWrite items → EditsWrite (flat_map (λ at. remark_edit f at (slice_get items at)) places)
  remark_writes items places p = edits-each (λ at. remark_edit f at (slice_get items at)) (λ at. remark_edit_writes at (slice_get items at) (found_writes items at p)) places

-- a mark that is not bad
good_mark : (m : Mark) → is_bad_mark m ≡ false → is_spelled_mark m ≡ true → is_writable_mark m ≡ true
good_mark m good one =
    let p = or_parts (not (is_one_of annotation_tags m.tag)) (list_any (λ (a : Attr). is_reserved a.name) m.attrs) good in
    let q = and_parts (is_text m.tag && list_all is_attr m.attrs) (are_apart m.attrs) one in
    let heads = free_heads m.attrs (and_parts (is_text m.tag) (list_all is_attr m.attrs) q.0).1 (ap not p.1) in
    and_from (is_spelled_mark m) (is_mark true m) one (and_from (is_annotation_tag m.tag) (are_allowed true m.attrs) (not-false (is_one_of annotation_tags m.tag) p.0) (heads_allowed m.attrs heads))

pub marking_writes : (items : List PlainItem) (from to : ℕ) (m : Mark) (t : Transaction) → is_spelled_mark m ≡ true → AllWrite items → marking items from to m ≡ Ok t → InsertsWritten t
marking_writes items from to m t one p h =
    let a = if_ok_else (is_bad_span items from to) _ _ t h in
    let b = if_ok_else (is_bad_mark m) _ _ t a.1 in
    subst InsertsWritten (marked_is _ _ t b.1)
    (edits_write items (flat_map (λ at. remark_edit (with_mark m) at (slice_get items at)) (places_in from to))
    (remark_writes (with_mark m) (λ marks q. with_marks m marks (good_mark m b.0 one) q) items (places_in from to) p))

pub unmarking_writes : (items : List PlainItem) (from to : ℕ) (m : Mark) (t : Transaction) → AllWrite items → unmarking items from to m ≡ Ok t → InsertsWritten t
unmarking_writes items from to m t p h =
    let a = if_ok_else (is_bad_span items from to) _ _ t h in
    let b = if_ok_else (is_bad_mark m) _ _ t a.1 in
    answered {E = BuildCause} items (flat_map (λ at. remark_edit (without_mark m) at (slice_get items at)) (places_in from to)) t
    (remark_writes (without_mark m) (without_marks m) items (places_in from to) p) b.1

convert_piece : (kind : Kind) (o : Option PlainItem) → passes (opens_kind is_content_branch) o ≡ true → is_content_branch kind ≡ true → FoundWrites o → AllWrite (converted kind o)
convert_piece kind None e b p = tt
convert_piece kind (Some (Char c marks)) e b p = tt
convert_piece kind (Some (Closing old pre)) e b p = tt
convert_piece kind (Some (Opening old head marks pre origin generated)) e b p = (converted_writes old kind head marks pre origin generated e b p, tt)

pub convert_writes : (items : List PlainItem) (at : ℕ) (kind : Kind) (t : Transaction) → AllWrite items → convert items at kind ≡ Ok t → InsertsWritten t
convert_writes items at kind t p h =
    let a = if_ok_then (passes (opens_kind is_content_branch) (slice_get items at) && is_content_branch kind) _ _ t h in
    let b = and_parts (passes (opens_kind is_content_branch) (slice_get items at)) (is_content_branch kind) a.0 in
    answered {E = BuildCause} items (Change at 1 (converted kind (slice_get items at)) ∷ Change (partner items at) 1 (closing_of kind ∷ []) ∷ []) t
    (convert_piece kind (slice_get items at) b.0 b.1 (found_writes items at p), ((closing_writes kind, tt), tt)) a.1

pub attribute_writes : (items : List PlainItem) (at : ℕ) (name : List ℕ) (to : Option (List ℕ)) (t : Transaction) → AttrsPass is_attr (attr_of name to) → attribute items at name to ≡ Ok t → InsertsWritten t
attribute_writes items at name to t given h =
    let a = if_ok_then (passes (opens_kind is_element) (slice_get items at)) _ _ t h in
    let b = if_ok_else (is_reserved name) _ _ t a.1 in
    answered {E = BuildCause} items (Set at name to ∷ []) t (given, tt) b.1

-- ---- wrap

openings_of_write : (shapes : List Shape) → ShapesAreWritable shapes → AllWrite (openings_of shapes)
openings_of_write [] p = tt
openings_of_write (s ∷ shapes) p = (plain_writes s.kind s.attrs (λ e. p.0), openings_of_write shapes p.1)

closings_of_write : (shapes : List Shape) → AllWrite (closings_of shapes)
closings_of_write shapes = write-reverse (map (λ (s : Shape). closing_of s.kind) shapes) (each shapes)
  where
    each : (shapes : List Shape) → AllWrite (map (λ (s : Shape). closing_of s.kind) shapes)
    each [] = tt
    each (s ∷ shapes) = (closing_writes s.kind, each shapes)

pub wrap_writes : (items : List PlainItem) (from to : ℕ) (plan : WrapPlan) (t : Transaction) → ShapesAreWritable plan.wrap_outer → ShapesAreWritable plan.wrap_each → wrap items from to plan ≡ Ok t → InsertsWritten t
wrap_writes items from to plan t outer each h =
    let p = if_ok_else (is_bad_wrap items from to) _ _ t h in
    made (wrong_place items from to plan.unwrap_outer plan.unwrap_each) p.1
  where
    edits : EditsWrite (wrap_edits items from to plan)
    edits =
        let f : Open → List Edit = λ node. node_edits node.from (end_of_node items node.from) (length plan.unwrap_each) plan.wrap_each in (
          openings_of_write plan.wrap_outer outer,
          edits-append (flat_map f (nodes_in items from to)) (Change to (length plan.unwrap_outer) (closings_of plan.wrap_outer) ∷ [])
              (edits-each f (λ (node : Open). (openings_of_write plan.wrap_each each, (closings_of_write plan.wrap_each, tt))) (nodes_in items from to))
              (closings_of_write plan.wrap_outer, tt),
        )

    made : (o : Option ℕ) → wrapped_unless o (transaction_of items (wrap_edits items from to plan)) ≡ Ok t → InsertsWritten t
    made (Some at) h = cc
    made None h = answered {E = BuildCause} items (wrap_edits items from to plan) t edits h
