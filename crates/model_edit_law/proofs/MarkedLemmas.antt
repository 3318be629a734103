-- Marks set and taken, and an attribute set, leave a lawful list lawful.
use Rattle.std.specs.Prelude.{flat_map, slice_get}
use Rattle.std.specs.List.{range_with_len}
use Rattle.std.proofs.Common.{◌≡◌, ℕ, zero, suc, ◌+◌, ◌-◌, Bool, true, false, if◌then◌else◌, List, [], ◌∷◌, ◌++◌, length, take, drop, Option, Some, None, Ok, refl, sym, ap, ◌∙◌, subst, arith}
use Rattle.ve_base.specs.declared.marks.Mark.{Mark}
use Rattle.model_items.specs.declared.plain_item.PlainItem.{PlainItem}
use Rattle.model_items.specs.declared.plain_item.PlainItem.TheVariants.{Char, Opening, Closing}
use Rattle.model_items.specs.Same.{marks_same}
use Rattle.model_items.specs.Law.{State, step, outcome_then, after, Lawful}
use Rattle.model_items.proofs.LawLemmas.{Ok-same}
use Rattle.ve_kinds.specs.Table.{is_element}
use Rattle.model_change.specs.Attributes.{is_reserved}
use Rattle.model_change.specs.Transaction.{edited}
use Rattle.model_edit.specs.Causes.{BuildCause}
use Rattle.model_items.specs.Offsets.{is_bad_span, places_in, passes}
use Rattle.model_edit.specs.Edits.{Edit, Change, Set, transaction_of}
use Rattle.model_edit.specs.Convert.{opens_kind}
use Rattle.model_items.specs.Marks.{with_mark, without_mark}
use Rattle.model_edit.specs.Marking.{remark, remark_edit, remarked, item_marks, is_bad_mark}
use Rattle.model_edit_law.specs.ShapeLaws.{MarkingStaysLawful, UnmarkingStaysLawful, AttributeStaysLawful}
use Rattle.model_edit_law.proofs.BracketLemmas.{slice_get-within}
use Rattle.model_edit_law.proofs.OrderLemmas.{InOrder-Rising, Rising-within, Rising-each}
use Rattle.model_edit_law.proofs.ShapeLemmas.{if_ok_else, if_ok_then, remark_rises, span_fits, marked_is, opening_there, from_place}
use Rattle.model_edit_law.proofs.NeutralLemmas.{EachNeutral, neutral_lawful}

-- the law reads no marks
step_remarked : (f : List Mark → List Mark) (s : State) (item : PlainItem) → step s (remarked f item) ≡ step s item
step_remarked f s (Char c marks) = refl
step_remarked f s (Opening kind head marks pre origin generated) = refl
step_remarked f s (Closing kind pre) = refl

remark_neutral : (f : List Mark → List Mark) (items : List PlainItem) (n : ℕ) (o : Option PlainItem) → slice_get items n ≡ o → EachNeutral items (remark_edit f n o)
remark_neutral f items n None h = tt
remark_neutral f items n (Some item) h = by (marks_same (item_marks (remarked f item)) (item_marks item))
  where
    leads : (s v : State) → after s (take 1 (drop n items)) ≡ Ok v → after s (remarked f item ∷ []) ≡ Ok v
    leads s v p =
        ap (λ r. outcome_then 1 r (λ next. after next [])) (step_remarked f s item)
        ∙ ap (after s) (ap (take 1) (sym (from_place items n item h))) ∙ p

    by : (same : Bool) → EachNeutral items (if same then [] else Change n 1 (remarked f item ∷ []) ∷ [])
    by true = tt
    by false = (leads, tt)

neutral_append : (items : List PlainItem) (xs ys : List Edit) → EachNeutral items xs → EachNeutral items ys → EachNeutral items (xs ++ ys)
neutral_append items [] ys h g = g
neutral_append items (Change place count inserted ∷ xs) ys h g = (h.0, neutral_append items xs ys h.1 g)
neutral_append items (Set place name to ∷ xs) ys h g = neutral_append items xs ys h g

neutral_range : (f : List Mark → List Mark) (items : List PlainItem) (from count : ℕ) →
    EachNeutral items (flat_map (λ at. remark_edit f at (slice_get items at)) (range_with_len from count))
neutral_range f items from zero = tt
neutral_range f items from (suc count) =
    neutral_append items (remark_edit f from (slice_get items from)) _ (remark_neutral f items from (slice_get items from) refl) (neutral_range f items (from + 1) count)

remark_lawful : (f : List Mark → List Mark) (items : List PlainItem) (from to : ℕ) → Lawful items → is_bad_span items from to ≡ false →
    Lawful (edited (remark f items from to) items)
remark_lawful f items from to lawful h =
    let s = span_fits items from to h in
    let low = s.0 in
    let high = s.1 in
    let edits = flat_map (λ at. remark_edit f at (slice_get items at)) (places_in from to) in
    neutral_lawful items edits lawful
    (InOrder-Rising 0 (length items) edits
    (Rising-within from 0 (from + (to - from)) (length items) edits (omega arith) (omega arith)
    (Rising-each (λ at. remark_edit f at (slice_get items at)) (λ n. remark_rises f n (slice_get items n)) from (to - from))))
    (neutral_range f items from (to - from))

pub marking_lawful : MarkingStaysLawful
marking_lawful items from to m t lawful h =
    let p = if_ok_else (is_bad_span items from to) _ _ t h in
    let q = if_ok_else (is_bad_mark m) _ _ t p.1 in
    subst (λ v. Lawful (edited v items)) (marked_is _ _ t q.1) (remark_lawful (with_mark m) items from to lawful p.0)

pub unmarking_lawful : UnmarkingStaysLawful
unmarking_lawful items from to m t lawful h =
    let p = if_ok_else (is_bad_span items from to) _ _ t h in
    let q = if_ok_else (is_bad_mark m) _ _ t p.1 in
    subst (λ v. Lawful (edited v items)) (Ok-same {E = BuildCause} _ t q.1) (remark_lawful (without_mark m) items from to lawful p.0)

pub attribute_lawful : AttributeStaysLawful
attribute_lawful items at name to t lawful h =
    let p = if_ok_then (passes (opens_kind is_element) (slice_get items at)) _ _ t h in
    let q = if_ok_else (is_reserved name) _ _ t p.1 in
    let x = opening_there is_element (slice_get items at) p.0 in
    let within = slice_get-within items at _ x.6 in
    let edits = Set at name to ∷ [] in
    subst (λ v. Lawful (edited v items)) (Ok-same {E = BuildCause} (transaction_of items edits) t q.1)
    (neutral_lawful items edits lawful (omega arith, omega arith) tt)
