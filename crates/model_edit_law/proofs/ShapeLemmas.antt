-- The transactions of marking and unmarking, of converting and of setting an attribute are in
-- normal form, and apply.
use Rattle.std.specs.Prelude.{flat_map, slice_get}
use Rattle.std.proofs.Common.{◌≡◌, ℕ, zero, suc, ◌+◌, ◌-◌, ◌<◌, ◌≤◌, Bool, true, false, not, ◌&&◌, if◌then◌else◌, nat_lt, nat_le, List, [], ◌∷◌, ◌++◌, length, take, drop, Option, Some, None, Result, Ok, Err, refl, sym, ap, ◌∙◌, subst, arith}
use Rattle.std.proofs.lemmas.Bool.{and_parts, and_from, or_parts, leb-false, ltb-false}
use Rattle.ve_base.specs.declared.marks.Mark.{Mark}
use Rattle.model_items.specs.declared.plain_item.PlainItem.{PlainItem}
use Rattle.model_items.specs.Same.{marks_same}
use Rattle.model_items.proofs.LawLemmas.{Ok-same}
use Rattle.model_change.specs.Transaction.{Transaction, edited}
use Rattle.model_edit.specs.Causes.{BuildCause}
use Rattle.model_items.specs.Offsets.{is_bad_span, places_in, partner, passes}
use Rattle.model_edit_law.specs.Fine.{Fine}
use Rattle.model_edit.specs.Edits.{Change, transaction_of, Set, may_set}
use Rattle.model_edit_law.proofs.OrderLemmas.{Rising, Fine-Rising, Rising-within, Rising-each, Fine-edits}
use Rattle.ve_kinds.specs.declared.kind.Kind.{Kind}
use Rattle.model_items.specs.declared.plain_item.PlainItem.TheVariants.{Char, Opening, Closing}
use Rattle.ve_kinds.specs.Table.{is_content_branch, is_element}
use Rattle.model_items.specs.Law.{Lawful}
use Rattle.model_change.specs.Attributes.{is_reserved}
use Rattle.model_edit.specs.Brackets.{closing_of}
use Rattle.model_edit_law.proofs.EditLemmas.{edited-two}
use Rattle.model_edit_law.proofs.NodeLemmas.{HoldsSame-content, content_held, content_not_first, other_node_lawful}
use Rattle.model_edit_law.proofs.BracketLemmas.{node_parts, slice_get-split, slice_get-within}
use Rattle.model_edit.specs.Convert.{opens_kind, converted, convert, attribute}
use Rattle.model_items.specs.Marks.{with_mark, without_mark}
use Rattle.model_edit.specs.Marking.{remark, remark_edit, remarked, item_marks, marking, unmarking, marked_unless, is_bad_mark}

pub if_ok_else : {A E : Type 0} (b : Bool) (e : E) (r : Result A E) (t : A) → (if b then Err e else r) ≡ Ok t → (b ≡ false) × (r ≡ Ok t)
if_ok_else true e r t h = cc
if_ok_else false e r t h = (refl, h)

pub remark_rises : (f : List Mark → List Mark) (n : ℕ) (o : Option PlainItem) → Rising n (suc n) (remark_edit f n o)
remark_rises f n None = omega arith
remark_rises f n (Some item) =
    elim (marks_same (item_marks (remarked f item)) (item_marks item)) as (λ b. Rising n (suc n) (if b then [] else Change n 1 (remarked f item ∷ []) ∷ []))
    [ true ↦ omega arith | false ↦ (omega arith, omega arith) ]

-- what a range that is not refused tells
pub span_fits : (items : List PlainItem) (from to : ℕ) → is_bad_span items from to ≡ false → (from < to) × (to ≤ length items)
span_fits items from to h =
    let p = or_parts (nat_le to from) _ h in
    let q = or_parts (nat_lt (length items) to) _ p.1 in
    (leb-false to from p.0, ltb-false (length items) to q.0)

remark_fine : (f : List Mark → List Mark) (items : List PlainItem) (from to : ℕ) → is_bad_span items from to ≡ false →
    Fine items (remark f items from to)
remark_fine f items from to h =
    let s = span_fits items from to h in
    let low = s.0 in
    let high = s.1 in
    Fine-Rising items (flat_map (λ at. remark_edit f at (slice_get items at)) (places_in from to))
    (Rising-within from 0 (from + (to - from)) (length items) _ (omega arith) (omega arith)
    (Rising-each (λ at. remark_edit f at (slice_get items at)) (λ n. remark_rises f n (slice_get items n)) from (to - from)))

pub marked_is : (o : Option ℕ) (s t : Transaction) → marked_unless o s ≡ Ok t → s ≡ t
marked_is None s t h = Ok-same {E = BuildCause} s t h
marked_is (Some at) s t h = cc

pub marking_fine : (items : List PlainItem) (from to : ℕ) (m : Mark) (t : Transaction) → marking items from to m ≡ Ok t → Fine items t
marking_fine items from to m t h =
    let p = if_ok_else (is_bad_span items from to) _ _ t h in
    let q = if_ok_else (is_bad_mark m) _ _ t p.1 in
    let e = marked_is _ _ t q.1 in
    subst (Fine items) e (remark_fine (with_mark m) items from to p.0)

pub unmarking_fine : (items : List PlainItem) (from to : ℕ) (m : Mark) (t : Transaction) → unmarking items from to m ≡ Ok t → Fine items t
unmarking_fine items from to m t h =
    let p = if_ok_else (is_bad_span items from to) _ _ t h in
    let q = if_ok_else (is_bad_mark m) _ _ t p.1 in
    let e = Ok-same {E = BuildCause} _ t q.1 in
    subst (Fine items) e (remark_fine (without_mark m) items from to p.0)

pub if_ok_then : {A E : Type 0} (b : Bool) (e : E) (r : Result A E) (t : A) → (if b then r else Err e) ≡ Ok t → (b ≡ true) × (r ≡ Ok t)
if_ok_then true e r t h = (refl, h)
if_ok_then false e r t h = cc

-- an opening of a kind that passes
pub opening_there : (test : Kind → Bool) (o : Option PlainItem) → passes (opens_kind test) o ≡ true →
    (kind : Kind) × (head : Rattle.ve_base.specs.declared.head.Head.Head) × (marks : List Mark) × (pre : List ℕ) × (origin : Option ℕ) × (generated : Bool)
    × (o ≡ Some (Opening kind head marks pre origin generated)) × (test kind ≡ true)
opening_there test None h = cc
opening_there test (Some (Char c marks)) h = cc
opening_there test (Some (Closing kind pre)) h = cc
opening_there test (Some (Opening kind head marks pre origin generated)) h = (kind, head, marks, pre, origin, generated, refl, h)

pub convert_fine : (items : List PlainItem) (at : ℕ) (kind : Kind) (t : Transaction) → Lawful items → convert items at kind ≡ Ok t → Fine items t
convert_fine items at kind t lawful h =
    let p = if_ok_then (passes (opens_kind is_content_branch) (slice_get items at) && is_content_branch kind) _ _ t h in
    let x = opening_there is_content_branch (slice_get items at) (and_parts _ _ p.0).0 in
    let n = node_parts items at x.0 x.1 x.2 x.3 x.4 x.5 lawful x.6 in
    let far = n.its_partner in
    let within = n.within in
    let edits = Change at 1 (converted kind (slice_get items at)) ∷ Change (partner items at) 1 (closing_of kind ∷ []) ∷ [] in
    let rising : Rising 0 (length items) edits = (omega arith, (omega arith, omega arith)) in
    subst (Fine items) (Ok-same {E = BuildCause} (transaction_of items edits) t p.1) (Fine-Rising items edits rising)

pub from_place : (items : List PlainItem) (n : ℕ) (x : PlainItem) → slice_get items n ≡ Some x → drop n items ≡ x ∷ drop (suc n) items
from_place [] n x h = cc
from_place (y ∷ items) zero x h = ap (λ v. v ∷ items) (let e : y ≡ x = cc in e)
from_place (y ∷ items) (suc n) x h = from_place items n x h

pub attribute_fine : (items : List PlainItem) (at : ℕ) (name : List ℕ) (to : Option (List ℕ)) (t : Transaction) → attribute items at name to ≡ Ok t → Fine items t
attribute_fine items at name to t h =
    let p = if_ok_then (passes (opens_kind is_element) (slice_get items at)) _ _ t h in
    let q = if_ok_else (is_reserved name) _ _ t p.1 in
    let x = opening_there is_element (slice_get items at) p.0 in
    let within = slice_get-within items at _ x.6 in
    let edits = Set at name to ∷ [] in
    let s = slice_get-split items at _ x.6 in
    let may : may_set name (drop (at - 0) items) ≡ true =
    ap (λ n. may_set name (drop n items)) (omega arith) ∙ ap (may_set name) (from_place items at _ x.6) ∙ and_from _ _ x.7 (ap not q.0) in
    subst (Fine items) (Ok-same {E = BuildCause} (transaction_of items edits) t q.1) (Fine-edits items edits (omega arith, omega arith) (may, tt))

-- A converted branch leaves a lawful list lawful.
pub convert_lawful : (items : List PlainItem) (at : ℕ) (kind : Kind) (t : Transaction) → Lawful items → convert items at kind ≡ Ok t → Lawful (edited t items)
convert_lawful items at kind t lawful h =
    let p = if_ok_then (passes (opens_kind is_content_branch) (slice_get items at) && is_content_branch kind) _ _ t h in
    let q = and_parts (passes (opens_kind is_content_branch) (slice_get items at)) (is_content_branch kind) p.0 in
    let o = opening_there is_content_branch (slice_get items at) q.0 in
    let k = o.0 in
    let x = Opening k o.1 o.2 o.3 o.4 o.5 in
    let x' = Opening kind o.1 o.2 o.3 None false in
    let n = node_parts items at k o.1 o.2 o.3 o.4 o.5 lawful o.6 in
    let c = n.closed in
    let s = slice_get-split items at x o.6 in
    let far = n.its_partner in
    let place = s.1 in
    let whole : items ≡ take at items ++ (x ∷ (c.inside ++ (Closing k c.pre ∷ c.rest))) = s.0 ∙ ap (λ v. take at items ++ (x ∷ v)) c.whole in
    let two = edited-two (take at items) (x ∷ []) c.inside (Closing k c.pre ∷ []) c.rest (x' ∷ []) (closing_of kind ∷ [])
    items at 1 (partner items at) 1 whole (sym place) refl (omega arith) refl in
    let edits = Change at 1 (converted kind (slice_get items at)) ∷ Change (partner items at) 1 (closing_of kind ∷ []) ∷ [] in
    let new : edited (transaction_of items edits) items ≡ take at items ++ (x' ∷ (c.inside ++ (closing_of kind ∷ c.rest))) =
    ap (λ v. edited (transaction_of items (Change at 1 (converted kind v) ∷ Change (partner items at) 1 (closing_of kind ∷ []) ∷ [])) items) o.6 ∙ two.0 in
    let lawful' = other_node_lawful items at k kind o.1 o.1 o.2 o.2 o.3 o.3 [] o.4 None o.5 false lawful o.6 n
    (content_not_first k o.7) (content_not_first kind q.1) (HoldsSame-content k kind o.7 q.1)
    (λ parent. content_held parent kind q.1 ∙ sym (content_held parent k o.7)) in
    let e = Ok-same {E = BuildCause} (transaction_of items edits) t p.1 in
    subst (λ v. Lawful (edited v items)) e (subst Lawful (sym new) lawful')
