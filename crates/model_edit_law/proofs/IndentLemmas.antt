-- Moving a list item deeper keeps characters and leaves in order, and leaves a lawful list, but for
-- nesting.
use Rattle.std.proofs.Common.{◌≡◌, ◌⊎◌, inl, inr, ℕ, zero, suc, ◌+◌, ◌-◌, Bool, true, false, cond, if◌then◌else◌, List, [], ◌∷◌, ◌++◌, length, take, drop, Option, Some, None, Result, Ok, Err, refl, sym, ap, ◌∙◌, subst, arith, length-append}
use Rattle.std.specs.Prelude.{filter, slice_get}
use Rattle.std.proofs.lemmas.Bool.{and_parts, and_from, cases_Bool}
use Rattle.std.proofs.lemmas.List.{append_assoc}
use Rattle.ve_kinds.specs.declared.kind.Kind.{Kind}
use Rattle.ve_kinds.specs.declared.kind.Kind.TheVariants.{Ul, Ol, Li, InternalList}
use Rattle.ve_base.specs.declared.head.Head.{Head}
use Rattle.ve_base.specs.declared.marks.Mark.{Mark}
use Rattle.model_items.specs.declared.plain_item.PlainItem.{PlainItem}
use Rattle.model_items.specs.declared.plain_item.PlainItem.TheVariants.{Opening, Closing}
use Rattle.ve_kinds.specs.Table.{kind_same, may_hold, is_leaf}
use Rattle.model_items.proofs.SameLemmas.{Means-kind_same}
use Rattle.model_items.specs.declared.law_fault.LawFault.{LawFault}
use Rattle.model_items.specs.declared.law_fault.LawFault.TheVariants.{Unlawful, TooDeep}
use Rattle.model_items.specs.Law.{State, start, top, may_open, step, outcome_then, outcome_moved, after, verdict, Lawful}
use Rattle.model_items.proofs.LawLemmas.{Ok-same, joined-ok, after_parts, closed_before, piece_fits, piece_fails}
use Rattle.model_change.specs.Transaction.{Transaction, edited}
use Rattle.model_edit.specs.Brackets.{opening_of, closing_of, is_closing_of}
use Rattle.model_items.specs.Offsets.{kind_at, end_of_node}
use Rattle.model_edit.specs.Edits.{Change, transaction_of, InOrder, MaySet}
use Rattle.model_edit_law.proofs.EditLemmas.{edited-two, filter-append}
use Rattle.model_edit_law.proofs.BracketLemmas.{state_of, stack_at-after, slice_get-split, HoldsSame-itself, Leads, leads_cons, leads_append, opened_leads, NodeParts, node_parts}
use Rattle.model_edit_law.proofs.NodeLemmas.{whole_node, opened_state}
use Rattle.model_edit.specs.Causes.{ListCause, NoSibling}
use Rattle.model_edit.specs.Lists.{is_list_item, passes_before, list_ends, indent_edits, indent}
use Rattle.model_edit_law.specs.ListLaws.{joins_list, is_character_or_leaf, IndentIsFine, IndentKeepsText, IndentStaysLawful}
use Rattle.model_edit_law.specs.Fine.{Fine}
use Rattle.model_edit_law.proofs.OrderLemmas.{Fine-edits}
use Rattle.model_edit_law.proofs.ListLemmas.{if_ok_then, opening_shape, closing_shape}

-- what holds an item is a list
pub holds_item : (k : Kind) → may_hold k Li ≡ true → (may_hold Li k ≡ true) × (kind_same k InternalList ≡ false) × (is_leaf k ≡ false)
holds_item Ul h = (refl, refl, refl)
holds_item Ol h = (refl, refl, refl)
holds_item _ h = cc

take_more : (items : List PlainItem) (n : ℕ) (c : PlainItem) → slice_get items n ≡ Some c → take (suc n) items ≡ take n items ++ c ∷ []
take_more [] n c h = cc
take_more (x ∷ items) zero c h = ap (λ v. v ∷ []) (let e : x ≡ c = cc in e)
take_more (x ∷ items) (suc n) c h = ap (λ v. x ∷ v) (take_more items n c h)

-- a piece that leads to the same state, but for nesting
leads_verdict : (X A Z new : List PlainItem) (s t : State) → Lawful (X ++ (A ++ Z)) → after start X ≡ Ok s → after s A ≡ Ok t → Leads (after s new) t →
    (verdict (X ++ (new ++ Z)) ≡ None) ⊎ ((n : ℕ) × (verdict (X ++ (new ++ Z)) ≡ Some (TooDeep n)))
leads_verdict X A Z new s t lawful p q h =
    elim h [
      | inl fits_ ↦ inl (piece_fits X A Z new s t lawful p q fits_)
      | inr deep ↦ inr (length X + deep.0, piece_fails X new Z s (TooDeep deep.0) p deep.1)
    ]

may_open_in : (k inner : Kind) (outer : List Kind) (seen : Bool) → may_hold inner k ≡ true → kind_same k InternalList ≡ false → may_open (state_of (inner ∷ outer) seen) k ≡ true
may_open_in k inner outer seen h other = and_from _ _ h (ap (λ b. if b then false else true) other)

close_leads : (k : Kind) (pre : List ℕ) (outer : List Kind) (seen : Bool) → Leads (step (state_of (k ∷ outer) seen) (Closing k pre)) (state_of outer seen)
close_leads k pre outer seen = inl (ap (λ b. if b then Ok (state_of outer seen) else Err (Unlawful 0)) (Means-kind_same.itself k))

-- The parts round an item that has a sibling before it.
record Sibling (items : List PlainItem) (a : ℕ) : Type 0 where
  pub head : Head
  pub marks : List Mark
  pub pre : List ℕ
  pub origin : Option ℕ
  pub generated : Bool
  pub white : List ℕ
  pub parts : NodeParts items (suc a) Li
  pub before : slice_get items a ≡ Some (Closing Li white)
  pub its_own : slice_get items (suc a) ≡ Some (Opening Li head marks pre origin generated)

module _ (items : List PlainItem) (a : ℕ) (lawful : Lawful items) (r : Sibling items a) where
  abbrev x : PlainItem
  x = Opening Li r.head r.marks r.pre r.origin r.generated

  abbrev c1 : PlainItem
  c1 = Closing Li r.white

  abbrev inside : List PlainItem
  inside = r.parts.closed.inside

  abbrev cx : PlainItem
  cx = Closing Li r.parts.closed.pre

  abbrev rest : List PlainItem
  rest = r.parts.closed.rest

  abbrev u : State
  u = r.parts.before

  abbrev k : Kind
  k = top u.stack

  there : kind_at items (suc a) ≡ k
  there = ap top (stack_at-after items (suc a) u r.parts.reached)

  prefix_length : length (take a items) ≡ a
  prefix_length = (slice_get-split items a c1 r.before).1

  whole : items ≡ take a items ++ (c1 ∷ (x ∷ (inside ++ (cx ∷ rest))))
  whole =
      (slice_get-split items (suc a) x r.its_own).0
      ∙ ap (λ v. v ++ x ∷ drop (suc (suc a)) items) (take_more items a c1 r.before)
      ∙ append_assoc (take a items) (c1 ∷ []) (x ∷ drop (suc (suc a)) items)
      ∙ ap (λ v. take a items ++ (c1 ∷ (x ∷ v))) r.parts.closed.whole

  -- the state before the sibling's closing
  sibling_state : (s : State) × (after start (take a items) ≡ Ok s) × (s ≡ state_of (Li ∷ u.stack) u.seen)
  sibling_state =
      let p = after_parts (take a items) (c1 ∷ []) start u (ap (after start) (sym (take_more items a c1 r.before)) ∙ r.parts.reached) in
      let q = joined-ok 1 (step p.0 c1) (λ next. Ok next) u p.2 in
      let b = closed_before (p.0).stack (p.0).seen Li q.0 q.1 in
      let e = Ok-same {E = LawFault} q.0 u q.2 in
      (p.0, p.1, λ i. state_of ((b.0 ∙ ap (λ (v : State). Li ∷ v.stack) e) i) ((b.1 ∙ ap (λ (v : State). v.seen) e) i))

  holds : may_hold k Li ≡ true
  holds = (and_parts (may_hold k Li) _ (opened_state u r.parts.allowed.0 Li refl r.parts.allowed.1).0).0

  list_facts : (may_hold Li k ≡ true) × (kind_same k InternalList ≡ false) × (is_leaf k ≡ false)
  list_facts = holds_item k holds

  -- the item itself leads back to its state
  item_kept : after u (x ∷ (inside ++ cx ∷ [])) ≡ Ok u
  item_kept =
      let o = opened_state u r.parts.allowed.0 Li refl r.parts.allowed.1 in
      whole_node u Li Li x r.parts.closed.pre (drop (suc (suc a)) items) r.parts.closed (HoldsSame-itself Li) (r.parts.allowed.1 ∙ ap Ok o.2)

  -- the item, in a list in an item, and the closings of these
  item_deeper : Leads (after (state_of (k ∷ Li ∷ u.stack) u.seen) (x ∷ (inside ++ (cx ∷ list_ends k)))) u
  item_deeper =
      let outer = k ∷ Li ∷ u.stack in
      leads_cons (state_of outer u.seen) (state_of (Li ∷ outer) u.seen) u x (inside ++ (cx ∷ list_ends k))
      (opened_leads (state_of outer u.seen) Li (may_open_in Li k (Li ∷ u.stack) u.seen holds refl) refl)
      (leads_append (state_of (Li ∷ outer) u.seen) (state_of (Li ∷ outer) u.seen) u inside (cx ∷ list_ends k)
      (r.parts.closed.leads Li outer u.seen (HoldsSame-itself Li))
      (leads_cons (state_of (Li ∷ outer) u.seen) (state_of outer u.seen) u cx (list_ends k) (close_leads Li r.parts.closed.pre outer u.seen)
      (leads_cons (state_of outer u.seen) (state_of (Li ∷ u.stack) u.seen) u (closing_of k) (closing_of Li ∷ []) (close_leads k [] (Li ∷ u.stack) u.seen)
      (leads_cons (state_of (Li ∷ u.stack) u.seen) u u (closing_of Li) [] (close_leads Li [] u.stack u.seen) (inl refl)))))

  regrouped : (others : List PlainItem) → (x ∷ (inside ++ cx ∷ [])) ++ others ≡ x ∷ (inside ++ cx ∷ others)
  regrouped others = ap (λ v. x ∷ v) (append_assoc inside (cx ∷ []) others)

  -- the item with the closings after it
  abbrev moved : List PlainItem
  moved = x ∷ (inside ++ (cx ∷ list_ends k))

  far : end_of_node items (suc a) ≡ suc (suc a + suc (length inside))
  far = ap suc r.parts.its_partner

  body_length : length (x ∷ (inside ++ cx ∷ [])) ≡ suc (suc (length inside))
  body_length = omega (arith, length-append inside (cx ∷ []))

  moved_rest : (x ∷ (inside ++ cx ∷ [])) ++ (list_ends k ++ rest) ≡ moved ++ rest
  moved_rest = regrouped (list_ends k ++ rest) ∙ ap (λ v. x ∷ v) (sym (append_assoc inside (cx ∷ list_ends k) rest))

  -- where a new list is made
  alone_new : joins_list items (suc a) ≡ false →
      (edited (transaction_of items (indent_edits items (suc a) (kind_at items (suc a)))) items ≡ take a items ++ ((opening_of k [] ∷ moved) ++ rest))
      × InOrder 0 (length items) (indent_edits items (suc a) (kind_at items (suc a)))
  alone_new joins =
      let at = suc a in
      let edits : indent_edits items at (kind_at items at) ≡ Change (at - 1) 1 (opening_of k [] ∷ []) ∷ Change (end_of_node items at) 0 (list_ends k) ∷ [] =
      ap (λ b. (if b then Change (at - 2) 2 [] else Change (at - 1) 1 (opening_of (kind_at items at) [] ∷ [])) ∷ Change (end_of_node items at) 0 (list_ends (kind_at items at)) ∷ []) joins
      ∙ ap (λ v. Change (at - 1) 1 (opening_of v [] ∷ []) ∷ Change (end_of_node items at) 0 (list_ends v) ∷ []) there in
      let l = prefix_length in
      let m = body_length in
      let e = far in
      let two = edited-two (take a items) (c1 ∷ []) (x ∷ (inside ++ cx ∷ [])) [] rest (opening_of k [] ∷ []) (list_ends k)
      items (at - 1) 1 (end_of_node items at) 0
      (whole ∙ ap (λ v. take a items ++ (c1 ∷ v)) (sym (regrouped rest))) (omega arith) refl (omega arith) refl in
      (ap (λ v. edited (transaction_of items v) items) edits ∙ two.0 ∙ ap (λ v. take a items ++ (opening_of k [] ∷ v)) moved_rest, subst (InOrder 0 (length items)) (sym edits) two.1)

  abbrev Stays : List PlainItem → Type 0
  Stays new = (verdict new ≡ None) ⊎ ((n : ℕ) × (verdict new ≡ Some (TooDeep n)))

  old_parts : items ≡ take a items ++ ((c1 ∷ (x ∷ (inside ++ cx ∷ []))) ++ rest)
  old_parts = whole ∙ ap (λ v. take a items ++ (c1 ∷ v)) (sym (regrouped rest))

  sibling_kept : after (state_of (Li ∷ u.stack) u.seen) (c1 ∷ (x ∷ (inside ++ cx ∷ []))) ≡ Ok u
  sibling_kept =
      ap (λ b. outcome_then 1 (if b then Ok (state_of u.stack u.seen) else Err (Unlawful 0)) (λ next. after next (x ∷ (inside ++ cx ∷ [])))) (Means-kind_same.itself Li)
      ∙ ap (outcome_moved 1) item_kept

  alone_stays : Stays (take a items ++ ((opening_of k [] ∷ moved) ++ rest))
  alone_stays =
      let s = sibling_state in
      let f = list_facts in
      leads_verdict (take a items) (c1 ∷ (x ∷ (inside ++ cx ∷ []))) rest (opening_of k [] ∷ moved) (state_of (Li ∷ u.stack) u.seen) u
      (subst Lawful old_parts lawful) (s.1 ∙ ap Ok s.2) sibling_kept
      (leads_cons (state_of (Li ∷ u.stack) u.seen) (state_of (k ∷ Li ∷ u.stack) u.seen) u (opening_of k []) moved
      (opened_leads (state_of (Li ∷ u.stack) u.seen) k (may_open_in k Li u.stack u.seen f.0 f.1) f.1)
      item_deeper)

  -- where the item joins a list
  module _ (b : ℕ) (white : List ℕ) (e : a ≡ suc b) (list : slice_get items b ≡ Some (Closing k white)) where
    abbrev ck : PlainItem
    ck = Closing k white

    prefix_more : take a items ≡ take b items ++ ck ∷ []
    prefix_more = ap (λ n. take n items) e ∙ take_more items b ck list

    whole_more : items ≡ take b items ++ ((ck ∷ c1 ∷ (x ∷ (inside ++ cx ∷ []))) ++ rest)
    whole_more =
        old_parts ∙ ap (λ v. v ++ ((c1 ∷ (x ∷ (inside ++ cx ∷ []))) ++ rest)) prefix_more
        ∙ append_assoc (take b items) (ck ∷ []) ((c1 ∷ (x ∷ (inside ++ cx ∷ []))) ++ rest)

    joined_new : joins_list items (suc a) ≡ true →
        (edited (transaction_of items (indent_edits items (suc a) (kind_at items (suc a)))) items ≡ take b items ++ (moved ++ rest))
        × InOrder 0 (length items) (indent_edits items (suc a) (kind_at items (suc a)))
    joined_new joins =
        let at = suc a in
        let edits : indent_edits items at (kind_at items at) ≡ Change (at - 2) 2 [] ∷ Change (end_of_node items at) 0 (list_ends k) ∷ [] =
        ap (λ v. (if v then Change (at - 2) 2 [] else Change (at - 1) 1 (opening_of (kind_at items at) [] ∷ [])) ∷ Change (end_of_node items at) 0 (list_ends (kind_at items at)) ∷ []) joins
        ∙ ap (λ v. Change (at - 2) 2 [] ∷ Change (end_of_node items at) 0 (list_ends v) ∷ []) there in
        let l : length (take b items) ≡ b = (slice_get-split items b ck list).1 in
        let m = body_length in
        let g = far in
        let two = edited-two (take b items) (ck ∷ c1 ∷ []) (x ∷ (inside ++ cx ∷ [])) [] rest [] (list_ends k)
        items (at - 2) 2 (end_of_node items at) 0 whole_more (omega arith) refl (omega arith) refl in
        (ap (λ v. edited (transaction_of items v) items) edits ∙ two.0 ∙ ap (λ v. take b items ++ v) moved_rest, subst (InOrder 0 (length items)) (sym edits) two.1)

    joined_stays : Stays (take b items ++ (moved ++ rest))
    joined_stays =
        let s = sibling_state in
        let p = after_parts (take b items) (ck ∷ []) start (state_of (Li ∷ u.stack) u.seen) (ap (after start) (sym prefix_more) ∙ s.1 ∙ ap Ok s.2) in
        let q = joined-ok 1 (step p.0 ck) (λ next. Ok next) (state_of (Li ∷ u.stack) u.seen) p.2 in
        let c = closed_before (p.0).stack (p.0).seen k q.0 q.1 in
        let same = Ok-same {E = LawFault} q.0 (state_of (Li ∷ u.stack) u.seen) q.2 in
        let before : p.0 ≡ state_of (k ∷ Li ∷ u.stack) u.seen = λ i. state_of ((c.0 ∙ ap (λ (v : State). k ∷ v.stack) same) i) ((c.1 ∙ ap (λ (v : State). v.seen) same) i) in
        let kept : after (state_of (k ∷ Li ∷ u.stack) u.seen) (ck ∷ c1 ∷ (x ∷ (inside ++ cx ∷ []))) ≡ Ok u =
        ap (λ v. outcome_then 1 (if v then Ok (state_of (Li ∷ u.stack) u.seen) else Err (Unlawful 0)) (λ next. after next (c1 ∷ (x ∷ (inside ++ cx ∷ []))))) (Means-kind_same.itself k)
        ∙ ap (outcome_moved 1) sibling_kept in
        leads_verdict (take b items) (ck ∷ c1 ∷ (x ∷ (inside ++ cx ∷ []))) rest moved (state_of (k ∷ Li ∷ u.stack) u.seen) u
        (subst Lawful whole_more lawful) (p.1 ∙ ap Ok before) kept item_deeper

  -- the characters and leaves in the parts
  abbrev only : List PlainItem → List PlainItem
  only = filter is_character_or_leaf

  only_moved : only (moved ++ rest) ≡ only inside ++ only rest
  only_moved =
      ap only (append_assoc (x ∷ inside) (cx ∷ list_ends k) rest)
      ∙ filter-append is_character_or_leaf inside (cx ∷ (list_ends k ++ rest))
      ∙ ap (λ v. only inside ++ cond v (closing_of k ∷ only rest) (only rest)) list_facts.2

  only_old : only ((x ∷ (inside ++ cx ∷ [])) ++ rest) ≡ only inside ++ only rest
  only_old = ap only (regrouped rest) ∙ filter-append is_character_or_leaf inside (cx ∷ rest)

  alone_text : only (take a items ++ ((opening_of k [] ∷ moved) ++ rest)) ≡ only items
  alone_text =
      filter-append is_character_or_leaf (take a items) (opening_of k [] ∷ (moved ++ rest))
      ∙ ap (λ v. only (take a items) ++ cond v (opening_of k [] ∷ only (moved ++ rest)) (only (moved ++ rest))) list_facts.2
      ∙ ap (λ v. only (take a items) ++ v) (only_moved ∙ sym only_old)
      ∙ sym (filter-append is_character_or_leaf (take a items) (c1 ∷ ((x ∷ (inside ++ cx ∷ [])) ++ rest)))
      ∙ ap only (sym old_parts)

  joined_text : (b : ℕ) (white : List ℕ) (e : a ≡ suc b) (list : slice_get items b ≡ Some (Closing k white)) → only (take b items ++ (moved ++ rest)) ≡ only items
  joined_text b white e list =
      filter-append is_character_or_leaf (take b items) (moved ++ rest)
      ∙ ap (λ v. only (take b items) ++ v) (only_moved ∙ sym only_old)
      ∙ ap (λ v. only (take b items) ++ cond v (Closing k white ∷ only ((x ∷ (inside ++ cx ∷ [])) ++ rest)) (only ((x ∷ (inside ++ cx ∷ [])) ++ rest))) (sym list_facts.2)
      ∙ sym (filter-append is_character_or_leaf (take b items) (Closing k white ∷ c1 ∷ ((x ∷ (inside ++ cx ∷ [])) ++ rest)))
      ∙ ap only (sym (whole_more b white e list))

  -- what `indent` gives, in either case
  abbrev Kept : List PlainItem → Type 0
  Kept new = Stays new × (only new ≡ only items)

  abbrev KeptInOrder : Type 0
  KeptInOrder = Kept (edited (transaction_of items (indent_edits items (suc a) (kind_at items (suc a)))) items) × InOrder 0 (length items) (indent_edits items (suc a) (kind_at items (suc a)))

  kept : KeptInOrder
  kept =
      elim (cases_Bool (joins_list items (suc a))) [
        | inr alone_ ↦ (subst Kept (sym (alone_new alone_).0) (alone_stays, alone_text), (alone_new alone_).1)
        | inl joins ↦ by_list a refl joins
      ]
    where
      by_list : (n : ℕ) → a ≡ n → joins_list items (suc a) ≡ true → KeptInOrder
      by_list zero e joins =
          let n : 0 ≡ suc a - 1 = omega arith in
          let h : passes_before (is_closing_of (kind_at items (suc a))) items 0 ≡ true = ap (passes_before (is_closing_of (kind_at items (suc a))) items) n ∙ joins in
          cc
      by_list (suc b) e joins =
          let n : suc b ≡ suc a - 1 = omega arith in
          let h : passes_before (is_closing_of (kind_at items (suc a))) items (suc b) ≡ true = ap (passes_before (is_closing_of (kind_at items (suc a))) items) n ∙ joins in
          let s = closing_shape (kind_at items (suc a)) (slice_get items b) h in
          let list : slice_get items b ≡ Some (Closing k s.0) = s.1 ∙ ap (λ v. Some (Closing v s.0)) there in
          let new = joined_new b s.0 e list joins in
          (subst Kept (sym new.0) (joined_stays b s.0 e list, joined_text b s.0 e list), new.1)

-- no attribute is set
indent_sets_none : (items : List PlainItem) (at : ℕ) (kind : Kind) → MaySet 0 items (indent_edits items at kind)
indent_sets_none items at kind = by (passes_before (is_closing_of kind) items (at - 1))
  where
    by : (joins : Bool) → MaySet 0 items
        ((if joins then Change (at - 2) 2 [] else Change (at - 1) 1 (opening_of kind [] ∷ [])) ∷ Change (end_of_node items at) 0 (list_ends kind) ∷ [])
    by true = tt
    by false = tt

-- what an indent that was not refused tells
sibling_of : (items : List PlainItem) (at : ℕ) (t : Transaction) → Lawful items → indent items at ≡ Ok t →
    (a : ℕ) × (at ≡ suc a) × Sibling items a × (transaction_of items (indent_edits items at (kind_at items at)) ≡ t)
sibling_of items zero t lawful h =
    let a = if_ok_then (is_list_item items 0) _ _ t h in
    let b : ◌≡◌ {A = Result Transaction ListCause} (Err (NoSibling 0)) (Ok t) = a.1 in cc
sibling_of items (suc a) t lawful h =
    let p = if_ok_then (is_list_item items (suc a)) _ _ t h in
    let q = if_ok_then (passes_before (is_closing_of Li) items (suc a)) _ _ t p.1 in
    let o = opening_shape Li (slice_get items (suc a)) p.0 in
    let c = closing_shape Li (slice_get items a) q.0 in (
      a,
      refl,
      record {
        head = o.0;
        marks = o.1;
        pre = o.2;
        origin = o.3;
        generated = o.4;
        white = c.0;
        parts = node_parts items (suc a) Li o.0 o.1 o.2 o.3 o.4 lawful o.5;
        before = c.1;
        its_own = o.5;
      },
      Ok-same {E = ListCause} _ t q.1,
    )

pub indent_order : (items : List PlainItem) (at : ℕ) (t : Transaction) → Lawful items → indent items at ≡ Ok t →
    InOrder 0 (length items) (indent_edits items at (kind_at items at)) × (transaction_of items (indent_edits items at (kind_at items at)) ≡ t)
indent_order items at t lawful h =
    let s = sibling_of items at t lawful h in
    (subst (λ n. InOrder 0 (length items) (indent_edits items n (kind_at items n))) (sym s.1) (kept items s.0 lawful s.2).1, s.3)

indent_keeps : (items : List PlainItem) (at : ℕ) (t : Transaction) → Lawful items → indent items at ≡ Ok t →
    (((verdict (edited t items) ≡ None) ⊎ ((n : ℕ) × (verdict (edited t items) ≡ Some (TooDeep n)))) × (filter is_character_or_leaf (edited t items) ≡ filter is_character_or_leaf items)) × Fine items t
indent_keeps items at t lawful h =
    let s = sibling_of items at t lawful h in
    let P : List PlainItem → Type 0 = λ new. ((verdict new ≡ None) ⊎ ((n : ℕ) × (verdict new ≡ Some (TooDeep n)))) × (filter is_character_or_leaf new ≡ filter is_character_or_leaf items) in
    let k : P (edited (transaction_of items (indent_edits items at (kind_at items at))) items) × InOrder 0 (length items) (indent_edits items at (kind_at items at)) =
    subst (λ n. P (edited (transaction_of items (indent_edits items n (kind_at items n))) items) × InOrder 0 (length items) (indent_edits items n (kind_at items n))) (sym s.1) (kept items s.0 lawful s.2) in
    let fine : Fine items (transaction_of items (indent_edits items at (kind_at items at))) = Fine-edits items (indent_edits items at (kind_at items at)) k.1 (indent_sets_none items at (kind_at items at)) in
    subst (λ v. P (edited v items) × Fine items v) s.3 (k.0, fine)

pub indent_keeps_text : IndentKeepsText
indent_keeps_text items at t lawful h = (indent_keeps items at t lawful h).0.1

pub indent_stays_lawful : IndentStaysLawful
indent_stays_lawful items at t lawful h = (indent_keeps items at t lawful h).0.0

pub indent_fine : IndentIsFine
indent_fine items at t lawful h = (indent_keeps items at t lawful h).1
