-- A selection that has moved stands in the new list.
use Rattle.std.proofs.Common.{◌≡◌, ◌≤◌, ℕ, zero, suc, ◌+◌, Bool, true, false, ◌==◌, nat_lt, if◌then◌else◌, List, [], ◌∷◌, ◌++◌, length, map, take, drop, Ok, refl, sym, ap, ◌∙◌, subst, arith}
use Rattle.std.proofs.lemmas.List.{take-append-drop}
use Rattle.std.proofs.lemmas.Bool.{and_parts}
use Rattle.ve_kinds.specs.declared.kind.Kind.{Kind}
use Rattle.ve_kinds.specs.declared.kind.Kind.TheVariants.{TransBlock, AlienBlock, Br, Img, Ref, TransInline, AlienInline}
use Rattle.ve_kinds.specs.Table.{may_hold, is_content_branch, is_leaf}
use Rattle.ve_kinds.proofs.LawLemmas.{leaves_are_empty}
use Rattle.model_items.specs.declared.plain_item.PlainItem.{PlainItem}
use Rattle.model_items.specs.declared.plain_item.PlainItem.TheVariants.{Char, Opening, Closing}
use Rattle.model_items.specs.declared.law_fault.LawFault.{LawFault}
use Rattle.model_items.specs.Law.{State, start, finish, top, may_open, step, outcome_then, after, Lawful}
use Rattle.model_items.specs.Tree.{Open, opens_with, opens_after}
use Rattle.model_items.proofs.LawLemmas.{if_ok, Ok-same, opened_before, closed_before, joined-ok, after_parts, after_whole, after_from_Lawful}
use Rattle.model_change.specs.Transaction.{Retain, Replace, Attribute, Transaction, new_length, edited}
use Rattle.model_change.proofs.Fits.{gives_new_length}
use Rattle.model_edit.specs.declared.selection.Bias.{Bias}
use Rattle.model_edit.specs.declared.selection.Bias.TheVariants.{Left, Right}
use Rattle.model_items.specs.Offsets.{is_inside_leaf}
use Rattle.model_edit.specs.Translate.{is_before, items_before, translate, between, past_leaf}
use Rattle.model_site_law.specs.SelectionLaws.{EndStands, StandsIn, MovedStands}

-- ---- offsets that have moved lie in the list

items_before_within : (bias : Bias) (offset at : ℕ) (t : Transaction) → items_before bias offset at t ≤ new_length t
items_before_within bias offset at [] = omega arith
items_before_within bias offset at (Retain count ∷ ops) = let rest = items_before_within bias offset (at + count) ops in omega arith
items_before_within bias offset at (Replace removed inserted ∷ ops) =
    let rest = items_before_within bias offset (at + length removed) ops in
    let first = counted (is_before bias at offset) in
    omega arith
  where
    counted : (b : Bool) → (if b then length inserted else 0) ≤ length inserted
    counted true = omega arith
    counted false = omega arith
items_before_within bias offset at (Attribute change ∷ ops) = items_before_within bias offset at ops

-- ---- the open nodes of a lawful list

-- each kind may stand in the one round it
abbrev Nested : List Kind → Type 0
Nested [] = Unit {0}
Nested (k ∷ outer) = (may_hold (top outer) k ≡ true) × Nested outer

nested-step : (x : PlainItem) (s t : State) → step s x ≡ Ok t → Nested s.stack → Nested t.stack
nested-step (Char c marks) s t h n =
    subst Nested (ap (λ (v : State). v.stack) (Ok-same {E = LawFault} s t (if_ok (is_content_branch (top s.stack)) _ _ t h).1)) n
nested-step (Opening kind head marks pre origin generated) s t h n =
    let allowed = (if_ok (may_open s kind) _ _ t h).0 in
    subst Nested (opened_before s t kind h).0 ((and_parts (may_hold (top s.stack) kind) _ allowed).0, n)
nested-step (Closing kind pre) s t h n = (subst Nested (closed_before s.stack s.seen kind t h).0 n).1

nested-after : (items : List PlainItem) (s u : State) → after s items ≡ Ok u → Nested s.stack → Nested u.stack
nested-after [] s u h n = subst (λ (v : State). Nested v.stack) (Ok-same {E = LawFault} s u h) n
nested-after (x ∷ items) s u h n =
    let p = joined-ok 1 (step s x) (λ next. after next items) u h in
    nested-after items p.0 u p.2 (nested-step x s p.0 p.1 n)

kinds-step : (x : PlainItem) (at : ℕ) (nodes : List Open) (s t : State) → step s x ≡ Ok t → map (λ (n : Open). n.kind) nodes ≡ s.stack →
    map (λ (n : Open). n.kind) (opens_with x at nodes) ≡ t.stack
kinds-step (Char c marks) at nodes s t h e = e ∙ ap (λ (v : State). v.stack) (Ok-same {E = LawFault} s t (if_ok (is_content_branch (top s.stack)) _ _ t h).1)
kinds-step (Opening kind head marks pre origin generated) at nodes s t h e = ap (λ v. kind ∷ v) e ∙ (opened_before s t kind h).0
kinds-step (Closing kind pre) at nodes s t h e = fewer nodes (e ∙ (closed_before s.stack s.seen kind t h).0)
  where
    fewer : (nodes : List Open) → map (λ (n : Open). n.kind) nodes ≡ kind ∷ t.stack → map (λ (n : Open). n.kind) (drop 1 nodes) ≡ t.stack
    fewer [] e = cc
    fewer (node ∷ nodes) e = cc

kinds-after : (items : List PlainItem) (at : ℕ) (nodes : List Open) (s u : State) → after s items ≡ Ok u → map (λ (n : Open). n.kind) nodes ≡ s.stack →
    map (λ (n : Open). n.kind) (opens_after nodes at items) ≡ u.stack
kinds-after [] at nodes s u h e = e ∙ ap (λ (v : State). v.stack) (Ok-same {E = LawFault} s u h)
kinds-after (x ∷ items) at nodes s u h e =
    let p = joined-ok 1 (step s x) (λ next. after next items) u h in
    kinds-after items (suc at) (opens_with x at nodes) p.0 u p.2 (kinds-step x at nodes s p.0 p.1 e)

inside_is : (items : List PlainItem) (at : ℕ) (u : State) → after start (take at items) ≡ Ok u → is_inside_leaf items at ≡ is_leaf (top u.stack)
inside_is items at u h = ap (λ st. is_leaf (top st)) (kinds-after (take at items) 0 [] start u h refl)

-- ---- a leaf is closed at once

leaf_has_no_text : (k : Kind) → is_leaf k ≡ true → is_content_branch k ≡ false
leaf_has_no_text TransBlock h = refl
leaf_has_no_text AlienBlock h = refl
leaf_has_no_text Br h = refl
leaf_has_no_text Img h = refl
leaf_has_no_text Ref h = refl
leaf_has_no_text TransInline h = refl
leaf_has_no_text AlienInline h = refl
leaf_has_no_text _ h = cc

-- what holds a leaf is none
holder_is_none : (k leaf : Kind) → is_leaf leaf ≡ true → may_hold k leaf ≡ true → (b : Bool) → is_leaf k ≡ b → is_leaf k ≡ false
holder_is_none k leaf h held true e = let none = leaves_are_empty k leaf e in absurd (let no : true ≡ false = sym held ∙ none in cc)
holder_is_none k leaf h held false e = e

-- past the item that follows, no leaf is open
record IsClosed (s : State) (items : List PlainItem) : Type 0 where
  first : PlainItem
  rest : List PlainItem
  parts : items ≡ first ∷ rest
  next : State
  steps : step s first ≡ Ok next
  none : is_leaf (top next.stack) ≡ false

closed_at_once : (s : State) (items : List PlainItem) → Nested s.stack → is_leaf (top s.stack) ≡ true → after s items ≡ Ok finish → IsClosed s items
closed_at_once s [] n leaf h =
    let e : s.stack ≡ [] = ap (λ (v : State). v.stack) (Ok-same {E = LawFault} s finish h) in
    absurd (let no : true ≡ false = sym leaf ∙ ap (λ st. is_leaf (top st)) e in cc)
closed_at_once s (x ∷ items) n leaf h =
    let p = joined-ok 1 (step s x) (λ next. after next items) finish h in
    by_item x p.0 p.1
  where
    by_item : (y : PlainItem) (t : State) → step s y ≡ Ok t → IsClosed s (y ∷ items)
    by_item (Char c marks) t e = let text = (if_ok (is_content_branch (top s.stack)) _ _ t e).0 in absurd (let no : true ≡ false = sym text ∙ leaf_has_no_text (top s.stack) leaf in cc)
    by_item (Opening kind head marks pre origin generated) t e =
        let allowed = (and_parts (may_hold (top s.stack) kind) _ (if_ok (may_open s kind) _ _ t e).0).0 in
        absurd (let no : true ≡ false = sym allowed ∙ leaves_are_empty (top s.stack) kind leaf in cc)
    by_item (Closing kind pre) t e =
        let stack = (closed_before s.stack s.seen kind t e).0 in
        let inner = subst Nested stack n in
        let leaf_kind : is_leaf kind ≡ true = ap (λ st. is_leaf (top st)) (sym stack) ∙ leaf in
        record { first = Closing kind pre; rest = items; parts = refl; next = t; steps = e; none = holder_is_none (top t.stack) kind leaf_kind inner.0 (is_leaf (top t.stack)) refl }

-- ---- an end that has moved

take_more : (at : ℕ) (items : List PlainItem) (x : PlainItem) (rest : List PlainItem) → drop at items ≡ x ∷ rest → take (suc at) items ≡ take at items ++ x ∷ []
take_more zero [] x rest h = cc
take_more zero (y ∷ items) x rest h = let e : y ≡ x = cc in ap (λ v. v ∷ []) e
take_more (suc at) [] x rest h = cc
take_more (suc at) (y ∷ items) x rest h = ap (λ v. y ∷ v) (take_more at items x rest h)

below_length : (at : ℕ) (items : List PlainItem) (x : PlainItem) (rest : List PlainItem) → drop at items ≡ x ∷ rest → suc at ≤ length items
below_length zero [] x rest h = cc
below_length zero (y ∷ items) x rest h = omega arith
below_length (suc at) [] x rest h = cc
below_length (suc at) (y ∷ items) x rest h = let below = below_length at items x rest h in omega arith

past_leaf_stands : (items : List PlainItem) (at : ℕ) → Lawful items → at ≤ length items → EndStands items (past_leaf items at)
past_leaf_stands items at lawful within = by_test (is_inside_leaf items at) refl
  where
    by_test : (b : Bool) → is_inside_leaf items at ≡ b → EndStands items (if b then suc at else at)
    by_test false e = (within, e)
    by_test true e =
        let whole : after start (take at items ++ drop at items) ≡ Ok finish = subst (λ l. after start l ≡ Ok finish) (sym (take-append-drop at items)) (after_from_Lawful items lawful) in
        let p = after_parts (take at items) (drop at items) start finish whole in
        let nested = nested-after (take at items) start p.0 p.1 tt in
        let leaf = sym (inside_is items at p.0 p.1) ∙ e in
        let c = closed_at_once p.0 (drop at items) nested leaf p.2 in
        let begins = take_more at items c.first c.rest c.parts in
        let reached : after start (take (suc at) items) ≡ Ok c.next =
        subst (λ l. after start l ≡ Ok c.next) (sym begins) (after_whole (take at items) (c.first ∷ []) start p.0 c.next p.1 (one_step p.0 c.next c.first c.steps)) in
        (below_length at items c.first c.rest c.parts, inside_is items (suc at) c.next reached ∙ c.none)
      where
        one_step : (s t : State) (x : PlainItem) → step s x ≡ Ok t → after s (x ∷ []) ≡ Ok t
        one_step s t x h = ap (λ r. outcome_then 1 r (λ next. after next [])) h

pub moved_stands : MovedStands
moved_stands t items s applies lawful =
    let new = edited t items in
    let long = gives_new_length t items applies in
    let stands : (offset : ℕ) (bias : Bias) → EndStands new (past_leaf new (translate t offset bias)) =
    λ offset bias. past_leaf_stands new (translate t offset bias) lawful (let within = items_before_within bias offset 0 t in omega arith) in
    by_ends (s.anchor == s.focus) (nat_lt s.anchor s.focus) stands
  where
    by_ends : (same below : Bool) → ((offset : ℕ) (bias : Bias) → EndStands (edited t items) (past_leaf (edited t items) (translate t offset bias))) →
        StandsIn (edited t items) (let r = if same then between (translate t s.anchor Left) (translate t s.focus Left)
        else (if below then between (translate t s.anchor Right) (translate t s.focus Left)
        else between (translate t s.anchor Left) (translate t s.focus Right)) in between (past_leaf (edited t items) r.anchor) (past_leaf (edited t items) r.focus))
    by_ends true below stands = record { anchor = stands s.anchor Left; focus = stands s.focus Left }
    by_ends false true stands = record { anchor = stands s.anchor Right; focus = stands s.focus Left }
    by_ends false false stands = record { anchor = stands s.anchor Left; focus = stands s.focus Right }
