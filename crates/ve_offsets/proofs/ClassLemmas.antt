-- The item before an offset decides the offset's class.
use Rattle.std.proofs.Common.{◌≡◌, ℕ, zero, suc, Bool, true, false, if◌then◌else◌, Ok, Some, List, [], ◌∷◌, ◌++◌, take, drop, inl, inr, refl, sym, ap, ◌∙◌, subst, slice_get}
use Rattle.std.proofs.lemmas.Bool.{cases_Bool, and_parts}
use Rattle.std.proofs.lemmas.List.{take-append-drop}
use Rattle.ve_kinds.specs.declared.kind.Kind.{Kind}
use Rattle.ve_kinds.specs.declared.kind.Kind.TheVariants.{Root, P, H1, H2, H3, H4, H5, H6, Pre, Section, Li, Dt, Dd, Blockquote, Div, Td, Th, Caption, InternalItem, Ul, Ol, Dl, Table, Thead, Tbody, Tfoot, Tr, InternalList, TransBlock, AlienBlock, Br, Img, Ref, TransInline, AlienInline}
use Rattle.ve_kinds.specs.Table.{is_content_branch, is_inline_leaf, is_leaf, may_hold}
use Rattle.ve_kinds.proofs.LawLemmas.{leaves_are_empty, inline_in_content}
use Rattle.model_items.specs.declared.item.Item.{Item}
use Rattle.model_items.specs.declared.item.Item.TheVariants as item
use Rattle.model_items.specs.declared.plain_item.PlainItem.{PlainItem}
use Rattle.model_items.specs.declared.plain_item.PlainItem.TheVariants.{Char, Opening, Closing}
use Rattle.model_items.specs.declared.law_fault.LawFault.{LawFault}
use Rattle.model_items.specs.declared.offset_class.OffsetClass.TheVariants.{Content, Structural, Inside}
use Rattle.model_items.specs.Plain.{plain}
use Rattle.model_items.specs.Law.{State, start, top, may_open, step, after}
use Rattle.model_items.specs.Tree.{class_in}
use Rattle.model_items.proofs.LawLemmas.{if_ok, Ok-same, opened_before, closed_before, joined-ok, after_parts, after_from_Lawful}
use Rattle.model_items.proofs.NodeAtLemmas.{class_is_of_top}
use Rattle.ve_tree.specs.IsTree.{unvalued}
use Rattle.ve_offsets.specs.Classes.{class_after, ItemDecidesClass}

-- each open node stands in the one round it
abbrev Nested : List Kind → Type 0
Nested [] = Unit {0}
Nested (k ∷ ks) = (may_hold (top ks) k ≡ true) × Nested ks

nested_step : (x : PlainItem) (s u : State) → Nested s.stack → step s x ≡ Ok u → Nested u.stack
nested_step (Char c marks) s u h e =
    subst (λ (t : State). Nested t.stack) (Ok-same {E = LawFault} s u (if_ok (is_content_branch (top s.stack)) _ _ u e).1) h
nested_step (Opening kind head marks pre origin generated) s u h e =
    subst Nested (opened_before s u kind e).0 ((and_parts (may_hold (top s.stack) kind) _ (if_ok (may_open s kind) _ _ u e).0).0, h)
nested_step (Closing kind pre) s u h e = (subst Nested (closed_before s.stack s.seen kind u e).0 h).1

nested_after : (items : List PlainItem) (s u : State) → Nested s.stack → after s items ≡ Ok u → Nested u.stack
nested_after [] s u h e = subst (λ (t : State). Nested t.stack) (Ok-same {E = LawFault} s u e) h
nested_after (x ∷ items) s u h e =
    let p = joined-ok 1 (step s x) (λ next. after next items) u e in
    nested_after items p.0 u (nested_step x s p.0 h p.1) p.2

content_holds : (k child : Kind) → is_content_branch k ≡ true → may_hold k child ≡ is_inline_leaf child
content_holds Root child h = cc
content_holds P child h = refl
content_holds H1 child h = refl
content_holds H2 child h = refl
content_holds H3 child h = refl
content_holds H4 child h = refl
content_holds H5 child h = refl
content_holds H6 child h = refl
content_holds Pre child h = refl
content_holds Section child h = cc
content_holds Li child h = cc
content_holds Dt child h = cc
content_holds Dd child h = cc
content_holds Blockquote child h = cc
content_holds Div child h = cc
content_holds Td child h = cc
content_holds Th child h = cc
content_holds Caption child h = cc
content_holds InternalItem child h = cc
content_holds Ul child h = cc
content_holds Ol child h = cc
content_holds Dl child h = cc
content_holds Table child h = cc
content_holds Thead child h = cc
content_holds Tbody child h = cc
content_holds Tfoot child h = cc
content_holds Tr child h = cc
content_holds InternalList child h = cc
content_holds TransBlock child h = cc
content_holds AlienBlock child h = cc
content_holds Br child h = cc
content_holds Img child h = cc
content_holds Ref child h = cc
content_holds TransInline child h = cc
content_holds AlienInline child h = cc

-- the class inside what holds a node
class_round : (p k : Kind) → may_hold p k ≡ true → class_in p ≡ (if is_inline_leaf k then Content else Structural)
class_round p k h =
    elim (cases_Bool (is_inline_leaf k)) [
      | inl inline ↦
          ap (λ t. if t then Content else (if is_leaf p then Inside else Structural)) (sym (inline_in_content p k inline) ∙ h)
          ∙ ap (λ t. if t then Content else Structural) (sym inline)
      | inr other ↦
          ap (λ t. if t then Content else (if is_leaf p then Inside else Structural)) (no_content (is_content_branch p) refl other)
          ∙ ap (λ t. if t then Inside else Structural) (no_leaf (is_leaf p) refl)
          ∙ ap (λ t. if t then Content else Structural) (sym other)
    ]
  where
    no_content : (t : Bool) → is_content_branch p ≡ t → is_inline_leaf k ≡ false → is_content_branch p ≡ false
    no_content true e other = let bad : true ≡ false = sym h ∙ content_holds p k e ∙ other in absurd (cc)
    no_content false e other = e

    no_leaf : (t : Bool) → is_leaf p ≡ t → is_leaf p ≡ false
    no_leaf true e = let bad : true ≡ false = sym h ∙ leaves_are_empty p k e in absurd (cc)
    no_leaf false e = e

-- the class by the state after an item
step_class : (x : Item) (s u : State) → Nested s.stack → step s (plain [] x) ≡ Ok u → class_in (top u.stack) ≡ class_after x
step_class (item.Char ch marks) s u h e =
    let p = if_ok (is_content_branch (top s.stack)) _ _ u e in
    ap (λ (t : State). class_in (top t.stack)) (sym (Ok-same {E = LawFault} s u p.1)) ∙ ap (λ t. if t then Content else (if is_leaf (top s.stack) then Inside else Structural)) p.0
step_class (item.Opening kind generated head marks pre origin) s u h e = ap (λ ks. class_in (top ks)) (sym (opened_before s u kind e).0)
step_class (item.Closing kind pre) s u h e = class_round (top u.stack) kind (subst Nested (closed_before s.stack s.seen kind u e).0 h).0

-- a list up to and with an item
taken : (items : List Item) (m : ℕ) (x : Item) → slice_get items m ≡ Some x → take (suc m) (unvalued items) ≡ take m (unvalued items) ++ plain [] x ∷ []
taken [] m x h = absurd (cc)
taken (y ∷ items) zero x h = let same : y ≡ x = cc in ap (λ y. plain [] y ∷ []) same
taken (y ∷ items) (suc m) x h = ap (λ l. plain [] y ∷ l) (taken items m x h)

pub item_decides_class : ItemDecidesClass
item_decides_class items m x lawful h =
    let all = unvalued items in
    let whole = after_parts (take (suc m) all) (drop (suc m) all) start _ (ap (after start) (take-append-drop (suc m) all) ∙ after_from_Lawful all lawful) in
    let before = after_parts (take m all) (plain [] x ∷ []) start whole.0 (ap (after start) (sym (taken items m x h)) ∙ whole.1) in
    let one = joined-ok 1 (step before.0 (plain [] x)) (λ next. after next []) whole.0 before.2 in
    class_is_of_top all (suc m) whole.0 whole.1
    ∙ ap (λ (t : State). class_in (top t.stack)) (sym (Ok-same {E = LawFault} one.0 whole.0 one.2))
    ∙ step_class x before.0 one.0 (nested_after (take m all) start before.0 tt before.1) one.1
