-- Offsets inside leaves, by the class of an offset.
use Rattle.std.proofs.Common.{◌≡◌, ◌≤◌, ℕ, Bool, true, false, if◌then◌else◌, IsTrue, ◌↔◌, List, [], length, take, drop, Ok, refl, sym, ap, ◌∙◌, arith, take-append-drop}
use Rattle.std.proofs.lemmas.List.{take-map, take_all, length-map}
use Rattle.ve_kinds.specs.declared.kind.Kind.{Kind}
use Rattle.ve_kinds.specs.declared.kind.Kind.TheVariants.{Br}
use Rattle.ve_kinds.specs.Table.{is_content_branch, is_leaf}
use Rattle.ve_kinds.proofs.LawLemmas.{leaves_are_empty, inline_in_content}
use Rattle.ve_base.specs.declared.value.Value.{Value}
use Rattle.model_items.specs.declared.item.Item.{Item}
use Rattle.model_items.specs.declared.offset_class.OffsetClass.{OffsetClass}
use Rattle.model_items.specs.declared.offset_class.OffsetClass.TheVariants.{Content, Structural, Inside}
use Rattle.model_items.specs.Law.{State, start, finish, top, after, Lawful}
use Rattle.model_items.specs.Offsets.{is_inside_leaf}
use Rattle.model_items.specs.Plain.{plain, plain_list}
use Rattle.model_items.specs.Tree.{class_in, class_at}
use Rattle.model_items.proofs.LawLemmas.{after_from_Lawful, after_parts}
use Rattle.model_items.proofs.NodeAtLemmas.{open_is_stack, class_is_of_top}
use Rattle.model_items.proofs.VerdictLemmas.{law_reads_no_values}
use Rattle.ve_tree.specs.IsTree.{unvalued}

abbrev is_inside : OffsetClass → Bool
is_inside Inside = true
is_inside Content = false
is_inside Structural = false

leaf_class : (c l : Bool) → (l ≡ true → c ≡ false) → l ≡ is_inside (if c then Content else (if l then Inside else Structural))
leaf_class true true h = let bad : true ≡ false = h refl in absurd (cc)
leaf_class true false h = refl
leaf_class false true h = refl
leaf_class false false h = refl

leaf_is : (k : Kind) → is_leaf k ≡ is_inside (class_in k)
leaf_is k = leaf_class (is_content_branch k) (is_leaf k) (λ l. sym (inline_in_content k Br refl) ∙ leaves_are_empty k Br l)

-- inside a leaf, by the law's state at the offset
by_state : (values : List Value) (items : List Item) (at : ℕ) (s : State) → after start (take at (unvalued items)) ≡ Ok s →
    is_inside_leaf (plain_list values items) at ≡ is_leaf (top s.stack)
by_state values items at s h =
    let same : after start (take at (plain_list values items)) ≡ Ok s =
    ap (after start) (take-map (plain values) at items) ∙ law_reads_no_values values [] (take at items) start ∙ ap (after start) (sym (take-map (plain []) at items)) ∙ h in
    ap (λ ks. is_leaf (top ks)) (open_is_stack (take at (plain_list values items)) s same)

decided : (b : Bool) (class : OffsetClass) → (IsTrue b ↔ (class ≡ Inside)) → b ≡ is_inside class
decided b Inside h = h.1 refl
decided true Content h = let wrong = h.0 refl in absurd (cc)
decided false Content h = refl
decided true Structural h = let wrong = h.0 refl in absurd (cc)
decided false Structural h = refl

pub inside_is : (values : List Value) (items : List Item) (at : ℕ) (b : Bool) → Lawful (unvalued items) → (IsTrue b ↔ (class_at (unvalued items) at ≡ Inside)) →
    b ≡ is_inside_leaf (plain_list values items) at
inside_is values items at b lawful h =
    let all = unvalued items in
    let whole = after_parts (take at all) (drop at all) start finish (ap (after start) (take-append-drop at all) ∙ after_from_Lawful all lawful) in
    decided b (class_at all at) h ∙ ap is_inside (class_is_of_top all at whole.0 whole.1) ∙ sym (by_state values items at whole.0 whole.1 ∙ leaf_is (top whole.0.stack))

pub outside_past : (values : List Value) (items : List Item) (at : ℕ) → Lawful (unvalued items) → length items ≤ at → false ≡ is_inside_leaf (plain_list values items) at
outside_past values items at lawful past =
    let all = unvalued items in
    let e : length all ≤ at = let n = length-map items (plain []) in omega (arith, n, past) in
    sym (by_state values items at finish (ap (after start) (take_all at all e) ∙ after_from_Lawful all lawful))
