-- The kinds of the open nodes are those of the law's state.
use Rattle.std.proofs.Common.{◌≡◌, ℕ, Ok, Some, List, [], ◌∷◌, length, map, take, slice_get, refl, sym, ap, ◌∙◌, arith}
use Rattle.std.proofs.lemmas.List.{take-map}
use Rattle.ve_base.specs.declared.value.Value.{Value}
use Rattle.ve_kinds.specs.declared.kind.Kind.{Kind}
use Rattle.ve_kinds.specs.declared.kind.Kind.TheVariants.{Root}
use Rattle.model_items.specs.declared.item.Item.{Item}
use Rattle.model_items.specs.Law.{State, start, after, top}
use Rattle.model_items.specs.Offsets.{stack_at}
use Rattle.model_items.specs.Plain.{plain, plain_list}
use Rattle.model_items.specs.Tree.{Open}
use Rattle.model_items.proofs.NodeAtLemmas.{open_is_stack}
use Rattle.ve_tree.specs.IsTree.{unvalued}
use Rattle.ve_edits.proofs.BracketLemmas.{opens_at-plain}

pub stack_is : (values : List Value) (items : List Item) (o : ℕ) (s : State) → after start (plain_list [] (take o items)) ≡ Ok s →
    stack_at (plain_list values items) o ≡ s.stack
stack_is values items o s h =
    let there : after start (take o (unvalued items)) ≡ Ok s = ap (after start) (take-map (plain []) o items) ∙ h in
    ap (map (λ (node : Open). node.kind)) (opens_at-plain values items o) ∙ open_is_stack (take o (unvalued items)) s there

pub top_none : (stack : List Kind) → length stack ≡ 0 → top stack ≡ Root
top_none [] h = refl
top_none (k ∷ stack) h = absurd (omega arith)

pub top_some : (stack : List Kind) (k : Kind) → slice_get stack 0 ≡ Some k → top stack ≡ k
top_some [] k h = cc
top_some (x ∷ stack) k h = cc
