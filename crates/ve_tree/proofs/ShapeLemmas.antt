-- A tree is read from the shapes of a list's items, and so is the law.
use Rattle.std.proofs.Common.{◌≡◌, List, [], ◌∷◌, length, map, Result, Ok, Err, if◌then◌else◌, refl, sym, ap, ◌∙◌, subst}
use Rattle.std.proofs.lemmas.List.{length-map}
use Rattle.ve_kinds.specs.declared.kind.Kind.TheVariants.{Root}
use Rattle.ve_kinds.specs.Table.{is_content_branch}
use Rattle.model_items.specs.declared.plain_item.PlainItem.{PlainItem}
use Rattle.model_items.specs.declared.plain_item.PlainItem.TheVariants.{Char, Opening, Closing}
use Rattle.model_items.specs.declared.law_fault.LawFault.{LawFault}
use Rattle.model_items.specs.declared.law_fault.LawFault.TheVariants.{Unlawful}
use Rattle.model_items.specs.Law.{State, start, top, state_opened, state_closed, step, outcome_then, after, verdict_at, Lawful}
use Rattle.model_items.specs.Tree.{tree_of, Shape, Letter, Begin, End, shape_of}
use Rattle.model_items.proofs.TreeLemmas.{tree_spells}
use Rattle.model_items.proofs.OnlyLemmas.{tree_is_only, tree_has_whole_runs}
use Rattle.ve_arena.specs.declared.node.NodeId.{NodeId}
use Rattle.ve_arena.specs.declared.node.NodeWhat.TheVariants as what
use Rattle.ve_tree.specs.Named.{heads, IsShown}
use Rattle.ve_tree.specs.IsTree.{IsTree}
use Rattle.ve_tree.specs.Shapes.{ShapesAreRead}
use Rattle.ve_tree.proofs.GrownLemmas.{Slots}

abbrev step_by : State → Shape → Result State LawFault
step_by s Letter = if is_content_branch (top s.stack) then Ok s else Err (Unlawful 0)
step_by s (Begin kind) = state_opened s kind
step_by s (End kind) = state_closed s.stack s.seen kind

abbrev after_by : State → List Shape → Result State LawFault
after_by s [] = Ok s
after_by s (x ∷ xs) = outcome_then 1 (step_by s x) (λ next. after_by next xs)

step-shape : (s : State) (x : PlainItem) → step s x ≡ step_by s (shape_of x)
step-shape s (Char c marks) = refl
step-shape s (Opening kind head marks pre origin generated) = refl
step-shape s (Closing kind pre) = refl

after-shapes : (items : List PlainItem) (s : State) → after s items ≡ after_by s (map shape_of items)
after-shapes [] s = refl
after-shapes (x ∷ items) s = λ i. outcome_then 1 (step-shape s x i) (λ next. after-shapes items next i)

pub length-shapes : (items others : List PlainItem) → map shape_of items ≡ map shape_of others → length items ≡ length others
length-shapes items others e = sym (length-map items shape_of) ∙ ap length e ∙ length-map others shape_of

pub lawful-shapes : (items others : List PlainItem) → map shape_of items ≡ map shape_of others → Lawful items → Lawful others
lawful-shapes items others e lawful =
    let same : after start items ≡ after start others = after-shapes items start ∙ ap (after_by start) e ∙ sym (after-shapes others start) in
    sym (λ i. verdict_at (length-shapes items others e i) (same i)) ∙ lawful

pub tree-shapes : (items others : List PlainItem) → Lawful items → map shape_of items ≡ map shape_of others → tree_of items ≡ tree_of others
tree-shapes items others lawful e = tree_is_only others (tree_of items) (tree_has_whole_runs items) (tree_spells items lawful ∙ e)

shapes_are_tree : (slots : Slots) (root : NodeId) (items others : List PlainItem) → IsTree slots root items → map shape_of items ≡ map shape_of others → IsTree slots root others
shapes_are_tree slots root items others tree e = record {
  lawful = lawful-shapes items others e tree.lawful;
  named = tree.named;
  is_tree = tree.is_tree ∙ tree-shapes items others tree.lawful e;
  apart = tree.apart;
  shown = tree.shown;
  root_shown = subst (λ n. IsShown slots root.0 (what.Node Root) n (heads tree.named)) (length-shapes items others e) tree.root_shown;
  root_alone = tree.root_alone;
  only = tree.only;
}

pub shapes_read : ShapesAreRead
shapes_read t items others tree e = record {
  links = shapes_are_tree t.arena.slots t.root items others tree.links e;
  landmarks = tree.landmarks;
}
