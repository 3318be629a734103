-- The numbers of the nodes that a script makes.
use Rattle.std.proofs.Common.{◌≡◌, ℕ, List, [], ◌∷◌, map, refl, sym, ap, subst}
use Rattle.model_items.specs.declared.plain_item.PlainItem.{PlainItem}
use Rattle.ve_arena.specs.declared.node.NodeId.{NodeId}
use Rattle.ve_tree.specs.Links.{number_of, AllApart}
use Rattle.ve_tree.specs.Named.{node_numbers}
use Rattle.ve_tree.specs.IsTree.{IsTree}
use Rattle.ve_tree.specs.Grown.{AllVacant}
use Rattle.ve_tree.proofs.WalkLemmas.{Slots}
use Rattle.ve_tree.proofs.GrownLemmas.{shows-apart}
use Rattle.ve_offsets.proofs.StateLemmas.{shown_live}
use Rattle.ve_repair.specs.declared.script.How.TheVariants.{Keep, Cut, Put}
use Rattle.ve_repair.specs.declared.script.Step.{Step}
use Rattle.ve_repair.specs.declared.script.Step.TheVariants.{Enter, Leave, Text, Count}
use Rattle.ve_repair.specs.Tokens.{puts}
use Rattle.ve_repair.specs.Agree.{steps_of}
use Rattle.ve_repair.specs.Frees.{nodes_of}
use Rattle.ve_repair.specs.Spelled.{AllFrom}
use Rattle.ve_repair.specs.Reader.{HasMade}
use Rattle.ve_repair.proofs.MakeLemmas.{live_not}

-- They are those of the script by numbers,
pub puts_are : (script : List Step) → puts (steps_of script) ≡ map number_of (nodes_of Put script)
puts_are [] = refl
puts_are (Enter Keep n ∷ xs) = puts_are xs
puts_are (Enter Cut n ∷ xs) = puts_are xs
puts_are (Enter Put n ∷ xs) = ap (λ l. n.0 ∷ l) (puts_are xs)
puts_are (Leave how ∷ xs) = puts_are xs
puts_are (Text Keep n ∷ xs) = puts_are xs
puts_are (Text Cut n ∷ xs) = puts_are xs
puts_are (Text Put n ∷ xs) = ap (λ l. n.0 ∷ l) (puts_are xs)
puts_are (Count n count ∷ xs) = puts_are xs

pub puts_apart : (before now : Slots) (script : List Step) → HasMade before now (nodes_of Put script) → AllApart (puts (steps_of script))
puts_apart before now script h = subst AllApart (sym (puts_are script)) h.apart

-- and none of the old tree's.
pub puts_new : (before now : Slots) (root : NodeId) (items : List PlainItem) (tree : IsTree before root items) (script : List Step) → HasMade before now (nodes_of Put script) →
    AllFrom (puts (steps_of script)) (root.0 ∷ node_numbers tree.named)
puts_new before now root items tree script h =
    subst (λ (l : List ℕ). AllFrom l (root.0 ∷ node_numbers tree.named)) (sym (puts_are script)) (by (map number_of (nodes_of Put script)) h.vacant)
  where
    by : (ns : List ℕ) → AllVacant before ns → AllFrom ns (root.0 ∷ node_numbers tree.named)
    by [] v = tt
    by (n ∷ ns) v = (
      ((λ e. live_not before n root.0 v.0 (shown_live before root root.0 _ _ _ refl tree.root_shown) (sym e)), shows-apart before n tree.named v.0 tree.shown),
      by ns v.1,
    )
