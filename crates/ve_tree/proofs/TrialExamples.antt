-- A trial over the arena of `<p></p>`: the root 0, the paragraph 1. The paragraph is freed in it.
use Rattle.std.proofs.Common.{◌≡◌, Option, Some, None, List, [], ◌∷◌, refl}
use Rattle.ve_kinds.specs.declared.kind.Kind.TheVariants.{Root, P}
use Rattle.ve_arena.specs.declared.node.NodeWhat.TheVariants.{Node}
use Rattle.ve_arena.specs.declared.node.ArenaNode.{ArenaNode}
use Rattle.ve_arena.specs.Arena.{ArenaView, new_node, with_first, with_last, with_parent, with_len, settled, first_slots}
use Rattle.ve_tree.specs.Trials.{begun}

abbrev slots : List (Option ArenaNode)
slots =
    Some (with_len 2 (with_last (Some (record { 0 = 1 })) (with_first (Some (record { 0 = 1 })) (new_node (Node Root)))))
    ∷ Some (with_len 2 (with_parent (Some (record { 0 = 0 })) (new_node (Node P))))
    ∷ []

abbrev fewer : List (Option ArenaNode)
fewer = Some (new_node (Node Root)) ∷ None ∷ []

abbrev changed : ArenaView
changed = record (begun slots) { slots = fewer }

-- It can be taken back at once, and after the change.
at_once : first_slots (begun slots) ≡ slots
at_once = refl

after_change : settled (first_slots changed) ≡ settled slots
after_change = refl

-- Where it is kept, the nodes are those of the change.
kept : first_slots (settled changed.slots) ≡ fewer
kept = refl
