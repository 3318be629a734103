use Rattle.std.proofs.Common.{◌≡◌, List, Contains}
use Rattle.model_items.specs.declared.plain_item.PlainItem.{PlainItem}
use Rattle.ve_tree.specs.IsTree.{IsTree}
use Rattle.ve_tree.specs.Places.{NodePlace, tree_places}
use Rattle.ve_tree.proofs.ClimbLemmas.{Left}
use Rattle.ve_tree.proofs.tree.Tree.range_of.Given as goal

abbrev pub invariant-loop-start : goal.invariant-loop-start
invariant-loop-start l = (items : List PlainItem) (tree : IsTree l.self.arena.slots l.self.root items) (place : NodePlace) → Contains (tree_places tree) place →
    place.number ≡ l.fn.n.0 → Left tree place l.at.0 l.all l.left

abbrev pub decreases-loop-start : goal.decreases-loop-start
decreases-loop-start l = l.left
