use Rattle.std.proofs.Common.{List}
use Rattle.model_items.specs.declared.plain_item.PlainItem.{PlainItem}
use Rattle.ve_tree.specs.IsTree.{IsTree}
use Rattle.ve_tree.specs.Way.{EndsBefore}
use Rattle.ve_tree.proofs.lookup.spot_near.Given as goal

abbrev pub invariant-loop-after : goal.invariant-loop-after
invariant-loop-after l = (items : List PlainItem) (tree : IsTree l.tree.arena.slots l.tree.root items) → EndsBefore tree l.o l.at l.left

abbrev pub decreases-loop-after : goal.decreases-loop-after
decreases-loop-after l = l.left
