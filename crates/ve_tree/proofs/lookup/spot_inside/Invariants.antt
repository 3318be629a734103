use Rattle.std.proofs.Common.{List}
use Rattle.model_items.specs.declared.plain_item.PlainItem.{PlainItem}
use Rattle.ve_tree.specs.IsTree.{IsTree}
use Rattle.ve_tree.proofs.WalkLemmas.{Walk}
use Rattle.ve_tree.proofs.lookup.spot_inside.Given as goal

abbrev pub invariant-loop-next : goal.invariant-loop-next
invariant-loop-next l = (items : List PlainItem) (tree : IsTree l.tree.arena.slots l.tree.root items) → Walk tree l.o l.inner.0 l.next l.left

abbrev pub decreases-loop-next : goal.decreases-loop-next
decreases-loop-next l = l.left
