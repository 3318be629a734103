use Rattle.std.proofs.Common.{◌≡◌, ◌≤◌}
use Rattle.ve_tree.proofs.ReachedLemmas.{Reached}
use Rattle.ve_tree.proofs.build.+read_children.Given as goal

abbrev pub decreases-read_children : goal.decreases-read_children
decreases-read_children g l = l.rest.now.left

abbrev pub invariant-sibling : goal.invariant-sibling
invariant-sibling g l = record {
  same : l.rest.items ≡ l.fn.rest.items;
  counted : l.fn.steps ≤ l.steps;
  reached : Reached l.fn.arena.slots l.arena.slots l.parent.0 l.fn.rest.items l.fn.rest.left l.rest.left l.fn.steps l.steps;
  first : l.arena.first ≡ l.fn.arena.first;
}

abbrev pub decreases-sibling : goal.decreases-sibling
decreases-sibling g l = l.rest.left
