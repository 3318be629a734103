use Rattle.std.proofs.Common.{◌≤◌}
use Rattle.ve_tree.specs.Way.{EndsBeforeEnd}
use Rattle.ve_tree.proofs.lookup.following.Given as goal

abbrev pub invariant-loop-after : goal.invariant-loop-after
invariant-loop-after l = record { ends : EndsBeforeEnd l.fn.arena.slots l.fn.root l.at l.left; less : l.left ≤ l.fn.left }

abbrev pub decreases-loop-after : goal.decreases-loop-after
decreases-loop-after l = l.left
