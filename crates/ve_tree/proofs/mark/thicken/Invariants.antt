use Rattle.std.proofs.Common.{◌≤◌, ℕ, suc, Option, Some, None, IfSome}
use Rattle.ve_arena.specs.declared.node.NodeId.{NodeId}
use Rattle.ve_tree.specs.Way.{IsBeforeEnd}
use Rattle.ve_tree.specs.Gaps.{IsGap}
use Rattle.ve_tree.proofs.mark.thicken.Given as goal

abbrev still : Option (NodeId × ℕ) → ℕ
still None = 0
still (Some next) = suc next.1

abbrev pub invariant-node : goal.invariant-node
invariant-node l = record {
  gap : IsGap l.fn.arena.slots l.fn.root l.marks l.gap;
  begins : IfSome l.next (λ next. IsBeforeEnd l.fn.arena.slots l.fn.root next.0 next.1);
  order : IfSome l.next (λ next. next.1 ≤ l.gap.from);
}

abbrev pub decreases-node : goal.decreases-node
decreases-node l = still l.next
