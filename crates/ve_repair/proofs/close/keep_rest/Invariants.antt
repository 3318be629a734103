use Rattle.std.proofs.Common.{◌≤◌}
use Rattle.model_items.specs.Tree.{item_count}
use Rattle.ve_tree.specs.Named.{Named, unnumbered}
use Rattle.ve_repair.specs.Closing.{IsRowFrom}
use Rattle.ve_repair.proofs.RowLemmas.{Resting}
use Rattle.ve_repair.proofs.close.keep_rest.Given as goal

abbrev pub invariant-loop-next : goal.invariant-loop-next
invariant-loop-next l =
    (f : Named) → IsRowFrom l.arena.slots l.fn.first f → item_count (unnumbered f) ≤ l.fn.most → Resting l.arena.slots f l.initial.plan.stacks l.initial.plan.writes l.next l.left l.plan.stacks l.plan.writes

abbrev pub decreases-loop-next : goal.decreases-loop-next
decreases-loop-next l = l.left
