use Rattle.std.proofs.Common.{◌-◌, length}
use Rattle.ve_rebase.specs.Shifted.{RowSoFar}
use Rattle.ve_rebase.proofs.join_lists.row.Given as goal

abbrev pub invariant-loop-at : goal.invariant-loop-at
invariant-loop-at l = RowSoFar l.fn.committed l.committed l.mine l.span l.at

abbrev pub decreases-loop-at : goal.decreases-loop-at
decreases-loop-at l = length l.committed - l.at
