use Rattle.std.proofs.Common.{◌≤◌, ◌-◌, length}
use Rattle.ve_rebase.proofs.MovedLemmas.{MovedSoFar}
use Rattle.ve_rebase.proofs.all_under.moved_over_all.Given as goal

abbrev pub invariant-loop-at : goal.invariant-loop-at
invariant-loop-at l = record {
  within : l.at ≤ length l.foreign;
  some : 1 ≤ l.count;
  so_far : MovedSoFar l.foreign l.initial.mine.items l.mine.items l.committed l.at;
}

abbrev pub decreases-loop-at : goal.decreases-loop-at
decreases-loop-at l = length l.foreign - l.at
