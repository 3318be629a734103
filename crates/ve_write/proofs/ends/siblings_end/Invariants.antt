use Rattle.std.proofs.Common.{◌-◌, ◌≤◌}
use Rattle.ve_write.specs.Passing.{Inside}
use Rattle.ve_write.proofs.ends.siblings_end.Given as goal

abbrev pub invariant-loop-at : goal.invariant-loop-at
invariant-loop-at l = record {
  more : l.from ≤ l.at;
  within : l.at ≤ l.len;
  shallow : l.depth ≤ l.at;
  rest : Inside l.list.items l.from l.depth l.at;
}

abbrev pub decreases-loop-at : goal.decreases-loop-at
decreases-loop-at l = l.len - l.at
