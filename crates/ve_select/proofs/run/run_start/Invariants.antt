use Rattle.std.proofs.Common.{◌≡◌, ◌≤◌, ◌-◌, length}
use Rattle.ve_select.specs.Runs.{chars_back}
use Rattle.ve_select.proofs.run.run_start.Given as goal

abbrev pub invariant-loop-start : goal.invariant-loop-start
invariant-loop-start l = record {
  within : l.start ≤ length l.list.items;
  read : l.start - length (chars_back l.list.items l.start) ≡ l.offset - length (chars_back l.list.items l.offset);
}

abbrev pub decreases-loop-start : goal.decreases-loop-start
decreases-loop-start l = l.start
