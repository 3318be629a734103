use Rattle.std.proofs.Common.{◌≡◌, ◌≤◌, ◌-◌, ◌++◌, length}
use Rattle.ve_select.specs.Runs.{chars_from}
use Rattle.ve_select.proofs.run.run_from.Given as goal

abbrev pub invariant-loop-at : goal.invariant-loop-at
invariant-loop-at l = record {
  within : l.at ≤ l.len;
  all : l.len ≡ length l.list.items;
  read : l.text ++ chars_from l.list.items l.at ≡ chars_from l.list.items l.offset;
}

abbrev pub decreases-loop-at : goal.decreases-loop-at
decreases-loop-at l = l.len - l.at
