use Rattle.std.proofs.Common.{◌≡◌, ◌≤◌, true, drop, length}
use Rattle.ve_tx.specs.Normal.{are_reduced, first_names}
use Rattle.ve_tx.specs.Noted.{HaveSameNames}
use Rattle.ve_tx.proofs.normal.is_reduced_by_names.Given as goal

abbrev pub invariant-loop-i : goal.invariant-loop-i
invariant-loop-i l = record {
  within : l.i ≤ length l.ops;
  reduced : are_reduced (drop l.i l.ops) ≡ true;
  names : HaveSameNames l.names (first_names (drop l.i l.ops));
}

abbrev pub decreases-loop-i : goal.decreases-loop-i
decreases-loop-i l = l.i
