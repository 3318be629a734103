use Rattle.std.proofs.Common.{◌≤◌, drop, length}
use Rattle.ve_tx.specs.Looked.{HasPlaces}
use Rattle.ve_tx.proofs.lookup.Lookup.of.Given as goal

abbrev pub invariant-loop-i : goal.invariant-loop-i
invariant-loop-i l = record {
  within : l.i ≤ length l.attrs;
  places : HasPlaces l.i (drop l.i l.attrs) l.positions;
}

abbrev pub decreases-loop-i : goal.decreases-loop-i
decreases-loop-i l = l.i
