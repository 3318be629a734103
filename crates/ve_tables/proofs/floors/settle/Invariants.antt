use Rattle.std.proofs.Common.{length}
use Rattle.ve_tables.specs.Floors.{AreApart, IsSettled}
use Rattle.ve_tables.proofs.floors.settle.Given as goal

abbrev pub invariant-loop-run : goal.invariant-loop-run
invariant-loop-run l = record {
  apart : AreApart l.floors;
  settled : IsSettled l.row l.initial.floors l.floors;
}

abbrev pub decreases-loop-run : goal.decreases-loop-run
decreases-loop-run l = length l.floors.taken
