use Rattle.std.proofs.Common.{length}
use Rattle.ve_tables.specs.Floors.{AreOut}
use Rattle.ve_tables.proofs.floors.free_end.Given as goal

abbrev pub invariant-loop-end : goal.invariant-loop-end
invariant-loop-end l = AreOut l.initial.free l.from l.end l.free

abbrev pub decreases-loop-end : goal.decreases-loop-end
decreases-loop-end l = length l.free
