use Rattle.std.proofs.Common.{◌-◌, ◌<◌, ◌≤◌, length}
use Rattle.ve_classify.proofs.UnitLemmas.{IsSoFar}
use Rattle.ve_classify.proofs.runs.run_at.Given as goal

abbrev pub invariant-parts : goal.invariant-parts
invariant-parts l = record {
  more : l.n < l.part.end;
  bound : l.part.end ≤ length l.forest;
  so_far : IsSoFar l.forest l.n l.to l.byte l.part.end l.part.byte l.white;
}

abbrev pub decreases-parts : goal.decreases-parts
decreases-parts l = l.to - l.part.end
