use Rattle.std.proofs.Common.{◌≡◌, ◌≤◌, ◌++◌, ℕ, List, length}
use Rattle.ve_run.specs.Run.{scene, Answered}
use Rattle.ve_run.proofs.feed.feed.Given as goal

-- the lines that ended so far are answered
abbrev pub invariant-lines : goal.invariant-lines
invariant-lines g l = record {
  fed : List ℕ;
  parts : l.piece ≡ fed ++ l.left;
  answered : Answered g.M.Machine.meaning
      (scene l.initial.world l.initial.steps (g.K.Sink.held l.initial.sink)) (scene l.world l.steps (g.K.Sink.held l.sink)) (l.initial.kept ++ fed) l.kept;
  later : g.K.Sink.faults l.initial.sink ≤ g.K.Sink.faults l.sink;
  counted : l.initial.steps ≤ l.steps;
}

abbrev pub decreases-lines : goal.decreases-lines
decreases-lines g l = length l.left
