use Rattle.std.proofs.Common.{◌≡◌, ◌≤◌, ◌-◌, ℕ, List, length}
use Rattle.std.specs.Io.KnownBytes.{Consumes}
use Rattle.ve_base.specs.Limits.{max_script}
use Rattle.ve_run.specs.Run.{scene, Answered}
use Rattle.ve_run.proofs.script.read_lines.Given as goal

-- the lines that have come are answered
abbrev pub invariant-script : goal.invariant-script
invariant-script g l = record {
  script : List ℕ;
  count : length script ≡ l.taken;
  short : l.taken ≤ max_script;
  consumed : Consumes (g.S.Source.left l.initial.source) (g.S.Source.left l.source) script;
  answered : Answered g.M.Machine.meaning
      (scene l.initial.world l.initial.steps (g.K.Sink.held l.initial.sink)) (scene l.world l.steps (g.K.Sink.held l.sink)) script l.kept;
  source_later : g.S.Source.faults l.initial.source ≤ g.S.Source.faults l.source;
  sink_later : g.K.Sink.faults l.initial.sink ≤ g.K.Sink.faults l.sink;
  counted : l.initial.steps ≤ l.steps;
}

abbrev pub decreases-script : goal.decreases-script
decreases-script g l = max_script - l.taken
