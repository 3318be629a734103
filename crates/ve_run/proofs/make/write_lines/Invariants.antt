use Rattle.std.proofs.Common.{◌≡◌, ◌≤◌, ◌++◌, ℕ, List, length}
use Rattle.std.specs.Io.KnownBytes.{Appends}
use Rattle.model_script.specs.Lines.{with_newlines}
use Rattle.ve_run.proofs.make.write_lines.Given as goal

-- what was written so far, with what is to come, is the whole
abbrev pub invariant-lines : goal.invariant-lines
invariant-lines g l = record {
  done : List ℕ;
  whole : with_newlines l.fn.lines ≡ done ++ with_newlines l.lines;
  appended : Appends (g.K.Sink.held l.fn.sink) (g.K.Sink.held l.sink) done;
  later : g.K.Sink.faults l.fn.sink ≤ g.K.Sink.faults l.sink;
}

abbrev pub decreases-lines : goal.decreases-lines
decreases-lines g l = length l.lines
