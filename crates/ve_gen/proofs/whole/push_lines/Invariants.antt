use Rattle.std.proofs.Common.{◌≡◌, ◌++◌, ℕ, List, length}
use Rattle.model_script.specs.Lines.{with_newlines}
use Rattle.ve_gen.proofs.whole.push_lines.Given as goal

-- what was appended so far, with what is to come, is the whole
abbrev pub invariant-loop-line : goal.invariant-loop-line
invariant-loop-line l = record {
  pushed : List ℕ;
  appended : l.out ≡ l.fn.out ++ pushed;
  whole : with_newlines l.fn.lines ≡ pushed ++ with_newlines l.lines;
}

abbrev pub decreases-loop-line : goal.decreases-loop-line
decreases-loop-line l = length l.lines
