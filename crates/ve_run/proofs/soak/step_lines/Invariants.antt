use Rattle.std.proofs.Common.{◌≡◌, ◌≤◌, ◌++◌, ℕ, List, length}
use Rattle.ve_run.specs.Soak.{IsTally, reply_lines, TookLines}
use Rattle.ve_run.proofs.soak.step_lines.Given as goal

-- the lines that are gone were taken, and their replies counted
abbrev pub invariant-lines : goal.invariant-lines
invariant-lines g l = record {
  done : List (List ℕ);
  parts : l.fn.lines ≡ done ++ l.lines;
  took : TookLines g.M.Machine.meaning l.fn.world l.world l.fn.steps l.steps done;
  tally : IsTally l.tally (reply_lines g.M.Machine.meaning l.fn.world done);
  counted : l.fn.steps ≤ l.steps;
}

abbrev pub decreases-lines : goal.decreases-lines
decreases-lines g l = length l.lines
