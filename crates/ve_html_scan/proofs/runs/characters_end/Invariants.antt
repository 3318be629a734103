use Rattle.std.proofs.Common.{length, ◌-◌, ◌≡◌, ◌≤◌, drop}
use Rattle.model_spelling.specs.Reading.{run_end}
use Rattle.ve_html_scan.proofs.runs.characters_end.Given as goal

abbrev pub invariant-loop-at : goal.invariant-loop-at
invariant-loop-at l = (run_end l.unclosed l.stop l.at (drop l.at l.bytes) ≡ run_end l.unclosed l.stop l.from (drop l.from l.bytes)) × (l.at ≤ length l.bytes) × (l.from ≤ l.at)

abbrev pub decreases-loop-at : goal.decreases-loop-at
decreases-loop-at l = length l.bytes - l.at
