use Rattle.std.proofs.Common.{length, ◌-◌, ◌≡◌, ◌≤◌, drop}
use Rattle.model_spelling.specs.Reading.{verbatim_end}
use Rattle.ve_html_scan.specs.Parts.{closing_text}
use Rattle.ve_html_scan.proofs.runs.closing_at.Given as goal

abbrev pub invariant-loop-at : goal.invariant-loop-at
invariant-loop-at l = (verbatim_end (closing_text l.close) l.unclosed l.at (drop l.at l.bytes) ≡ verbatim_end (closing_text l.close) l.unclosed l.from (drop l.from l.bytes)) × (l.at ≤ length l.bytes) × (l.from ≤ l.at)

abbrev pub decreases-loop-at : goal.decreases-loop-at
decreases-loop-at l = length l.bytes - l.at
