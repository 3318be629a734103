use Rattle.std.proofs.Common.{length, ◌-◌, ◌≡◌, ◌≤◌, ◌++◌, drop, slice_range}
use Rattle.model_spelling.specs.Written.{escaped}
use Rattle.ve_html_write.proofs.escape.run_end.Given as goal

abbrev pub invariant-loop-at : goal.invariant-loop-at
invariant-loop-at l =
    (l.from ≤ l.at) × (l.at ≤ length l.bytes)
    × (escaped l.in_value (drop l.from l.bytes) ≡ slice_range l.bytes l.from l.at ++ escaped l.in_value (drop l.at l.bytes))

abbrev pub decreases-loop-at : goal.decreases-loop-at
decreases-loop-at l = length l.bytes - l.at
