use Rattle.std.proofs.Common.{length, ◌-◌, ◌≡◌, ◌≤◌, ◌+◌, drop, not}
use Rattle.std.specs.Prelude.{◌==◌}
use Rattle.std.specs.List.{prefix_len}
use Rattle.ve_html_scan.proofs.runs.next_place_of.Given as goal

abbrev pub invariant-loop-at : goal.invariant-loop-at
invariant-loop-at l = (l.at + prefix_len (λ b. not (b == l.byte)) (drop l.at l.bytes) ≡ l.from + prefix_len (λ b. not (b == l.byte)) (drop l.from l.bytes)) × (l.at ≤ length l.bytes) × (l.from ≤ l.at)

abbrev pub decreases-loop-at : goal.decreases-loop-at
decreases-loop-at l = length l.bytes - l.at
