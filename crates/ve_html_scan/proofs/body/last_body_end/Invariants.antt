use Rattle.std.proofs.Common.{length, ◌≤◌}
use Rattle.ve_html_scan.proofs.Bodies.{NoneFrom}
use Rattle.ve_html_scan.proofs.body.last_body_end.Given as goal

abbrev pub invariant-loop-at : goal.invariant-loop-at
invariant-loop-at l = NoneFrom l.at l.page × (l.at ≤ length l.page) × (l.from ≤ l.at)

abbrev pub decreases-loop-at : goal.decreases-loop-at
decreases-loop-at l = l.at
