use Rattle.std.proofs.Common.{length, ◌-◌, ◌≡◌, ◌≤◌, drop}
use Rattle.model_spelling.specs.Page.{starts_body, first_place}
use Rattle.ve_html_scan.proofs.body.first_body.Given as goal

abbrev pub invariant-loop-at : goal.invariant-loop-at
invariant-loop-at l = (first_place starts_body l.at (drop l.at l.page) ≡ first_place starts_body 0 l.page) × (l.at ≤ length l.page)

abbrev pub decreases-loop-at : goal.decreases-loop-at
decreases-loop-at l = length l.page - l.at
