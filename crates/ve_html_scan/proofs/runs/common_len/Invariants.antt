use Rattle.std.proofs.Common.{length, ◌-◌, ◌≡◌, ◌≤◌, ◌+◌, drop, nat_eq}
use Rattle.std.specs.List.{common_prefix_len}
use Rattle.ve_html_scan.proofs.runs.common_len.Given as goal

abbrev pub invariant-loop-n : goal.invariant-loop-n
invariant-loop-n l = (l.n + common_prefix_len nat_eq (drop l.n l.reference) (drop l.n l.text) ≡ common_prefix_len nat_eq l.reference l.text) × (l.n ≤ length l.reference) × (l.n ≤ length l.text)

abbrev pub decreases-loop-n : goal.decreases-loop-n
decreases-loop-n l = length l.reference - l.n
