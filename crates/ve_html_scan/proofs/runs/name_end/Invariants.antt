use Rattle.std.proofs.Common.{length, ◌-◌, ◌≡◌, ◌≤◌, ◌+◌, drop}
use Rattle.std.specs.List.{prefix_len}
use Rattle.model_spelling.specs.Grammar.{is_name_byte}
use Rattle.ve_html_scan.proofs.runs.name_end.Given as goal

abbrev pub invariant-loop-at : goal.invariant-loop-at
invariant-loop-at l = (l.at + prefix_len is_name_byte (drop l.at l.bytes) ≡ l.from + prefix_len is_name_byte (drop l.from l.bytes)) × (l.at ≤ length l.bytes)

abbrev pub decreases-loop-at : goal.decreases-loop-at
decreases-loop-at l = length l.bytes - l.at
