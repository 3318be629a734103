use Rattle.std.proofs.Common.{◌≡◌, drop}
use Rattle.std.specs.List.{list_any}
use Rattle.ve_changes.specs.Completions.{takes_first}
use Rattle.ve_changes.proofs.completion.take_first.Given as goal

abbrev pub invariant-loop-change : goal.invariant-loop-change
invariant-loop-change l = list_any takes_first (drop l.change-index l.changes) ≡ list_any takes_first l.changes
