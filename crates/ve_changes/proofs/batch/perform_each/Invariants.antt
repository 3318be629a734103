use Rattle.std.proofs.Common.{◌≡◌, ◌≤◌, ◌+◌, drop}
use Rattle.ve_changes.proofs.BatchLemmas.{cost_of_changes, SoFar}
use Rattle.ve_changes.proofs.batch.perform_each.Given as goal
use Rattle.ve_editor.specs.Page.{replica_of}

abbrev pub invariant-loop-at : goal.invariant-loop-at
invariant-loop-at g l =
    SoFar l.fn.trial.page l.changes (drop l.at l.changes) l.at l.trial.page l.entry
    × (l.fn.steps ≤ l.steps)
    × (l.steps + cost_of_changes (replica_of l.trial.page) (drop l.at l.changes) ≤ l.fn.steps + cost_of_changes (replica_of l.fn.trial.page) l.changes)
    × (l.trial.first ≡ l.fn.trial.first)
