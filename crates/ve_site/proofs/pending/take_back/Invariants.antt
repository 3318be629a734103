use Rattle.std.proofs.Common.{◌≡◌, ◌≤◌, ◌+◌, ◌++◌, take, drop}
use Rattle.model_change.specs.Cost.{cost_of_transactions}
use Rattle.ve_editor.specs.Page.{replica_of}
use Rattle.ve_site.specs.Dropped.{AreDropped, back_over}
use Rattle.ve_site.proofs.pending.take_back.Given as goal

abbrev pub invariant-loop-at : goal.invariant-loop-at
invariant-loop-at g l = record {
  from : l.left ≤ l.at;
  within : l.at ≤ l.count;
  dropped : AreDropped (replica_of l.fn.trial.page) (take l.at (l.sent ++ l.unsent)) (drop l.at (l.sent ++ l.unsent)) (replica_of l.trial.page);
  first : l.trial.first ≡ l.fn.trial.first;
  counted : l.fn.steps ≤ l.steps;
  spent : l.steps ≤ l.fn.steps + cost_of_transactions (back_over l.fn.trial.page.store (drop l.at (l.sent ++ l.unsent))) l.fn.trial.page.items;
}

abbrev pub decreases-loop-at : goal.decreases-loop-at
decreases-loop-at g l = l.at
