use Rattle.std.proofs.Common.{◌≡◌, ◌≤◌, ◌+◌, ◌-◌, length, take, drop}
use Rattle.model_site.specs.Replica.{all_put_back}
use Rattle.ve_tx.specs.Making.{Extends}
use Rattle.model_change.specs.Cost.{cost_of_transactions}
use Rattle.ve_editor.specs.Edited.{AllStand, reversal_over}
use Rattle.ve_editor.specs.Page.{replica_of}
use Rattle.ve_editor.proofs.StayLemmas.{StaySoFar}
use Rattle.ve_editor.proofs.in_place.put_all_back.Given as goal

abbrev pub invariant-loop-n : goal.invariant-loop-n
invariant-loop-n g l = record {
  made : replica_of (g.P.InPlace.shown l.target) ≡ all_put_back (reversal_over (g.P.InPlace.shown l.fn.target).store (drop (length l.txs - l.n) l.txs)) (replica_of (g.P.InPlace.shown l.fn.target));
  stays : StaySoFar (reversal_over (g.P.InPlace.shown l.fn.target).store (drop (length l.txs - l.n) l.txs)) (g.P.InPlace.shown l.fn.target) (g.P.InPlace.shown l.target);
  extends : Extends (g.P.InPlace.shown l.fn.target).store (g.P.InPlace.shown l.target).store;
  starts : g.P.InPlace.start l.target ≡ g.P.InPlace.start l.fn.target;
  counted : l.fn.steps ≤ l.steps;
  spent : l.steps + cost_of_transactions (reversal_over (g.P.InPlace.shown l.fn.target).store (take (length l.txs - l.n) l.txs)) (g.P.InPlace.shown l.target).items ≤ l.fn.steps + cost_of_transactions (reversal_over (g.P.InPlace.shown l.fn.target).store l.txs) (g.P.InPlace.shown l.fn.target).items;
  left : AllStand (reversal_over (g.P.InPlace.shown l.fn.target).store (take (length l.txs - l.n) l.txs)) (g.P.InPlace.shown l.target).items;
}
