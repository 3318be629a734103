use Rattle.std.proofs.Common.{◌≡◌, ◌≤◌, ◌+◌, map, drop, take}
use Rattle.ve_tx.specs.Operation.{by_value}
use Rattle.model_change.specs.Cost.{cost_of_transactions}
use Rattle.ve_editor.specs.Page.{replica_of}
use Rattle.ve_editor.proofs.StayLemmas.{StaySoFar}
use Rattle.ve_editor.proofs.AdmitLemmas.{AdmittedSoFar}
use Rattle.ve_editor.proofs.in_place.perform_others.Given as goal

abbrev pub invariant-loop-tx : goal.invariant-loop-tx
invariant-loop-tx g l = record {
  so_far : AdmittedSoFar l.values (replica_of (g.P.InPlace.shown l.fn.target)) l.txs l.tx-index (replica_of (g.P.InPlace.shown l.target)) l.kept;
  stays : StaySoFar (map (by_value l.values) (take l.tx-index l.txs)) (g.P.InPlace.shown l.fn.target) (g.P.InPlace.shown l.target);
  starts : g.P.InPlace.start l.target ≡ g.P.InPlace.start l.fn.target;
  counted : l.fn.steps ≤ l.steps;
  spent : l.steps + cost_of_transactions (map (by_value l.values) (drop l.tx-index l.txs)) (g.P.InPlace.shown l.target).items ≤ l.fn.steps + cost_of_transactions (map (by_value l.values) l.txs) (g.P.InPlace.shown l.fn.target).items;
}
