use Rattle.std.proofs.Common.{◌≡◌, List, All, take}
use Rattle.ve_base.specs.declared.value.Value.{Value}
use Rattle.std.specs.Prelude.{fold}
use Rattle.ve_site.proofs.EndLemmas.{AtMost, TxLeaves}
use Rattle.ve_site.proofs.LeastLemmas.{tx_step}
use Rattle.ve_site.proofs.ends.Ends.under.Given as goal

abbrev pub invariant-loop-tx : goal.invariant-loop-tx
invariant-loop-tx l = record {
  least : (values : List Value) → l.ends ≡ fold (tx_step values) l.fn.self (take l.tx-index l.txs);
  within : AtMost l.ends l.fn.self;
  left : (values : List Value) → All (TxLeaves values l.ends) (take l.tx-index l.txs);
}
