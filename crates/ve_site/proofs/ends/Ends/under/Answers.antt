use Rattle.std.proofs.Common.{refl, ◌∙◌}
use Rattle.std.proofs.lemmas.List.Elements.{All-nil}
use Rattle.ve_site.proofs.EndLemmas.{TxLeaves, all_txs_leave, at_most_both, at_most_itself, tx_further}
use Rattle.ve_site.proofs.LeastLemmas.{folds_all, folds_on, tx_step, txs_least}
use Rattle.ve_site.proofs.ends.Ends.under.Goals as goal

pub loop-tx-init : goal.loop-tx-init
loop-tx-init c = record { least = λ values. refl; within = at_most_itself c.args.self; left = λ values. All-nil (TxLeaves values c.args.self) }

pub loop-tx-preserved : goal.loop-tx-preserved
loop-tx-preserved c =
    let e = c.under_one-ends.result in
    let within = c.under_one-ends.ensures.within in
    record {
      least = λ values. folds_on (tx_step values) c.args.self c.args.txs.now c.loop-tx.tx-index c.tx-item.result e c.loop-tx.ends c.loop-tx-test.true c.tx-item.is
          (c.loop-tx.invariant.least values) (c.under_one-ends.ensures.least values);
      within = at_most_both e c.loop-tx.ends c.args.self within c.loop-tx.invariant.within;
      left = λ values. tx_further values c.args.txs.now c.loop-tx.tx-index c.tx-item.result e c.loop-tx.ends c.loop-tx-test.true c.tx-item.is within
          (c.loop-tx.invariant.left values) (c.under_one-ends.ensures.left values);
    }

pub returns : goal.returns
returns c = record {
  least = λ values. folds_all (tx_step values) c.args.self c.args.txs.now c.loop-tx.tx-index c.loop-tx.ends c.loop-tx-test.false (c.loop-tx.invariant.least values)
      ∙ txs_least values c.args.self c.args.txs.now;
  within = c.loop-tx.invariant.within;
  left = λ values. all_txs_leave values c.args.txs.now c.loop-tx.tx-index c.loop-tx.ends c.loop-tx-test.false (c.loop-tx.invariant.left values);
}
