use Rattle.std.proofs.Common.{◌≡◌, ◌≤◌, ◌<◌, ◌+◌, [], length, get_or, sym, ap, subst, ◌∙◌, append-nil}
use Rattle.std.specs.Prelude.{All, map}
use Rattle.model_items.specs.Plain.{AreDistinct}
use Rattle.model_change.proofs.StoreLemmas.{fill_appends}
use Rattle.ve_tx.specs.Cites.{TxCites}
use Rattle.ve_tx.specs.Operation.{by_value}
use Rattle.ve_tx.specs.Parcel.{transaction_cited, all_cited}
use Rattle.ve_tx.proofs.AlikeLemmas.{Going, going-next, going-last, going-filled, member_at}
use Rattle.ve_tx.proofs.parcel.Parcel.of.Goals as goal

pub loop-tx-preserved : goal.loop-tx-preserved
loop-tx-preserved c =
    let within : c.loop-tx.tx-index < length c.args.entry.now.txs = subst (λ txs. c.loop-tx.tx-index < length txs) c.as_slice-tx-items.ensures c.loop-tx-test.true in
    let here : c.tx-item.result ≡ get_or c.args.entry.now.txs c.loop-tx.tx-index c.tx-item.result =
    subst (λ txs. c.tx-item.result ≡ get_or txs c.loop-tx.tx-index c.tx-item.result) c.as_slice-tx-items.ensures c.tx-item.is in (
      c.in_ok-tx.ensures.copied,
      let P = Going by_value TxCites transaction_cited c.args.store.now [] c.recited.new.copies.values c.args.entry.now.txs (c.loop-tx.tx-index + 1) in
          subst P (sym c.in_ok-push.ensures.ok)
          (going-next by_value TxCites transaction_cited c.args.store.now [] c.loop-tx.copies.values c.recited.new.copies.values c.args.entry.now.txs c.loop-tx.tx-index c.loop-tx.txs
          c.tx-item.result c.in_ok-tx.tx
          (member_at c.args.entry.now.txs c.loop-tx.tx-index c.tx-item.result within here)
          c.in_ok-tx.ensures.filled c.in_ok-tx.ensures.alike c.loop-tx.invariant.1),
    )

pub returns-clause-txs : goal.returns-clause-txs
returns-clause-txs c =
    let done : length c.args.entry.now.txs ≤ c.loop-tx.tx-index = subst (λ txs. length txs ≤ c.loop-tx.tx-index) c.as_slice-tx-items.ensures c.loop-tx-test.false in
    ap (λ vs. map (by_value vs) c.loop-tx.txs) (sym (append-nil c.loop-tx.copies.values))
    ∙ (going-last by_value TxCites transaction_cited c.args.store.now [] c.loop-tx.copies.values c.args.entry.now.txs c.loop-tx.tx-index c.loop-tx.txs done c.loop-tx.invariant.1 []).0

pub returns-clause-distinct : goal.returns-clause-distinct
returns-clause-distinct c =
    let done : length c.args.entry.now.txs ≤ c.loop-tx.tx-index = subst (λ txs. length txs ≤ c.loop-tx.tx-index) c.as_slice-tx-items.ensures c.loop-tx-test.false in
    subst AreDistinct (sym (going-filled by_value TxCites transaction_cited c.args.store.now [] c.loop-tx.copies.values c.args.entry.now.txs c.loop-tx.tx-index c.loop-tx.txs done c.loop-tx.invariant.1))
    ((fill_appends [] (all_cited (map (by_value c.args.store.now) c.args.entry.now.txs))).distinct (λ i j v p q. cc))

pub returns-clause-cites : goal.returns-clause-cites
returns-clause-cites c =
    let done : length c.args.entry.now.txs ≤ c.loop-tx.tx-index = subst (λ txs. length txs ≤ c.loop-tx.tx-index) c.as_slice-tx-items.ensures c.loop-tx-test.false in
    subst (λ vs. All (TxCites vs) c.loop-tx.txs) (append-nil c.loop-tx.copies.values)
    (going-last by_value TxCites transaction_cited c.args.store.now [] c.loop-tx.copies.values c.args.entry.now.txs c.loop-tx.tx-index c.loop-tx.txs done c.loop-tx.invariant.1 []).1
