use Rattle.std.proofs.Common.{◌≡◌, ◌≤◌, ◌<◌, ◌-◌, length, map, get_or, All, sym, ap, subst, ◌∙◌}
use Rattle.ve_tx.specs.Cites.{TxCites}
use Rattle.ve_tx.specs.Operation.{by_value}
use Rattle.ve_peer_undo.proofs.UndoneLemmas.{back_begun, back_made, back_next, back_outline}
use Rattle.ve_peer_undo.proofs.undo.inverse_of.Goals as goal

pub loop-n-init : goal.loop-n-init
loop-n-init c = back_begun c.args.parcel.now.values c.args.parcel.now.entry.txs c.new-back.result c.new-back.ensures

pub loop-n-preserved : goal.loop-n-preserved
loop-n-preserved c =
    let v = c.args.parcel.now.values in
    let txs = c.args.parcel.now.entry.txs in
    let tx = c.index-txs-txs.result in
    let below = subst (λ l. c.loop-n.n < length l) c.as_slice-txs.ensures c.loop-n-test.true in
    let is = subst (λ l. tx ≡ get_or l (length l - 1 - c.loop-n.n) tx) c.as_slice-txs.ensures c.index-txs-txs.is in
    back_next v txs c.loop-n.back c.push.new.self c.loop-n.n tx c.in_ok-inverse.field-0 below is c.requires (c.in_ok-inverse.ensures.inverse v) (c.in_ok-inverse.ensures.cites v)
    c.in_ok-push.ensures.ok c.loop-n.invariant

pub returns-clause-back : goal.returns-clause-back
returns-clause-back c =
    let end = subst (λ l. length l ≤ c.loop-n.n) c.as_slice-txs.ensures c.loop-n-test.false in
    ap (λ v. map (by_value v) c.loop-n.back) c.in_ok-copy.ensures
    ∙ back_made c.args.parcel.now.values c.args.parcel.now.entry.txs c.loop-n.back c.loop-n.n end c.loop-n.invariant

pub returns-clause-outline : goal.returns-clause-outline
returns-clause-outline c =
    let end = subst (λ l. length l ≤ c.loop-n.n) c.as_slice-txs.ensures c.loop-n-test.false in
    back_outline c.args.parcel.now c.loop-n.back c.loop-n.n c.in_ok-copy.field-0 end c.loop-n.invariant c.in_ok-copy.ensures

pub returns-clause-cites : goal.returns-clause-cites
returns-clause-cites c = subst (λ v. All (TxCites v) c.loop-n.back) (sym c.in_ok-copy.ensures) c.loop-n.invariant.cite
