use Rattle.std.proofs.Common.{◌+◌, sym, subst}
use Rattle.std.proofs.lemmas.List.{drop_more}
use Rattle.model_items.specs.Plain.{plain, CitesWell}
use Rattle.model_change.specs.Store.{cited_by}
use Rattle.ve_tx.proofs.AlikeLemmas.{Going, going-next, going-last}
use Rattle.ve_tx.proofs.TakenLemmas.{on_err, still_extends}
use Rattle.ve_tx.proofs.taken.CitedValues.items.Goals as goal

pub loop-item-preserved : goal.loop-item-preserved
loop-item-preserved c = (
  c.in_ok-item.ensures.taken,
  let P = Going plain CitesWell cited_by c.args.values.now c.args.store.now c.item.new.store c.args.items.now (c.loop-item.item-index + 1) in
      subst P (sym c.in_ok-push.ensures.ok) (going-next plain CitesWell cited_by c.args.values.now c.args.store.now c.loop-item.store c.item.new.store c.args.items.now c.loop-item.item-index
      c.loop-item.made _ c.in_ok-item.item (drop_more c.args.items.now c.loop-item.item-index _ c.loop-item-test.true) c.in_ok-item.ensures.filled c.in_ok-item.ensures.alike c.loop-item.invariant.1),
  still_extends c.args.store.now c.loop-item.store c.item.new.store (cited_by (plain c.args.values.now _)) c.in_ok-item.ensures.filled c.loop-item.invariant.2,
)

pub returns-clause-alike : goal.returns-clause-alike
returns-clause-alike c =
    going-last plain CitesWell cited_by c.args.values.now c.args.store.now c.loop-item.store c.args.items.now c.loop-item.item-index c.loop-item.made c.loop-item-test.false
    c.loop-item.invariant.1

pub returns-in_err-push-clause-grown : goal.returns-in_err-push-clause-grown
returns-in_err-push-clause-grown c =
    on_err c.from_residual-in_err-push.result
    (still_extends c.args.store.now c.loop-item.store c.item.new.store (cited_by (plain c.args.values.now _)) c.in_ok-item.ensures.filled c.loop-item.invariant.2)
