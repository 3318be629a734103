use Rattle.std.proofs.Common.{◌+◌, sym, subst}
use Rattle.std.proofs.lemmas.List.{drop_more}
use Rattle.model_items.specs.Plain.{plain, CitesWell}
use Rattle.model_change.specs.Store.{cited_by}
use Rattle.ve_tx.proofs.AlikeLemmas.{Going, going-next, going-last}
use Rattle.ve_tx.proofs.copies.Copies.items.Goals as goal

pub loop-item-preserved : goal.loop-item-preserved
loop-item-preserved c = (
  c.in_ok-item.ensures.copied,
  let P = Going plain CitesWell cited_by c.args.store.now c.args.self.now.values c.item.new.self.values c.args.items.now (c.loop-item.item-index + 1) in
      subst P (sym c.in_ok-push.ensures.ok) (going-next plain CitesWell cited_by c.args.store.now c.args.self.now.values c.loop-item.self.values c.item.new.self.values c.args.items.now c.loop-item.item-index
      c.loop-item.made _ c.in_ok-item.item (drop_more c.args.items.now c.loop-item.item-index _ c.loop-item-test.true) c.in_ok-item.ensures.filled c.in_ok-item.ensures.alike c.loop-item.invariant.1),
)

pub returns-clause-alike : goal.returns-clause-alike
returns-clause-alike c =
    going-last plain CitesWell cited_by c.args.store.now c.args.self.now.values c.loop-item.self.values c.args.items.now c.loop-item.item-index c.loop-item.made c.loop-item-test.false
    c.loop-item.invariant.1
