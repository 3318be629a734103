use Rattle.std.proofs.Common.{refl, sym, subst, arith}
use Rattle.ve_tx.specs.Searched.{SearchesIn}
use Rattle.ve_tx.proofs.LookedLemmas.{searched-retain, searched-replace, searched-attribute}
use Rattle.ve_tx.proofs.check.first_bad.Goals as goal
use Rattle.ve_tx.proofs.check.first_bad.Goals.{in-Retain, in-Replace, in-Attribute+else-not-may_change}

pub loop-op-init : goal.loop-op-init
loop-op-init c = record {
  within = omega (arith, c.requires.within);
  same = refl;
  fits = c.new-search.ensures _;
}

pub loop-op-preserved : goal.loop-op-preserved
loop-op-preserved c = elim c.match-op.branch [
  | in-Retain w ↦
      searched-retain c.args.store.now c.args.list.now.items c.args.ops.now c.loop-op.at c.loop-op.op-index c.loop-op.search c.op-item.result c.loop-op-test.true c.op-item.is
      c.loop-op.invariant c.match-op.at c.match-op.search w.in-Retain.count w.in-Retain.is w.at-is
      (λ attrs. subst (SearchesIn attrs) (sym w.search-is) (w.new-search-in-Retain.ensures attrs))
  | in-Replace w ↦
      searched-replace c.args.store.now c.args.list.now.items c.args.ops.now c.loop-op.at c.loop-op.op-index c.loop-op.search c.op-item.result c.loop-op-test.true c.op-item.is
      c.loop-op.invariant c.match-op.at c.match-op.search w.in-Replace.removed w.in-Replace.inserted w.as_slice.result.now w.in-Replace.is w.as_slice.ensures w.at-is
      (λ attrs. subst (SearchesIn attrs) (sym w.search-is) (w.new-search-in-Replace.ensures attrs))
  | in-Attribute+else-not-may_change w ↦
      searched-attribute c.args.store.now c.args.list.now.items c.args.ops.now c.loop-op.at c.loop-op.op-index c.loop-op.search c.op-item.result c.loop-op-test.true c.op-item.is
      c.loop-op.invariant c.match-op.at c.match-op.search w.in-Attribute.name w.in-Attribute.from w.in-Attribute.to w.may_change.result w.in-Attribute.is w.at-is w.may_change.ensures w.if-not-may_change.false
      (subst (SearchesIn _) (sym w.search-is) (subst (λ attrs. SearchesIn attrs w.next-search.result) w.attrs_at.ensures w.next-search.ensures))
]
