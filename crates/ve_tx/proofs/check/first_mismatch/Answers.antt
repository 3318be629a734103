use Rattle.std.proofs.Common.{◌+◌, sym, subst}
use Rattle.ve_tx.proofs.CheckLemmas.{IsWalked, walked-retain, walked-replace, walked-attribute, walked-found}
use Rattle.ve_tx.proofs.check.first_mismatch.Goals as goal
use Rattle.ve_tx.proofs.check.first_mismatch.Goals.{in-Retain, in-Replace+in_default, in-Attribute}

pub returns-in-Some : goal.returns-in-Some
returns-in-Some c =
    walked-found c.args.list.now.items c.args.ops.now c.loop-op.at c.loop-op.op-index c.op-item.result c.loop-op-test.true c.op-item.is c.loop-op.invariant
    c.in-Replace.removed c.in-Replace.inserted c.as_slice-removed.result.now c.in-Some.k c.in-Replace.is c.as_slice-removed.ensures c.in-Some.ensures.some

pub loop-op-preserved : goal.loop-op-preserved
loop-op-preserved c = elim c.match-op.branch [
  | in-Retain w ↦
      walked-retain c.args.list.now.items c.args.ops.now c.loop-op.at c.loop-op.op-index c.op-item.result c.loop-op-test.true c.op-item.is c.loop-op.invariant
      c.match-op.at w.in-Retain.count w.in-Retain.is w.at-is
  | in-Replace+in_default w ↦
      walked-replace c.args.list.now.items c.args.ops.now c.loop-op.at c.loop-op.op-index c.op-item.result c.loop-op-test.true c.op-item.is c.loop-op.invariant
      c.match-op.at w.in-Replace.removed w.in-Replace.inserted w.as_slice-removed.result.now w.in-Replace.is w.as_slice-removed.ensures w.at-is w.in_default.ensures.none
  | in-Attribute w ↦
      subst (λ n. IsWalked c.args.list.now.items c.args.ops.now n (c.loop-op.op-index + 1)) (sym w.at-is)
      (walked-attribute c.args.list.now.items c.args.ops.now c.loop-op.at c.loop-op.op-index c.op-item.result c.loop-op-test.true c.op-item.is c.loop-op.invariant
      w.in-Attribute.name w.in-Attribute.from w.in-Attribute.to w.in-Attribute.is)
]
