use Rattle.std.proofs.Common.{◌<◌, length, sym, ap, ◌∙◌, subst, arith}
use Rattle.std.proofs.lemmas.List.Elements.{All-get_or}
use Rattle.ve_tx.specs.Operation.{Retain}
use Rattle.ve_peer_undo.specs.Alike.{OpIsCited, seen_op}
use Rattle.ve_peer_undo.proofs.AlikeLemmas.{alike_more, op_here, they_differ, within}
use Rattle.ve_peer_undo.proofs.alike.same_transaction.Goals as goal

pub same_op-requires-clause-one : goal.same_op-requires-clause-one
same_op-requires-clause-one c =
    let is = c.ops-ops.ensures.ops in
    let below = c.loop-k-test.true in
    subst (OpIsCited c.args.values.now) (sym (op_here c.args.one.now c.ops-ops.result.now c.loop-k.k c.index-ops-k.result c.kept.result (Retain 0) is below c.index-ops-k.is c.kept.ensures))
    (All-get_or (OpIsCited c.args.values.now) c.args.one.now c.loop-k.k (Retain 0) (within c.args.one.now c.ops-ops.result.now c.loop-k.k is below) c.requires.one)

pub same_op-requires-clause-other : goal.same_op-requires-clause-other
same_op-requires-clause-other c =
    let is = c.ops-other_ops.ensures.ops in
    let below : c.loop-k.k < length c.ops-other_ops.result.now = omega (arith, c.loop-k-test.true, c.if-ops-other_ops.false) in
    subst (OpIsCited c.args.others.now)
    (sym (op_here c.args.other.now c.ops-other_ops.result.now c.loop-k.k c.index-other_ops-k.result c.kept-in-loop-k.result (Retain 0) is below c.index-other_ops-k.is c.kept-in-loop-k.ensures))
    (All-get_or (OpIsCited c.args.others.now) c.args.other.now c.loop-k.k (Retain 0) (within c.args.other.now c.ops-other_ops.result.now c.loop-k.k is below) c.requires.other)

pub returns-then-not-same_op : goal.returns-then-not-same_op
returns-then-not-same_op c =
    let is = c.ops-ops.ensures.ops in
    let other_is = c.ops-other_ops.ensures.ops in
    let below = c.loop-k-test.true in
    let other_below : c.loop-k.k < length c.ops-other_ops.result.now = omega (arith, below, c.if-ops-other_ops.false) in
    let here = op_here c.args.one.now c.ops-ops.result.now c.loop-k.k c.index-ops-k.result c.kept.result (Retain 0) is below c.index-ops-k.is c.kept.ensures in
    let there = op_here c.args.other.now c.ops-other_ops.result.now c.loop-k.k c.index-other_ops-k.result c.kept-in-loop-k.result (Retain 0) other_is other_below c.index-other_ops-k.is c.kept-in-loop-k.ensures in (
      λ h. absurd (cc),
      λ h. absurd (they_differ (seen_op c.args.values.now) (seen_op c.args.others.now) c.args.one.now c.args.other.now c.loop-k.k (Retain 0) (Retain 0)
          (within c.args.one.now c.ops-ops.result.now c.loop-k.k is below) (within c.args.other.now c.ops-other_ops.result.now c.loop-k.k other_is other_below)
          (λ e. let told = c.same_op.ensures.1 (ap (seen_op c.args.values.now) here ∙ (e ∙ ap (seen_op c.args.others.now) (sym there))) in let no = sym told ∙ c.if-not-same_op.true in cc) h),
    )

pub loop-k-preserved : goal.loop-k-preserved
loop-k-preserved c =
    let is = c.ops-ops.ensures.ops in
    let other_is = c.ops-other_ops.ensures.ops in
    let below = c.loop-k-test.true in
    let other_below : c.loop-k.k < length c.ops-other_ops.result.now = omega (arith, below, c.if-ops-other_ops.false) in
    let here = op_here c.args.one.now c.ops-ops.result.now c.loop-k.k c.index-ops-k.result c.kept.result (Retain 0) is below c.index-ops-k.is c.kept.ensures in
    let there = op_here c.args.other.now c.ops-other_ops.result.now c.loop-k.k c.index-other_ops-k.result c.kept-in-loop-k.result (Retain 0) other_is other_below c.index-other_ops-k.is c.kept-in-loop-k.ensures in
    alike_more (seen_op c.args.values.now) (seen_op c.args.others.now) c.args.one.now c.args.other.now c.loop-k.k (Retain 0) (Retain 0)
    (within c.args.one.now c.ops-ops.result.now c.loop-k.k is below) (within c.args.other.now c.ops-other_ops.result.now c.loop-k.k other_is other_below) c.loop-k.invariant
    (ap (seen_op c.args.values.now) (sym here) ∙ (c.same_op.ensures.0 c.if-not-same_op.false ∙ ap (seen_op c.args.others.now) there))
