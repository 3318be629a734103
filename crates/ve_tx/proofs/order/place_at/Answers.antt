use Rattle.std.proofs.Common.{length, ap, ◌∙◌, []}
use Rattle.std.proofs.lemmas.List.{get_or_read}
use Rattle.ve_tx.proofs.OrderLemmas.{part_within}
use Rattle.ve_tx.proofs.order.place_at.Goals as goal

pub returns-then-left-len-clause-place : goal.returns-then-left-len-clause-place
returns-then-left-len-clause-place c =
    let chunk = get_or_read c.args.chunks.now c.loop-i.i c.index-chunks-i.result c.loop-i-test.true c.index-chunks-i.is [] in
    part_within c.args.chunks.now c.loop-i.i c.loop-i.left c.args.at _ (ap length (c.as_slice-len.ensures ∙ chunk)) c.if-left-len.true c.loop-i.invariant
