use Rattle.std.proofs.Common.{◌∙◌, []}
use Rattle.std.proofs.lemmas.List.{get_or_read}
use Rattle.ve_tx.proofs.OrderLemmas.{chunk_below}
use Rattle.ve_tx.proofs.order.settle_all.Goals as goal

pub settle-requires : goal.settle-requires
settle-requires c =
    let chunk = get_or_read c.args.chunks.now c.loop-i.i c.index-chunks-i.result c.loop-i-test.true c.index-chunks-i.is [] in
    chunk_below c.args.chunks.now _ c.loop-i.i _ _ c.requires (c.as_slice.ensures ∙ chunk) c.loop-i.auto.homes
