use Rattle.std.proofs.Common.{[], length, ap, ◌∙◌, arith}
use Rattle.std.proofs.lemmas.List.{get_or_read}
use Rattle.ve_tx.proofs.OrderLemmas.{before_and_in}
use Rattle.ve_tx.proofs.order.count_before.Goals as goal

pub overflow_add-count : goal.overflow_add-count
overflow_add-count c =
    let i = c.loop-i.i in
    let chunk = get_or_read c.args.chunks.now i c.index-chunks-i.result (omega arith) c.index-chunks-i.is [] in
    let size = ap length (c.as_slice.ensures ∙ chunk) in
    omega (arith, before_and_in c.args.chunks.now i, size, c.loop-i.invariant, c.requires.small)
