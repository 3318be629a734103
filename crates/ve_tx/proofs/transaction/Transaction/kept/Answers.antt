use Rattle.std.proofs.Common.{List, length, sym, ap, ◌∙◌, arith}
use Rattle.ve_tx.specs.Operation.{Operation}
use Rattle.ve_tx.proofs.TurnedLemmas.{length-with_positions}
use Rattle.ve_tx.proofs.transaction.Transaction.kept.Goals as goal

pub kept_among-requires : goal.kept_among-requires
kept_among-requires c =
    let ops = c.self.inside.ops.items in
    let same = ap length c.as_slice.ensures.value in
    let count = length-with_positions ops c.self.inside.kept.items in
    let viewed = ap (λ (tx : List Operation). length tx) c.self.view_is in
    let below = c.requires in
    omega (arith, same, count, viewed, below)
