use Rattle.std.proofs.Common.{arith}
use Rattle.ve_tx.proofs.OrderLemmas.{next_below}
use Rattle.ve_tx.proofs.order.settle.Goals as goal

pub bounds-homes-number : goal.bounds-homes-number
bounds-homes-number c =
    let lt = next_below c.args.chunk.now c.loop-number.number-index _ c.requires c.loop-number-test.true in
    omega (arith, lt, c.loop-number.auto.homes)

pub offset_bounds-homes-number : goal.offset_bounds-homes-number
offset_bounds-homes-number c =
    let lt = next_below c.args.chunk.now c.loop-number.number-index _ c.requires c.loop-number-test.true in
    omega (arith, lt, c.loop-number.auto.homes)
