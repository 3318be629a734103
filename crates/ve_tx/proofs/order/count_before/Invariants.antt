use Rattle.std.proofs.Common.{◌≡◌, take, length}
use Rattle.ve_items.specs.Blocks.{joined}
use Rattle.ve_tx.proofs.order.count_before.Given as goal

abbrev pub invariant-loop-i : goal.invariant-loop-i
invariant-loop-i l = l.count ≡ length (joined (take l.i l.chunks))
