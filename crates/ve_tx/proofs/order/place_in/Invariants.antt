use Rattle.std.proofs.Common.{◌≡◌, false, take}
use Rattle.ve_tx.specs.Order.{stands}
use Rattle.ve_tx.proofs.order.place_in.Given as goal

-- it isn't among the numbers so far
abbrev pub invariant-loop-i : goal.invariant-loop-i
invariant-loop-i l = stands l.number (take l.i l.chunk) ≡ false
