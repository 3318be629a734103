use Rattle.std.proofs.Common.{◌≡◌}
use Rattle.ve_tx.specs.Order.{counted}
use Rattle.ve_tx.proofs.order.numbers_below.Given as goal

abbrev pub invariant-loop-number : goal.invariant-loop-number
invariant-loop-number l = l.numbers.items ≡ counted 0 l.number
