use Rattle.std.proofs.Common.{◌≡◌, drop}
use Rattle.ve_tx.specs.Order.{settled}
use Rattle.ve_tx.proofs.order.settle.Given as goal

abbrev pub invariant-loop-number : goal.invariant-loop-number
invariant-loop-number l = settled l.homes l.home (drop l.number-index l.chunk) ≡ settled l.fn.homes l.home l.chunk
