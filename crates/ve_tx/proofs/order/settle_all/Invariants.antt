use Rattle.std.proofs.Common.{◌≡◌, drop}
use Rattle.ve_tx.specs.Order.{all_settled}
use Rattle.ve_tx.proofs.order.settle_all.Given as goal

abbrev pub invariant-loop-i : goal.invariant-loop-i
invariant-loop-i l = all_settled l.homes l.i (drop l.i l.chunks) ≡ all_settled l.fn.homes 0 l.chunks
