use Rattle.std.proofs.Common.{◌≡◌, take}
use Rattle.ve_tx.specs.Many.{ordered}
use Rattle.ve_tx.proofs.many.copies.Given as goal

abbrev pub invariant-loop-i : goal.invariant-loop-i
invariant-loop-i l = l.list.items ≡ ordered l.slots (take l.i l.numbers)
