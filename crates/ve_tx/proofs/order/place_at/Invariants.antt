use Rattle.std.proofs.Common.{◌≡◌, ◌+◌, take, length}
use Rattle.ve_items.specs.Blocks.{joined}
use Rattle.ve_tx.proofs.order.place_at.Given as goal

-- what is left of the position, behind the chunks so far
abbrev pub invariant-loop-i : goal.invariant-loop-i
invariant-loop-i l = l.left + length (joined (take l.i l.chunks)) ≡ l.at
