use Rattle.std.proofs.Common.{◌≡◌, ◌++◌, length}
use Rattle.ve_items.specs.Blocks.{joined}
use Rattle.ve_tx.proofs.order.cut.Given as goal

-- the chunks so far and the rest are the row
abbrev pub invariant-cutting : goal.invariant-cutting
invariant-cutting l = joined l.chunks.items ++ l.rest ≡ l.row

abbrev pub decreases-cutting : goal.decreases-cutting
decreases-cutting l = length l.rest
