use Rattle.std.proofs.Common.{◌≡◌, take}
use Rattle.ve_items.specs.Blocks.{joined}
use Rattle.ve_tx.proofs.order.copied.Given as goal

abbrev pub invariant-loop-chunk : goal.invariant-loop-chunk
invariant-loop-chunk l = l.numbers.items ≡ joined (take l.chunk-index l.chunks)
