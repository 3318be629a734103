use Rattle.std.proofs.Common.{◌≡◌, take}
use Rattle.ve_items.proofs.linear.share_blocks.Given as goal

abbrev pub invariant-loop-k : goal.invariant-loop-k
invariant-loop-k l = record {
  kept : l.from ≡ l.fn.from;
  blocks : l.to.blocks ≡ take l.k l.fn.from.blocks;
  room : l.to.room ≡ l.fn.to.room;
}
