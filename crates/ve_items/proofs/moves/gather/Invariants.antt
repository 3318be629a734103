use Rattle.std.proofs.Common.{◌≡◌, ◌+◌, ◌≤◌, ◌++◌, length, vec_len, vec_capacity}
use Rattle.std.specs.List.{All}
use Rattle.ve_items.specs.Blocks.{joined, IsBlock, AreBlocks}
use Rattle.ve_items.specs.Stacked.{from_top}
use Rattle.ve_items.proofs.moves.gather.Given as goal

abbrev pub invariant-loop-block : goal.invariant-loop-block
invariant-loop-block l = record {
  rule : AreBlocks l.before.blocks;
  sizes : All IsBlock l.after.blocks;
  items : joined l.before.blocks ++ from_top l.after.blocks ≡ joined l.initial.before.blocks ++ from_top l.initial.after.blocks;
  count : length l.before.blocks + length l.after.blocks ≤ length l.initial.before.blocks + length l.initial.after.blocks;
  room_before : l.before.room ≡ l.initial.before.room;
  kept : length l.before.blocks + length l.after.blocks + vec_len l.pool ≡ length l.initial.before.blocks + length l.initial.after.blocks + vec_len l.initial.pool;
  capacity : vec_capacity l.initial.pool ≤ vec_capacity l.pool;
  room_after : l.after.room ≡ l.initial.after.room;
}

abbrev pub decreases-loop-block : goal.decreases-loop-block
decreases-loop-block l = length l.after.blocks
