use Rattle.std.proofs.Common.{◌≡◌, ◌+◌, ◌^◌, ◌<◌, ◌≤◌, ◌++◌, length, vec_len, vec_capacity, take, drop}
use Rattle.std.specs.List.{All}
use Rattle.ve_items.specs.Blocks.{joined, IsBlock, AreBlocks}
use Rattle.ve_items.specs.Stacked.{from_top, top}
use Rattle.ve_items.proofs.moves.take_out.Given as goal

abbrev pub invariant-loop-left : goal.invariant-loop-left
invariant-loop-left l = record {
  rule : AreBlocks l.before.blocks;
  sizes : All IsBlock l.after.blocks;
  inside : l.offset ≤ length (top l.after.blocks);
  within : l.offset + l.left ≤ length (from_top l.after.blocks);
  items : joined l.before.blocks ++ (take l.offset (from_top l.after.blocks) ++ drop (l.offset + l.left) (from_top l.after.blocks)) ≡ joined l.initial.before.blocks ++ (take l.initial.offset (from_top l.initial.after.blocks) ++ drop (l.initial.offset + l.initial.left) (from_top l.initial.after.blocks));
  fits : length (joined l.before.blocks) + length (from_top l.after.blocks) < 2 ^ 64;
  count : length l.before.blocks + length l.after.blocks ≤ length l.initial.before.blocks + length l.initial.after.blocks;
  room_before : l.before.room ≡ l.initial.before.room;
  kept : length l.before.blocks + length l.after.blocks + vec_len l.pool ≡ length l.initial.before.blocks + length l.initial.after.blocks + vec_len l.initial.pool;
  capacity : vec_capacity l.initial.pool ≤ vec_capacity l.pool;
  room_after : l.after.room ≡ l.initial.after.room;
}

abbrev pub decreases-loop-left : goal.decreases-loop-left
decreases-loop-left l = length l.after.blocks
