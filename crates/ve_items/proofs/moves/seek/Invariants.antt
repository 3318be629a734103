use Rattle.std.proofs.Common.{◌≡◌, ◌+◌, ◌≤◌, ◌++◌, length}
use Rattle.std.specs.List.{All}
use Rattle.ve_items.specs.Blocks.{joined, IsBlock, AreBlocks}
use Rattle.ve_items.specs.Stacked.{from_top, top}
use Rattle.ve_items.proofs.moves.seek.Given as goal

abbrev pub invariant-loop-before : goal.invariant-loop-before
invariant-loop-before l = record {
  rule : AreBlocks l.before.blocks;
  sizes : All IsBlock l.after.blocks;
  items : joined l.before.blocks ++ from_top l.after.blocks ≡ joined l.initial.before.blocks;
  inside : l.at ≤ length (joined l.before.blocks) + length (top l.after.blocks);
  count : length l.before.blocks + length l.after.blocks ≡ length l.initial.before.blocks;
  room_before : l.before.room ≡ l.initial.before.room;
  room_after : l.after.room ≡ l.initial.after.room;
}

abbrev pub decreases-loop-before : goal.decreases-loop-before
decreases-loop-before l = length l.before.blocks
