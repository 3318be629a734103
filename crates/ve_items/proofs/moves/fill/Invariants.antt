use Rattle.std.proofs.Common.{◌≡◌, ◌+◌, ◌-◌, ◌/◌, ◌≤◌, ◌++◌, length, take, vec_len, vec_capacity}
use Rattle.ve_items.specs.Blocks.{joined, AreBlocks}
use Rattle.ve_items.proofs.moves.fill.Given as goal

abbrev pub invariant-loop-done : goal.invariant-loop-done
invariant-loop-done l = record {
  rule : AreBlocks l.before.blocks;
  done : l.done ≤ length l.items;
  items : joined l.before.blocks ≡ joined l.initial.before.blocks ++ take l.done l.items;
  count : length l.before.blocks + (length l.items - l.done + 447) / 448 ≤ length l.initial.before.blocks + (length l.items + 447) / 448;
  pool : (length l.items - l.done + 447) / 448 ≤ vec_len l.pool;
  kept : length l.before.blocks + vec_len l.pool ≡ length l.initial.before.blocks + vec_len l.initial.pool;
  capacity : vec_capacity l.initial.pool ≤ vec_capacity l.pool;
  room : l.before.room ≡ l.initial.before.room;
}

abbrev pub decreases-loop-done : goal.decreases-loop-done
decreases-loop-done l = length l.items - l.done
