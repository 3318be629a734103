use Rattle.std.proofs.Common.{◌+◌, ◌-◌, ◌≤◌, max, vec_len, vec_capacity}
use Rattle.ve_items.proofs.room.stock.Given as goal

abbrev pub invariant-loop-alloc : goal.invariant-loop-alloc
invariant-loop-alloc l = record {
  more : vec_len l.initial.pool ≤ vec_len l.pool;
  room : l.others + max (vec_len l.pool) l.blocks ≤ vec_capacity l.pool;
}

abbrev pub decreases-loop-alloc : goal.decreases-loop-alloc
decreases-loop-alloc l = l.blocks - vec_len l.pool
