use Rattle.std.proofs.Common.{◌≡◌, ◌++◌, length}
use Rattle.ve_repair.specs.Sizing.{open_writes, AllOpenLive, LengthsFit}
use Rattle.ve_repair.proofs.sizes.Sizes.close.Given as goal

abbrev pub invariant-loop-outer : goal.invariant-loop-outer
invariant-loop-outer l = record {
  old : AllOpenLive l.arena.slots l.self-inside.old_open;
  new : AllOpenLive l.arena.slots l.self-inside.new_open;
  fits : LengthsFit l.arena.slots l.self-inside.old_open l.self-inside.new_at;
  writes : l.writes.items ++ open_writes l.arena.slots l.self-inside.old_open l.self-inside.new_open l.self-inside.old_at l.self-inside.new_at
      ≡ l.initial.writes.items ++ open_writes l.arena.slots l.initial.self-inside.old_open l.initial.self-inside.new_open l.initial.self-inside.old_at l.initial.self-inside.new_at;
}

abbrev pub decreases-loop-outer : goal.decreases-loop-outer
decreases-loop-outer l = length l.self-inside.old_open
