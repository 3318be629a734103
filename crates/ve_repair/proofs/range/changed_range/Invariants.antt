use Rattle.std.proofs.Common.{take}
use Rattle.ve_repair.specs.Range.{HasSeen}
use Rattle.ve_repair.proofs.range.changed_range.Given as goal

abbrev pub invariant-loop-k : goal.invariant-loop-k
invariant-loop-k l = HasSeen (take l.k l.ops) l.found l.k l.at l.new_at
