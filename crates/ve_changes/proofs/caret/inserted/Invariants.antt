use Rattle.std.proofs.Common.{take}
use Rattle.ve_changes.specs.TypedCarets.{HasSeen, inserted_items}
use Rattle.ve_changes.proofs.caret.inserted.Given as goal

abbrev pub invariant-loop-op : goal.invariant-loop-op
invariant-loop-op l = HasSeen (inserted_items (take l.op-index l.ops)) l.seen
