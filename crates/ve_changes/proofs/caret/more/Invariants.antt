use Rattle.std.proofs.Common.{take}
use Rattle.ve_changes.specs.TypedCarets.{SeesMore}
use Rattle.ve_changes.proofs.caret.more.Given as goal

abbrev pub invariant-loop-item : goal.invariant-loop-item
invariant-loop-item l = SeesMore l.fn.first (take l.item-index l.items) l.seen
