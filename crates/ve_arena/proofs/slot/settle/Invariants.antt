use Rattle.ve_arena.specs.Slots.{AreSettled}
use Rattle.ve_arena.proofs.slot.settle.Given as goal

abbrev pub invariant-loop-i : goal.invariant-loop-i
invariant-loop-i l = AreSettled l.fn.back l.fn.notes l.i l.fn.slots.slots l.slots.slots
