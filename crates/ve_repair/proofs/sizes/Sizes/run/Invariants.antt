use Rattle.std.proofs.Common.{drop}
use Rattle.ve_repair.proofs.SizingLemmas.{Sized}
use Rattle.ve_repair.proofs.sizes.Sizes.run.Given as goal

abbrev pub invariant-loop-step : goal.invariant-loop-step
invariant-loop-step l = Sized l.arena.slots l.initial.self l.self l.initial.writes.items l.writes.items (drop l.step-index l.script) l.script
