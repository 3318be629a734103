use Rattle.std.proofs.Common.{◌≡◌}
use Rattle.ve_repair.specs.Acts.{Stay}
use Rattle.ve_repair.specs.Reader.{MakesOn, IsPaid}
use Rattle.ve_repair.proofs.PassedLemmas.{Passing}
use Rattle.ve_repair.proofs.read.ChangeReader.retain.Given as goal

abbrev pub invariant-loop-left : goal.invariant-loop-left
invariant-loop-left g l = record {
  passing : Passing Stay l.initial.arena.slots l.arena.slots l.initial.self l.self l.count l.left;
  made : MakesOn l.initial.arena.slots l.initial.self.script l.arena.slots l.self.script;
  first : l.arena.first ≡ l.initial.arena.first;
  paid : IsPaid l.initial.steps l.initial.self.script l.steps l.self.script;
}

abbrev pub decreases-loop-left : goal.decreases-loop-left
decreases-loop-left g l = l.left
