use Rattle.ve_repair.specs.Acts.{Go}
use Rattle.ve_repair.specs.Reader.{MakesSame}
use Rattle.ve_repair.proofs.PassedLemmas.{Passing}
use Rattle.ve_repair.proofs.read.ChangeReader.remove.Given as goal

abbrev pub invariant-loop-left : goal.invariant-loop-left
invariant-loop-left l = record {
  passing : Passing Go l.arena.slots l.arena.slots l.initial.self l.self l.count l.left;
  same : MakesSame l.initial.self.script l.self.script;
}

abbrev pub decreases-loop-left : goal.decreases-loop-left
decreases-loop-left l = l.left
