use Rattle.std.proofs.Common.{◌≡◌}
use Rattle.ve_repair.specs.Reader.{MakesOn, IsPaid}
use Rattle.ve_repair.proofs.ComeLemmas.{Coming}
use Rattle.ve_repair.proofs.read.ChangeReader.insert.Given as goal

abbrev pub invariant-loop-item : goal.invariant-loop-item
invariant-loop-item g l = record {
  coming : Coming l.initial.arena.slots l.arena.slots l.initial.self l.self l.items l.item-index;
  made : MakesOn l.initial.arena.slots l.initial.self.script l.arena.slots l.self.script;
  first : l.arena.first ≡ l.initial.arena.first;
  paid : IsPaid l.initial.steps l.initial.self.script l.steps l.self.script;
}
