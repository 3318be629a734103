use Rattle.std.proofs.Common.{◌≡◌}
use Rattle.ve_repair.specs.Reader.{MakesOn, IsPaid}
use Rattle.ve_repair.proofs.OpsLemmas.{Doing}
use Rattle.ve_repair.proofs.read.ChangeReader.pass_ops.Given as goal

abbrev pub invariant-loop-op : goal.invariant-loop-op
invariant-loop-op g l = record {
  doing : Doing l.initial.arena.slots l.arena.slots l.initial.self l.self l.ops l.op-index;
  made : MakesOn l.initial.arena.slots l.initial.self.script l.arena.slots l.self.script;
  first : l.arena.first ≡ l.initial.arena.first;
  paid : IsPaid l.initial.steps l.initial.self.script l.steps l.self.script;
}
