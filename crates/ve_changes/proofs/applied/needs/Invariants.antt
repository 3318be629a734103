use Rattle.std.proofs.Common.{◌≡◌, ◌+◌, drop}
use Rattle.model_world.specs.Edits.{needs}
use Rattle.ve_changes.proofs.applied.needs.Given as goal

abbrev pub invariant-loop-op : goal.invariant-loop-op
invariant-loop-op l = l.sum + needs (drop l.op-index l.ops) ≡ needs l.ops
