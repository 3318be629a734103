use Rattle.std.proofs.Common.{◌≡◌, drop}
use Rattle.ve_rebase.specs.Places.{meets_first}
use Rattle.ve_rebase.proofs.places.meets_first.Given as goal

abbrev pub invariant-loop-op : goal.invariant-loop-op
invariant-loop-op l = meets_first l.name l.moves (drop l.op-index l.ops) ≡ meets_first l.name l.moves l.ops
