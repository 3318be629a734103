use Rattle.std.proofs.Common.{◌≡◌, drop}
use Rattle.ve_tx.specs.Normal.{names_apart}
use Rattle.ve_tx.proofs.normal.name_may_precede.Given as goal

abbrev pub invariant-loop-op : goal.invariant-loop-op
invariant-loop-op l = names_apart l.name (drop l.op-index l.rest) ≡ names_apart l.name l.rest
