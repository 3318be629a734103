use Rattle.std.proofs.Common.{◌≡◌, ◌^◌, drop}
use Rattle.ve_tx.specs.Normal.{fit_into}
use Rattle.ve_tx.proofs.normal.is_within_limit.Given as goal

abbrev pub invariant-loop-op : goal.invariant-loop-op
invariant-loop-op l = fit_into l.room (drop l.op-index l.ops) ≡ fit_into (2 ^ 60) l.ops
