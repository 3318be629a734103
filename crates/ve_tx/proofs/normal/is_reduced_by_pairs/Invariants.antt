use Rattle.std.proofs.Common.{◌≡◌, drop}
use Rattle.ve_tx.specs.Normal.{are_reduced}
use Rattle.ve_tx.proofs.normal.is_reduced_by_pairs.Given as goal

abbrev pub invariant-loop-i : goal.invariant-loop-i
invariant-loop-i l = are_reduced (drop l.i l.ops) ≡ are_reduced l.ops
