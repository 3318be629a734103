use Rattle.std.proofs.Common.{◌≡◌, ◌≤◌, ◌+◌, ◌^◌, drop}
use Rattle.ve_tx.specs.Checked.{old_size}
use Rattle.ve_tx.specs.Normal.{total_size}
use Rattle.ve_tx.proofs.check.old_length.Given as goal

abbrev pub invariant-loop-op : goal.invariant-loop-op
invariant-loop-op l = (l.len + old_size (drop l.op-index l.ops) ≡ old_size l.ops) × (l.len + total_size (drop l.op-index l.ops) ≤ 2 ^ 60)
