use Rattle.std.proofs.Common.{◌≡◌, ◌≤◌, ◌+◌, ◌^◌, drop}
use Rattle.ve_tx.specs.Normal.{total_size}
use Rattle.ve_rebase.specs.Totals.{with_ops, nothing}
use Rattle.ve_rebase.proofs.totals.count.Given as goal

abbrev pub invariant-loop-op : goal.invariant-loop-op
invariant-loop-op l =
    (with_ops l.counted (drop l.op-index l.ops) ≡ with_ops nothing l.ops)
    × ((l.counted.old + total_size (drop l.op-index l.ops) ≤ 2 ^ 60) × (l.counted.new + total_size (drop l.op-index l.ops) ≤ 2 ^ 60))
