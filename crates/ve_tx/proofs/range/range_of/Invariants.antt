use Rattle.std.proofs.Common.{◌≡◌, ◌≤◌, ◌+◌, ◌^◌, drop, None}
use Rattle.ve_tx.specs.Normal.{total_size}
use Rattle.ve_tx.specs.Range.{range_from}
use Rattle.ve_tx.proofs.range.range_of.Given as goal

abbrev pub invariant-loop-op : goal.invariant-loop-op
invariant-loop-op l =
    (range_from l.at l.range (drop l.op-index l.ops) ≡ range_from 0 None l.ops) × (l.at + total_size (drop l.op-index l.ops) ≤ 2 ^ 60)
