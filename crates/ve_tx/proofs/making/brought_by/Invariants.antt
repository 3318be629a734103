use Rattle.std.proofs.Common.{◌≡◌, ◌≤◌, ◌+◌, ◌^◌, drop}
use Rattle.ve_tx.specs.Changed.{brought_by}
use Rattle.ve_tx.specs.Normal.{total_size}
use Rattle.ve_tx.proofs.making.brought_by.Given as goal

abbrev pub invariant-loop-op : goal.invariant-loop-op
invariant-loop-op l = (l.count + brought_by (drop l.op-index l.ops) ≡ brought_by l.ops) × (l.count + total_size (drop l.op-index l.ops) ≤ 2 ^ 60 + l.op-index)
