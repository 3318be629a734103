use Rattle.std.proofs.Common.{◌≡◌, ◌≤◌, ◌+◌, ◌^◌, drop}
use Rattle.ve_tx.specs.Normal.{total_size}
use Rattle.ve_rebase.specs.Totals.{inserted_size}
use Rattle.ve_rebase.proofs.totals.inserted_count.Given as goal

abbrev pub invariant-loop-op : goal.invariant-loop-op
invariant-loop-op l =
    (l.inserts + inserted_size (drop l.op-index l.ops) ≡ inserted_size l.ops)
    × (l.inserts + total_size (drop l.op-index l.ops) ≤ 2 ^ 60)
