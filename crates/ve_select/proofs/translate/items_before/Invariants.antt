use Rattle.std.proofs.Common.{◌≡◌, ◌≤◌, ◌+◌, ◌^◌, drop}
use Rattle.ve_tx.specs.Normal.{total_size}
use Rattle.ve_select.specs.Passed.{passed_before}
use Rattle.ve_select.proofs.translate.items_before.Given as goal

abbrev pub invariant-loop-op : goal.invariant-loop-op
invariant-loop-op l =
    (l.before + passed_before l.bias l.offset l.at (drop l.op-index l.ops) ≡ passed_before l.bias l.offset 0 l.ops)
    × (l.at + total_size (drop l.op-index l.ops) ≤ 2 ^ 60)
    × (l.before + total_size (drop l.op-index l.ops) ≤ 2 ^ 60)
