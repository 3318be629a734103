use Rattle.std.proofs.Common.{◌≡◌, ◌≤◌, ◌+◌, ◌^◌, take, drop, vec_len}
use Rattle.model_items.specs.Plain.{plain_list}
use Rattle.ve_tx.specs.Making.{standing}
use Rattle.ve_tx.specs.Normal.{total_size}
use Rattle.ve_tx.specs.Operation.{with_positions}
use Rattle.ve_tx.proofs.FilledLemmas.{Filling}
use Rattle.ve_tx.proofs.filled.filled_along.Given as goal

abbrev pub invariant-loop-i : goal.invariant-loop-i
invariant-loop-i l =
    (vec_len l.made.ops ≡ vec_len l.made.kept)
    × (l.made.ops.items ≡ take l.i l.ops)
    × (l.cursor.at + total_size (drop l.i l.ops) ≤ 2 ^ 60)
    × Filling
    l.store
    (with_positions l.ops l.kept)
    (plain_list l.store l.list.items)
    l.i
    (with_positions l.made.ops.items l.made.kept.items)
    (standing (plain_list l.store l.list.items) l.cursor.at l.cursor.head)
