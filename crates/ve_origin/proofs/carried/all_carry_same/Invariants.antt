use Rattle.std.proofs.Common.{◌≡◌, ◌≤◌, ◌<◌, ◌+◌, ◌-◌, ℕ, Some, length, slice_get}
use Rattle.model_page.specs.declared.ref_table.RefRow.{RefRow}
use Rattle.ve_origin.specs.Bodies.{AreSameBodies}
use Rattle.ve_origin.specs.Rows.{RowsRise, carried_place, carried_at}
use Rattle.ve_origin.proofs.carried.all_carry_same.Given as goal

abbrev pub invariant-loop-k : goal.invariant-loop-k
invariant-loop-k l = record {
  within : l.k ≤ length l.now.refs.now;
  from : l.initial.k ≤ l.k;
  passed : RowsRise l.now.refs.now → RowsRise l.first.refs.now → (j : ℕ) (r : RefRow) → slice_get l.now.refs.now j ≡ Some r → j < l.k → l.now.from ≤ r.at →
      AreSameBodies l.now.list.now.items l.first.list.now.items (carried_place (Some r)) (carried_at l.first.refs.now (l.first.from + (r.at - l.now.from)));
}

abbrev pub decreases-loop-k : goal.decreases-loop-k
decreases-loop-k l = length l.now.refs.now - l.k
