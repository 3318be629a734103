use Rattle.std.proofs.Common.{◌≡◌, ◌≤◌, ◌+◌, ◌^◌, length, drop}
use Rattle.model_change.specs.Join.{some_meet}
use Rattle.ve_tx.specs.Normal.{total_size}
use Rattle.ve_rebase.specs.Places.{places}
use Rattle.ve_rebase.proofs.places.attributes_meet.Given as goal

abbrev pub invariant-loop-i : goal.invariant-loop-i
invariant-loop-i l = record {
  small : l.at + total_size (drop l.i l.ops) ≤ 2 ^ 62;
  within : l.cursor.passed ≤ length l.others;
  others_small : l.cursor.at + total_size (drop l.cursor.passed l.others) ≤ 2 ^ 62;
  so_far : some_meet (places l.at (drop l.i l.ops)) (places l.cursor.at (drop l.cursor.passed l.others)) ≡ some_meet (places l.first l.ops) (places l.other_first l.others);
}
