use Rattle.std.proofs.Common.{◌≡◌, length}
use Rattle.ve_rebase.proofs.RowLemmas.{RowsSoFar}
use Rattle.ve_rebase.proofs.join_lists.rows.Given as goal

abbrev pub invariant-loop-j : goal.invariant-loop-j
invariant-loop-j l = record {
  size : l.j-end ≡ length l.initial.mine.items;
  so_far : RowsSoFar l.initial.committed.items l.committed.items l.initial.mine.items l.mine.items l.j;
}
