use Rattle.std.proofs.Common.{◌≤◌, List, length}
use Rattle.ve_rebase.specs.declared.shifted.Shifted.{Shifted}
use Rattle.ve_rebase.specs.declared.span.ActiveSpan.{ActiveSpan}
use Rattle.ve_rebase.specs.Shifted.{RowSoFar, with_span}
use Rattle.ve_rebase.proofs.join_lists.pass_apart.Given as goal

abbrev pub invariant-loop-i : goal.invariant-loop-i
invariant-loop-i l = record {
  within : l.i ≤ length l.committed;
  row : (old : List Shifted) (start : ActiveSpan) → RowSoFar old l.initial.committed (with_span l.mine start) l.mine.span l.from → RowSoFar old l.committed (with_span l.mine start) l.span l.i;
}
