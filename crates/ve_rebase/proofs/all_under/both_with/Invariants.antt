use Rattle.std.proofs.Common.{◌++◌}
use Rattle.ve_rebase.proofs.MovedLemmas.{WrittenSoFar}
use Rattle.ve_rebase.proofs.all_under.both_with.Given as goal

abbrev pub invariant-loop-i : goal.invariant-loop-i
invariant-loop-i l = WrittenSoFar (l.sent ++ l.unsent) l.i l.all l.left l.made
