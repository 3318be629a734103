use Rattle.std.proofs.Common.{◌++◌}
use Rattle.ve_rebase.proofs.UnderLemmas.{UnderSoFar}
use Rattle.ve_rebase.proofs.under.joined_all.Given as goal

abbrev pub invariant-loop-i : goal.invariant-loop-i
invariant-loop-i l = UnderSoFar l.foreign (l.sent ++ l.unsent) l.over.items l.kept l.i
