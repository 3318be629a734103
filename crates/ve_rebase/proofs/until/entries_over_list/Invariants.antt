use Rattle.ve_rebase.proofs.UntilLemmas.{JoinedSoFar}
use Rattle.ve_rebase.proofs.until.entries_over_list.Given as goal

abbrev pub invariant-loop-one : goal.invariant-loop-one
invariant-loop-one l = JoinedSoFar l.committed l.mine l.over.items l.kept l.one-index
