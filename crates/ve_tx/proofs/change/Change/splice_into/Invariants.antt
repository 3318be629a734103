use Rattle.ve_tx.proofs.SplicedLemmas.{AreMade}
use Rattle.ve_tx.proofs.change.Change.splice_into.Given as goal

abbrev pub invariant-loop-left : goal.invariant-loop-left
invariant-loop-left l = AreMade l.initial.list.items l.list.items l.initial.list.spare l.list.spare l.self.splices.items l.left

abbrev pub decreases-loop-left : goal.decreases-loop-left
decreases-loop-left l = l.left
