use Rattle.ve_tx.proofs.StageLemmas.{Stage}
use Rattle.ve_tx.proofs.making.new_splices.Given as goal

abbrev pub invariant-loop-i : goal.invariant-loop-i
invariant-loop-i l = Stage l.initial.store l.ops l.kept l.list.items l.store l.splices.items l.at l.head l.i
