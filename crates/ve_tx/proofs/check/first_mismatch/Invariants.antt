use Rattle.ve_tx.proofs.CheckLemmas.{IsWalked}
use Rattle.ve_tx.proofs.check.first_mismatch.Given as goal

abbrev pub invariant-loop-op : goal.invariant-loop-op
invariant-loop-op l = IsWalked l.list.items l.ops l.at l.op-index
