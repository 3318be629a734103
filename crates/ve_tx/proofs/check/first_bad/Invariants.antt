use Rattle.ve_tx.proofs.LookedLemmas.{IsSearched}
use Rattle.ve_tx.proofs.check.first_bad.Given as goal

abbrev pub invariant-loop-op : goal.invariant-loop-op
invariant-loop-op l = IsSearched l.store l.list.items l.ops l.at l.op-index l.search
