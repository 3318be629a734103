use Rattle.ve_read.proofs.AnewLemmas.{AreAnew}
use Rattle.ve_read.proofs.anew.values_anew.Given as goal

abbrev pub invariant-loop-at : goal.invariant-loop-at
invariant-loop-at l = AreAnew l.values l.store l.at l.fn.new l.new l.ids.items
