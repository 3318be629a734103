use Rattle.ve_peer_undo.proofs.UndoneLemmas.{BackSoFar}
use Rattle.ve_peer_undo.proofs.undo.inverse_of.Given as goal

abbrev pub invariant-loop-n : goal.invariant-loop-n
invariant-loop-n l = BackSoFar l.parcel.values l.parcel.entry.txs l.back l.n
