use Rattle.ve_peer_undo.proofs.WalkLemmas.{WalkedSoFar}
use Rattle.ve_peer_undo.proofs.live.counting.Given as goal

abbrev pub invariant-loop-k : goal.invariant-loop-k
invariant-loop-k l = WalkedSoFar l.number l.entries l.k l.numbers.items l.parcels
