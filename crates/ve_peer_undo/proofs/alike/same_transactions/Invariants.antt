use Rattle.std.proofs.Common.{◌≡◌, map, take}
use Rattle.ve_peer_undo.specs.Alike.{seen_tx}
use Rattle.ve_peer_undo.proofs.alike.same_transactions.Given as goal

abbrev pub invariant-loop-i : goal.invariant-loop-i
invariant-loop-i l = map (seen_tx l.values) (take l.i l.one) ≡ map (seen_tx l.others) (take l.i l.other)
