use Rattle.std.proofs.Common.{◌≡◌, map, take}
use Rattle.ve_peer_undo.specs.Alike.{seen_op}
use Rattle.ve_peer_undo.proofs.alike.same_transaction.Given as goal

abbrev pub invariant-loop-k : goal.invariant-loop-k
invariant-loop-k l = map (seen_op l.values) (take l.k l.one) ≡ map (seen_op l.others) (take l.k l.other)
