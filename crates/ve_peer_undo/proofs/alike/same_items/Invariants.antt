use Rattle.std.proofs.Common.{◌≡◌, map, take}
use Rattle.ve_peer_undo.specs.Alike.{seen}
use Rattle.ve_peer_undo.proofs.alike.same_items.Given as goal

abbrev pub invariant-loop-i : goal.invariant-loop-i
invariant-loop-i l = map (seen l.values) (take l.i l.one) ≡ map (seen l.others) (take l.i l.other)
