use Rattle.std.proofs.Common.{◌≡◌, None, take}
use Rattle.ve_peer_undo.specs.Counted.{position_of}
use Rattle.ve_peer_undo.proofs.live.position.Given as goal

abbrev pub invariant-loop-i : goal.invariant-loop-i
invariant-loop-i l = position_of l.number (take l.i l.numbers) ≡ None
