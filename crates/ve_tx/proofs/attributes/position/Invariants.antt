use Rattle.std.proofs.Common.{◌≡◌, ◌+◌, drop}
use Rattle.model_change.specs.Attributes.{position_of}
use Rattle.ve_tx.proofs.attributes.position.Given as goal

abbrev pub invariant-loop-i : goal.invariant-loop-i
invariant-loop-i l = l.i + position_of l.name (drop l.i l.attrs) ≡ position_of l.name l.attrs
