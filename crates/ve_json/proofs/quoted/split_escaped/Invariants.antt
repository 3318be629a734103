use Rattle.std.proofs.Common.{take}
use Rattle.ve_json.specs.Pieces.{IsUnescaped}
use Rattle.ve_json.proofs.quoted.split_escaped.Given as goal

abbrev pub invariant-loop-at : goal.invariant-loop-at
invariant-loop-at l = IsUnescaped (take l.at l.bytes)
