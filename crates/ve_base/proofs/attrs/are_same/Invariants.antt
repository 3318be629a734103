use Rattle.std.proofs.Common.{◌≡◌, take}
use Rattle.ve_base.proofs.attrs.are_same.Given as goal

abbrev pub invariant-loop-i : goal.invariant-loop-i
invariant-loop-i l = take l.i l.attrs ≡ take l.i l.others
