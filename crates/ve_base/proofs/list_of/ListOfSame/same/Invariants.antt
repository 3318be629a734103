use Rattle.std.proofs.Common.{◌≡◌, take}
use Rattle.ve_base.proofs.list_of.ListOfSame.same.Given as goal

abbrev pub invariant-loop-i : goal.invariant-loop-i
invariant-loop-i g l = take l.i l.self-inside.list.items ≡ take l.i l.other-inside.list.items
