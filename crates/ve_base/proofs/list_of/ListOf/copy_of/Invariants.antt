use Rattle.std.proofs.Common.{◌≡◌, take}
use Rattle.ve_base.proofs.list_of.ListOf.copy_of.Given as goal

abbrev pub invariant-loop-member : goal.invariant-loop-member
invariant-loop-member g l = l.list.items ≡ take l.member-index l.members
