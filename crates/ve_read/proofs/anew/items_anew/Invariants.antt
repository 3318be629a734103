use Rattle.std.proofs.Common.{◌≡◌, map, take}
use Rattle.ve_read.specs.Anew.{item_anew}
use Rattle.ve_read.proofs.anew.items_anew.Given as goal

abbrev pub invariant-loop-at : goal.invariant-loop-at
invariant-loop-at l = l.items ≡ map (item_anew l.ids) (take l.at l.list.items)
