use Rattle.std.proofs.Common.{suc, length, ◌-◌}
use Rattle.ve_tree.proofs.landmarks.make_place.Given as goal

abbrev pub decreases-loop-ranks : goal.decreases-loop-ranks
decreases-loop-ranks l = suc l.place - length l.ranks.items
