use Rattle.ve_repair.proofs.RoundLemmas.{room_round}
use Rattle.ve_repair.proofs.start.+begin_round.Given as goal

abbrev pub decreases-begin_round : goal.decreases-begin_round
decreases-begin_round l = room_round l.tree.now.arena.slots l.tree.now.root.0 l.n.0
