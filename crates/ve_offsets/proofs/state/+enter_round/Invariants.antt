use Rattle.ve_offsets.proofs.state.+enter_round.Given as goal

abbrev pub decreases-enter_round : goal.decreases-enter_round
decreases-enter_round l = l.levels
