use Rattle.ve_site.proofs.LengthLemmas.{taken_stay_within}
use Rattle.ve_site.proofs.StepBoundLemmas.{take_is_bounded}
use Rattle.ve_site.proofs.laws.takes_are_bounded.Goals as goal

pub returns-clause-steps : goal.returns-clause-steps
returns-clause-steps c = take_is_bounded

pub returns-clause-lengths : goal.returns-clause-lengths
returns-clause-lengths c = taken_stay_within
