use Rattle.model_change.proofs.laws.values_are_filled.Goals as goal
use Rattle.model_change.proofs.StoreLemmas.{fill_appends}
use Rattle.model_change.proofs.BroughtLemmas.{heads_are_changed, brought_is_new}

pub returns-clause-filled : goal.returns-clause-filled
returns-clause-filled c = fill_appends

pub returns-clause-heads : goal.returns-clause-heads
returns-clause-heads c = heads_are_changed

pub returns-clause-brought : goal.returns-clause-brought
returns-clause-brought c = brought_is_new
