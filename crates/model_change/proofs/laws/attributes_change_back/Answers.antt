use Rattle.model_change.proofs.laws.attributes_change_back.Goals as goal
use Rattle.model_change.proofs.AttributeLemmas.{item_undone, filled_puts_back}
use Rattle.model_change.proofs.AttributeJoin.{changes_commute}

pub returns-clause-undone : goal.returns-clause-undone
returns-clause-undone c = item_undone

pub returns-clause-filled : goal.returns-clause-filled
returns-clause-filled c = filled_puts_back

pub returns-clause-commute : goal.returns-clause-commute
returns-clause-commute c = changes_commute
