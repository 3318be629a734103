use Rattle.model_edit_law.proofs.SelectLemmas.{offsets_stay_within, offsets_keep_order, offsets_keep_neighbours, offsets_outside_stay}
use Rattle.model_edit_law.proofs.laws.offsets_lead_on.Goals as goal

pub returns-clause-within : goal.returns-clause-within
returns-clause-within c = offsets_stay_within

pub returns-clause-order : goal.returns-clause-order
returns-clause-order c = offsets_keep_order

pub returns-clause-neighbours : goal.returns-clause-neighbours
returns-clause-neighbours c = offsets_keep_neighbours

pub returns-clause-outside : goal.returns-clause-outside
returns-clause-outside c = offsets_outside_stay
