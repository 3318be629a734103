use Rattle.model_change.proofs.laws.retained_items_stay.Goals as goal
use Rattle.model_change.proofs.TouchLemmas.{nodes_are_counted, retained_stays}

pub returns-clause-retained : goal.returns-clause-retained
returns-clause-retained c = retained_stays

pub returns-clause-counted : goal.returns-clause-counted
returns-clause-counted c = nodes_are_counted
