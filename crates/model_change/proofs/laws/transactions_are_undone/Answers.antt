use Rattle.model_change.proofs.laws.transactions_are_undone.Goals as goal
use Rattle.model_change.proofs.InverseLemmas.{inverse_undoes}
use Rattle.model_change.proofs.InverseNormal.{inverse_is_reduced, inverse_is_normal}
use Rattle.model_change.proofs.FilledLemmas.{filling_is_neutral}

pub returns-clause-undone : goal.returns-clause-undone
returns-clause-undone c = inverse_undoes

pub returns-clause-reduced : goal.returns-clause-reduced
returns-clause-reduced c = inverse_is_reduced

pub returns-clause-normal : goal.returns-clause-normal
returns-clause-normal c = inverse_is_normal

pub returns-clause-filled : goal.returns-clause-filled
returns-clause-filled c = filling_is_neutral
