use Rattle.model_change.proofs.laws.histories_agree.Goals as goal
use Rattle.model_change.proofs.JoinListLaw.{lists_agree, lists_within}
use Rattle.model_change.proofs.ReversalLaw.{reversal_undoes, revoke_takes_back, revoke_of_last, revoke_is_within}

pub returns-clause-joined : goal.returns-clause-joined
returns-clause-joined c = lists_agree

pub returns-clause-within : goal.returns-clause-within
returns-clause-within c = lists_within

pub returns-clause-reversed : goal.returns-clause-reversed
returns-clause-reversed c = reversal_undoes

pub returns-clause-revoked : goal.returns-clause-revoked
returns-clause-revoked c = revoke_takes_back

pub returns-clause-last : goal.returns-clause-last
returns-clause-last c = revoke_of_last

pub returns-clause-short : goal.returns-clause-short
returns-clause-short c = revoke_is_within
