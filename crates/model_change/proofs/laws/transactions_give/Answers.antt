use Rattle.model_change.proofs.laws.transactions_give.Goals as goal
use Rattle.model_change.proofs.Fits.{gives_new_length}
use Rattle.model_change.proofs.ActiveLemmas.{only_active_changes}
use Rattle.model_change.proofs.FilledLemmas.{names_stay_apart}

pub returns-clause-length : goal.returns-clause-length
returns-clause-length c = gives_new_length

pub returns-clause-active : goal.returns-clause-active
returns-clause-active c = only_active_changes

pub returns-clause-apart : goal.returns-clause-apart
returns-clause-apart c = names_stay_apart
