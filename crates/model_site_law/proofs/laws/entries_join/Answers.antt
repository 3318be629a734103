use Rattle.model_site_law.proofs.UntilConflictLemmas.{entries_within, joined_until_conflict}
use Rattle.model_site_law.proofs.JoinedLemmas.{entries_join}
use Rattle.model_site_law.proofs.laws.entries_join.Goals as goal

pub returns-clause-first : goal.returns-clause-first
returns-clause-first c = joined_until_conflict

pub returns-clause-agree : goal.returns-clause-agree
returns-clause-agree c = entries_join

pub returns-clause-within : goal.returns-clause-within
returns-clause-within c = entries_within
