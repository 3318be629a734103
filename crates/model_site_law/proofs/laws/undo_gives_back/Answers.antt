use Rattle.model_site_law.proofs.FreshSessionLemmas.{undone_at_once, undone_is_first}
use Rattle.model_site_law.proofs.RedoLemmas.{redone_is_as_before}
use Rattle.model_site_law.proofs.laws.undo_gives_back.Goals as goal

pub returns-clause-undone : goal.returns-clause-undone
returns-clause-undone c = undone_is_first

pub returns-clause-redone : goal.returns-clause-redone
returns-clause-redone c = redone_is_as_before

pub returns-clause-once : goal.returns-clause-once
returns-clause-once c = undone_at_once
