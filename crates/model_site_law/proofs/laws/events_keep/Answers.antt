use Rattle.model_site_law.proofs.EditLemmas.{edit_may_run}
use Rattle.model_site_law.proofs.LawLemmas.{holds_at_first}
use Rattle.model_site_law.proofs.ServeLemmas.{event_holds}
use Rattle.model_site_law.proofs.laws.events_keep.Goals as goal

pub returns-clause-first : goal.returns-clause-first
returns-clause-first c = holds_at_first

pub returns-clause-then : goal.returns-clause-then
returns-clause-then c = event_holds

pub returns-clause-edits : goal.returns-clause-edits
returns-clause-edits c = edit_may_run
