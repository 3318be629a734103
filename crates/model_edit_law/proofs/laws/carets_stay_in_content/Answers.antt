use Rattle.model_edit_law.proofs.NextLemmas.{caret_stays_in_branch, caret_stops_at_ends}
use Rattle.model_edit_law.proofs.laws.carets_stay_in_content.Goals as goal

pub returns-clause-branch : goal.returns-clause-branch
returns-clause-branch c = caret_stays_in_branch

pub returns-clause-end : goal.returns-clause-end
returns-clause-end c = caret_stops_at_ends
