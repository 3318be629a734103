use Rattle.model_edit_law.proofs.SelectLemmas.{selection_keeps_items, selection_keeps_direction}
use Rattle.model_edit_law.proofs.laws.selections_lead_on.Goals as goal

pub returns-clause-items : goal.returns-clause-items
returns-clause-items c = selection_keeps_items

pub returns-clause-direction : goal.returns-clause-direction
returns-clause-direction c = selection_keeps_direction
