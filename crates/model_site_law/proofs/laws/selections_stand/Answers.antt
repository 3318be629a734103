use Rattle.model_site_law.proofs.SelectionLemmas.{moved_stands}
use Rattle.model_site_law.proofs.KeptLemmas.{first_selection_stands, selection_stands}
use Rattle.model_site_law.proofs.laws.selections_stand.Goals as goal

pub returns-clause-moved : goal.returns-clause-moved
returns-clause-moved c = moved_stands

pub returns-clause-always : goal.returns-clause-always
returns-clause-always c = selection_stands

pub returns-clause-first : goal.returns-clause-first
returns-clause-first c = first_selection_stands
