use Rattle.model_site_law.proofs.ShownLemmas.{patches_lead}
use Rattle.model_site_law.proofs.ToldLemmas.{view_holds}
use Rattle.model_site_law.proofs.laws.views_hold.Goals as goal

pub returns-clause-lead : goal.returns-clause-lead
returns-clause-lead c = patches_lead

pub returns-clause-always : goal.returns-clause-always
returns-clause-always c = view_holds
