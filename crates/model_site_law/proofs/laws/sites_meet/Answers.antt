use Rattle.model_site_law.proofs.LawLemmas.{sites_meet}
use Rattle.model_site_law.proofs.laws.sites_meet.Goals as goal

pub returns : goal.returns
returns c = sites_meet
