use Rattle.model_site_law.proofs.HintLemmas.{hints_stand_beside}
use Rattle.model_site_law.proofs.laws.hints_stand_beside.Goals as goal

pub returns : goal.returns
returns c = hints_stand_beside
