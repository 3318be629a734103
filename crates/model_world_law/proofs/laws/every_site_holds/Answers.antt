use Rattle.model_world_law.proofs.ReachLemmas.{every_site_holds}
use Rattle.model_world_law.proofs.laws.every_site_holds.Goals as goal

pub returns : goal.returns
returns c = every_site_holds
