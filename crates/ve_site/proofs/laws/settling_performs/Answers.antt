use Rattle.ve_site.proofs.SettleLemmas.{settled_is_performed}
use Rattle.ve_site.proofs.laws.settling_performs.Goals as goal

pub returns : goal.returns
returns c = settled_is_performed
