use Rattle.ve_rebase.proofs.NormalLemmas.{joined_normal}
use Rattle.ve_rebase.proofs.laws.joined_stay_normal.Goals as goal

pub returns : goal.returns
returns c = joined_normal
