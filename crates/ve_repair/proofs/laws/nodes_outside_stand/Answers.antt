use Rattle.ve_repair.proofs.OutsideLemmas as law
use Rattle.ve_repair.proofs.laws.nodes_outside_stand.Goals as goal

pub returns : goal.returns
returns c = law.nodes_stand
