use Rattle.model_world_law.proofs.ReachLemmas as law
use Rattle.model_world_law.proofs.laws.every_item_stands.Goals as goal

pub returns : goal.returns
returns c = law.every_item_stands
