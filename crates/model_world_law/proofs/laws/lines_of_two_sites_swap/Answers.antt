use Rattle.model_world_law.proofs.AheadLemmas as law
use Rattle.model_world_law.proofs.laws.lines_of_two_sites_swap.Goals as goal

pub returns : goal.returns
returns c = law.lines_of_two_sites_swap
