use Rattle.ve_lengths.proofs.FindLemmas as FindLemmas
use Rattle.ve_lengths.proofs.laws.one_is_found.Goals as goal

pub returns-clause-one : goal.returns-clause-one
returns-clause-one c = FindLemmas.one_is_found
