use Rattle.model_world_law.proofs.PastedLemmas as law
use Rattle.model_world_law.proofs.laws.pasting_stays_lawful.Goals as goal

pub returns-clause-pieces : goal.returns-clause-pieces
returns-clause-pieces c = law.fragments_are_children

pub returns-clause-lawful : goal.returns-clause-lawful
returns-clause-lawful c = law.pasting_stays_lawful c.fragment_stays_lawful.ensures
