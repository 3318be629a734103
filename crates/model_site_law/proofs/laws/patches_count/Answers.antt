use Rattle.model_site_law.proofs.TellLemmas as law
use Rattle.model_site_law.proofs.laws.patches_count.Goals as goal

pub returns-clause-count : goal.returns-clause-count
returns-clause-count c = law.patches_count

pub returns-clause-made : goal.returns-clause-made
returns-clause-made c = law.tells_what_was_made
