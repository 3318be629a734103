use Rattle.model_site_law.proofs.BackLemmas.{taken_back_counts_no_more}
use Rattle.model_site_law.proofs.laws.taken_back_counts_no_more.Goals as goal

pub returns : goal.returns
returns c = taken_back_counts_no_more
