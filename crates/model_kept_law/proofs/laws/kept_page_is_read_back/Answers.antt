use Rattle.model_kept_law.proofs.KeptBackLemmas.{kept_is_read_back, readable_is_read_back}
use Rattle.model_kept_law.proofs.laws.kept_page_is_read_back.Goals as goal

pub returns-clause-plain : goal.returns-clause-plain
returns-clause-plain c = kept_is_read_back

pub returns-clause-readable : goal.returns-clause-readable
returns-clause-readable c = readable_is_read_back
