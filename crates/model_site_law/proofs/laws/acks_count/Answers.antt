use Rattle.model_site_law.proofs.LawLemmas.{acks_count}
use Rattle.model_site_law.proofs.laws.acks_count.Goals as goal

pub returns : goal.returns
returns c = acks_count
