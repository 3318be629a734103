use Rattle.model_site_law.proofs.BeginLemmas.{store_begins}
use Rattle.model_site_law.proofs.laws.stores_begin.Goals as goal

pub returns : goal.returns
returns c = store_begins
