use Rattle.model_site_law.proofs.ItemLemmas as law
use Rattle.model_site_law.proofs.laws.items_keep.Goals as goal

pub returns-clause-always : goal.returns-clause-always
returns-clause-always c = law.items_keep

pub returns-clause-revoked : goal.returns-clause-revoked
returns-clause-revoked c = law.revocations_keep
