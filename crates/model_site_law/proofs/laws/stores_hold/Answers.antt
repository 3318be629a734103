use Rattle.model_site_law.proofs.LawLemmas.{first_replica_opens, store_holds}
use Rattle.model_site_law.proofs.KeptLemmas.{first_store_is_distinct, store_is_distinct}
use Rattle.model_site_law.proofs.laws.stores_hold.Goals as goal

pub returns-clause-first : goal.returns-clause-first
returns-clause-first c = first_replica_opens

pub returns-clause-always : goal.returns-clause-always
returns-clause-always c = store_holds

pub returns-clause-once : goal.returns-clause-once
returns-clause-once c = store_is_distinct

pub returns-clause-distinct : goal.returns-clause-distinct
returns-clause-distinct c = first_store_is_distinct
