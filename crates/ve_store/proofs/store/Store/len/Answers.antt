use Rattle.std.proofs.Common.{subst}
use Rattle.model_items.specs.Plain.{AreDistinct}
use Rattle.ve_store.proofs.StoreLemmas.{are_distinct}
use Rattle.ve_store.proofs.store.Store.len.Goals as goal

pub returns-clause-distinct : goal.returns-clause-distinct
returns-clause-distinct c = subst AreDistinct c.self.view_is (are_distinct c.self.inside.values.keys c.len.ensures.unique)
