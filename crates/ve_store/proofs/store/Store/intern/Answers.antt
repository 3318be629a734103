use Rattle.std.proofs.Common.{refl}
use Rattle.ve_store.proofs.StoreLemmas.{admitted_there}
use Rattle.ve_store.proofs.store.Store.intern.Goals as goal

pub returns-in-Some-clause-ok : goal.returns-in-Some-clause-ok
returns-in-Some-clause-ok c = admitted_there c.args.self.now c.args.value (c.in-Some.ensures.some.0 refl)
