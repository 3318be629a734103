use Rattle.std.proofs.Common.{sym, ap, ◌∙◌, Some}
use Rattle.model_items.proofs.SameLemmas.{Means-value_same}
use Rattle.ve_store.proofs.store.Store.admit.Goals as goal

pub returns-clause-stored : goal.returns-clause-stored
returns-clause-stored c = let found = c.in_ok-place.ensures.stored in found.1 ∙ ap Some (sym (Means-value_same.equal c.args.value found.0 found.2))
