use Rattle.std.proofs.Common.{◌≡◌, ◌↔◌, List, subst, slice_get, Some, IsSome, IfSome, Contains}
use Rattle.ve_base.specs.declared.value.Value.{Value}
use Rattle.ve_store.proofs.StoreLemmas.{found_at, found_some}
use Rattle.ve_store.proofs.store.Store.find.Goals as goal

pub returns-clause-stored : goal.returns-clause-stored
returns-clause-stored c =
    let P : List Value → Type 0 = λ values. IfSome c.get_index_of.result (λ place. slice_get values place ≡ Some c.args.value.now) in
    subst P c.self.view_is (found_at c.self.inside.values.keys c.args.value.now c.get_index_of.result c.get_index_of.ensures.index)

pub returns-clause-some : goal.returns-clause-some
returns-clause-some c =
    let P : List Value → Type 0 = λ values. IsSome c.get_index_of.result ↔ Contains values c.args.value.now in
    subst P c.self.view_is (found_some c.self.inside.values.keys c.args.value.now c.get_index_of.result c.get_index_of.ensures.found)
