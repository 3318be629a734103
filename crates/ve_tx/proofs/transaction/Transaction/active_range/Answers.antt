use Rattle.std.proofs.Common.{◌≡◌, true, None, List, map, ap, ◌∙◌, sym, subst}
use Rattle.model_change.specs.Transaction.{is_normal}
use Rattle.ve_tx.specs.Operation.{Operation, bare, by_value, IsNormal}
use Rattle.ve_tx.specs.Range.{range_from}
use Rattle.ve_tx.proofs.NormalLemmas.{bare-with_positions, total-within}
use Rattle.ve_tx.proofs.RangeLemmas.{range-active}
use Rattle.ve_tx.proofs.transaction.Transaction.active_range.Goals as goal

pub range_of-requires : goal.range_of-requires
range_of-requires c = rw c.as_slice.ensures.value (total-within c.self.inside.ops.items c.self.inside.kept.items c.self.invariant)

pub returns : goal.returns
returns c values =
    let P : List Operation → Type 0 = IsNormal in
    let normal : is_normal (by_value values c.args.self.now) ≡ true = subst P c.self.view_is c.self.invariant values in
    let bared : c.as_slice.result.now ≡ map bare c.args.self.now =
    c.as_slice.ensures.value ∙ (sym (bare-with_positions c.self.inside.ops.items c.self.inside.kept.items) ∙ ap (map bare) c.self.view_is) in
    c.range_of.ensures ∙ (ap (range_from 0 None) bared ∙ range-active values c.args.self.now normal)
