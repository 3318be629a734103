use Rattle.std.proofs.Common.{◌≡◌, get_or, slice_set, ap, ◌∙◌, subst, arith}
use Rattle.model_change.specs.Attributes.{position_of}
use Rattle.ve_tx.proofs.AttrsLemmas.{position-within, set-replaced}
use Rattle.ve_tx.proofs.attributes.set_value.Goals as goal

pub index_mut-requires : goal.index_mut-requires
index_mut-requires c =
    let attrs = c.args.list.now.items in
    let at : c.position-at.result ≡ position_of c.args.name.now attrs = c.position-at.ensures.place ∙ ap (position_of c.args.name.now) c.as_slice.ensures.value in
    omega (arith, at, position-within c.args.name.now attrs c.requires, c.args.list.now.ok)

pub returns : goal.returns
returns c =
    let attrs = c.args.list.now.items in
    let old = c.index_mut.result.now in
    let at : c.position-at.result ≡ position_of c.args.name.now attrs = c.position-at.ensures.place ∙ ap (position_of c.args.name.now) c.as_slice.ensures.value in
    let here : old ≡ get_or attrs (position_of c.args.name.now attrs) old = subst (λ k. old ≡ get_or attrs k old) at c.index_mut.ensures.value in
    ap (λ k. slice_set attrs k (record { name = old.name; value = c.args.value })) at ∙ set-replaced c.args.name.now c.args.value attrs old c.requires here
