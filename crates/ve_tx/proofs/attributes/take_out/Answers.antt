use Rattle.std.proofs.Common.{◌≡◌, ap, ◌∙◌, arith}
use Rattle.std.specs.List.{remove}
use Rattle.model_change.specs.Attributes.{position_of}
use Rattle.ve_tx.proofs.AttrsLemmas.{position-within, removed-out}
use Rattle.ve_tx.proofs.attributes.take_out.Goals as goal

pub remove-requires : goal.remove-requires
remove-requires c =
    let attrs = c.args.list.now.items in
    let at : c.position-at.result ≡ position_of c.args.name.now attrs = c.position-at.ensures.place ∙ ap (position_of c.args.name.now) c.as_slice.ensures.value in
    omega (arith, at, position-within c.args.name.now attrs c.requires, c.args.list.now.ok)

pub returns : goal.returns
returns c =
    let attrs = c.args.list.now.items in
    let at : c.position-at.result ≡ position_of c.args.name.now attrs = c.position-at.ensures.place ∙ ap (position_of c.args.name.now) c.as_slice.ensures.value in
    c.remove.ensures.items ∙ ap (remove attrs) at ∙ removed-out c.args.name.now attrs c.requires
