use Rattle.std.proofs.Common.{◌≡◌, sym, ap, ◌∙◌, subst}
use Rattle.ve_base.specs.declared.head.Head.{Head}
use Rattle.ve_base.specs.Names.{NamesApart}
use Rattle.model_change.specs.Attributes.{value_of, attrs_changed}
use Rattle.ve_tx.specs.Changing.{attrs_now}
use Rattle.ve_tx.proofs.AttrsLemmas.{apart-changed}
use Rattle.ve_tx.proofs.changing.ChangingHead.changed.Goals as goal

pub invariant_of-result : goal.invariant_of-result
invariant_of-result c =
    let attrs = attrs_now c.self.inside.attrs in
    let made = c.in_ok-change.ensures ∙ ap (attrs_changed c.args.name.now c.args.kept c.args.from.now c.args.to.now) c.in_ok-attrs.ensures in
    let present : value_of c.args.name.now attrs ≡ c.args.from.now = ap (λ (head : Head). value_of c.args.name.now head.attrs) c.self.view_is ∙ c.requires.present in
    subst NamesApart (sym made) (apart-changed c.args.name.now c.args.kept c.args.from.now c.args.to.now attrs present c.requires.free c.self.invariant)
