use Rattle.std.proofs.Common.{◌≡◌, suc, length, IsSome, sym, ap, ◌∙◌, subst, arith}
use Rattle.std.specs.Str.{chars}
use Rattle.std.specs.BTreeMap.{get_by_text}
use Rattle.model_change.specs.Attributes.{value_of, attr_removed}
use Rattle.ve_tx.specs.Order.{without}
use Rattle.ve_tx.specs.Many.{ordered, IsIndexed}
use Rattle.ve_tx.proofs.ManyLemmas.{is_found, taken_out, one_fewer, fewer}
use Rattle.ve_tx.proofs.many.ManyAttrs.take_out.Goals as goal

pub index-number-requires : goal.index-number-requires
index-number-requires c =
    let name = c.args.name.now in
    let some = subst (λ l. IsSome (value_of name l)) (sym c.self.view_is) c.requires in
    subst (λ bytes. IsSome (get_by_text c.self.inside.numbers bytes)) (sym c.as_str.ensures.bytes) (is_found c.self.invariant.0 name some)

pub invariant_of-self : goal.invariant_of-self
invariant_of-self c =
    let name = c.args.name.now in
    let number = c.index-number.result.now in
    let numbers = get_by_text c.self.inside.numbers in
    let slots = c.self.inside.slots.items in
    let order = c.self.inside.order in
    let spelled = ap chars (sym c.as_str.ensures.bytes) ∙ c.as_str.ensures.chars in
    let found = ap numbers (sym c.as_str.ensures.bytes) ∙ c.index-number.ensures in
    let some = subst (λ l. IsSome (value_of name l)) (sym c.self.view_is) c.requires in
    let less : suc (length (without number order)) ≡ length order = one_fewer c.self.invariant.0 name number spelled found some in
    let long : length c.take_out.new.self ≡ length (without number order) = ap length c.take_out.ensures in
    (subst (IsIndexed slots numbers) (sym c.take_out.ensures) (fewer slots numbers order number c.self.invariant.0), omega (arith, less, long, c.self.invariant.1))

pub returns : goal.returns
returns c =
    let name = c.args.name.now in
    let number = c.index-number.result.now in
    let spelled = ap chars (sym c.as_str.ensures.bytes) ∙ c.as_str.ensures.chars in
    let found = ap (get_by_text c.self.inside.numbers) (sym c.as_str.ensures.bytes) ∙ c.index-number.ensures in
    ap (ordered c.self.inside.slots.items) c.take_out.ensures ∙ taken_out c.self.invariant.0 name number spelled found ∙ ap (attr_removed name) c.self.view_is
