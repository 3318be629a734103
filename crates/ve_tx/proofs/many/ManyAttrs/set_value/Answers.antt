use Rattle.std.proofs.Common.{[], IsSome, sym, ap, ◌∙◌, subst, arith}
use Rattle.std.specs.Str.{chars}
use Rattle.std.specs.BTreeMap.{get_by_text}
use Rattle.std.proofs.lemmas.List.{get_or_read}
use Rattle.ve_base.specs.declared.attrs.Attr.{Attr}
use Rattle.model_change.specs.Attributes.{value_of, attr_replaced}
use Rattle.ve_tx.proofs.ManyLemmas.{is_found, valued, value_set}
use Rattle.ve_tx.proofs.many.ManyAttrs.set_value.Goals as goal

pub index-number-requires : goal.index-number-requires
index-number-requires c =
    let name = c.args.name.now in
    let some = subst (λ l. IsSome (value_of name l)) (sym c.self.view_is) c.requires in
    subst (λ bytes. IsSome (get_by_text c.self.inside.numbers bytes)) (sym c.as_str.ensures.bytes) (is_found c.self.invariant.0 name some)

pub index_mut-requires : goal.index_mut-requires
index_mut-requires c =
    let below = (c.self.invariant.0.known c.as_str.result.now c.index-number.result.now c.index-number.ensures).0 in
    omega (arith, below, c.self.inside.slots.ok)

pub invariant_of-self : goal.invariant_of-self
invariant_of-self c =
    let slots = c.self.inside.slots.items in
    let numbers = get_by_text c.self.inside.numbers in
    let number = c.index-number.result.now in
    let old = c.index_mut.result.now in
    let below = (c.self.invariant.0.known c.as_str.result.now number c.index-number.ensures).0 in
    let own = get_or_read slots number old below c.index_mut.ensures.value (record { name = []; value = [] }) in
    (valued slots numbers c.self.inside.order number (record { name = old.name; value = c.args.value }) below (ap (λ (x : Attr). x.name) own) c.self.invariant.0, c.self.invariant.1)

pub returns : goal.returns
returns c =
    let name = c.args.name.now in
    let slots = c.self.inside.slots.items in
    let numbers = get_by_text c.self.inside.numbers in
    let number = c.index-number.result.now in
    let old = c.index_mut.result.now in
    let below = (c.self.invariant.0.known c.as_str.result.now number c.index-number.ensures).0 in
    let own = get_or_read slots number old below c.index_mut.ensures.value (record { name = []; value = [] }) in
    let spelled = ap chars (sym c.as_str.ensures.bytes) ∙ c.as_str.ensures.chars in
    let found = ap numbers (sym c.as_str.ensures.bytes) ∙ c.index-number.ensures in
    value_set slots numbers c.self.inside.order name c.args.value number old c.self.invariant.0 spelled found below own ∙ ap (attr_replaced name c.args.value) c.self.view_is
