use Rattle.std.proofs.Common.{length, ◌++◌, ◌∷◌, take, drop, sym, ap, ◌∙◌, subst, arith}
use Rattle.std.specs.BTreeMap.{get_by_text}
use Rattle.model_change.specs.Attributes.{value_of, attr_added}
use Rattle.ve_tx.specs.Many.{ordered, IsIndexed}
use Rattle.ve_tx.proofs.ManyLemmas.{length-put, put_indexed, put_attrs}
use Rattle.ve_tx.proofs.many.ManyAttrs.put_in.Goals as goal

pub invariant_of-self-2 : goal.invariant_of-self-2
invariant_of-self-2 c =
    let slots = c.self.inside.slots.items in
    let after = c.add_slot.new.slots.items in
    let numbers = get_by_text c.add_slot.new.numbers in
    let order = c.self.inside.order in
    let at = c.unwrap_or.result in
    let number = c.in_ok-number.number in
    let new = ap (value_of c.args.attr.name) c.self.view_is ∙ c.requires in
    let indexed = c.add_slot.ensures.indexed order c.self.invariant.0 new in
    let long = ap length c.in_ok-put_in.ensures.ok ∙ length-put at number order in (
      subst (IsIndexed after numbers) (sym c.in_ok-put_in.ensures.ok)
          (put_indexed slots after c.args.attr (get_by_text c.self.inside.numbers) numbers order at number c.in_ok-number.ensures.slots c.in_ok-number.ensures.number c.self.invariant.0 indexed c.in_ok-number.ensures.told),
      omega (arith, long, c.self.invariant.1),
    )

pub returns : goal.returns
returns c =
    let slots = c.self.inside.slots.items in
    let after = c.add_slot.new.slots.items in
    let order = c.self.inside.order in
    let number = c.in_ok-number.number in
    ap (ordered after) c.in_ok-put_in.ensures.ok
    ∙ ap (λ at. ordered after (take at order ++ number ∷ drop at order)) c.unwrap_or.ensures
    ∙ put_attrs slots after c.args.attr order c.args.kept c.self.inside.count number c.in_ok-number.ensures.slots c.in_ok-number.ensures.number c.self.invariant.1 (c.add_slot.ensures.attrs order c.self.invariant.0)
    ∙ ap (attr_added c.args.kept c.args.attr) c.self.view_is
