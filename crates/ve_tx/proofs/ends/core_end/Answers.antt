use Rattle.std.proofs.Common.{◌≡◌, ◌-◌, length, slice_get, Some, sym, ap, ◌∙◌}
use Rattle.std.specs.Option.{option_copied}
use Rattle.ve_tx.proofs.EndsLemmas.{end_by, core_end-last}
use Rattle.ve_tx.proofs.ends.core_end.Goals as goal

pub returns-in-Some-Retain-clause-end : goal.returns-in-Some-Retain-clause-end
returns-in-Some-Retain-clause-end c =
    let last : slice_get c.args.ops.now (length c.args.ops.now - 1) ≡ Some c.in-Some-Retain.field-0.now = sym c.last.ensures.value ∙ ap option_copied c.in-Some-Retain.is in
    ap (λ o. end_by o (length c.args.ops.now)) (sym c.in-Some-Retain.field-0-is) ∙ core_end-last c.args.ops.now c.in-Some-Retain.field-0.now last

pub returns-in-Some-Replace-clause-end : goal.returns-in-Some-Replace-clause-end
returns-in-Some-Replace-clause-end c =
    let last : slice_get c.args.ops.now (length c.args.ops.now - 1) ≡ Some c.in-Some-Replace.field-0.now = sym c.last.ensures.value ∙ ap option_copied c.in-Some-Replace.is in
    ap (λ o. end_by o (length c.args.ops.now)) (sym c.in-Some-Replace.field-0-is) ∙ core_end-last c.args.ops.now c.in-Some-Replace.field-0.now last

pub returns-in-Some-Attribute-clause-end : goal.returns-in-Some-Attribute-clause-end
returns-in-Some-Attribute-clause-end c =
    let last : slice_get c.args.ops.now (length c.args.ops.now - 1) ≡ Some c.in-Some-Attribute.field-0.now = sym c.last.ensures.value ∙ ap option_copied c.in-Some-Attribute.is in
    ap (λ o. end_by o (length c.args.ops.now)) (sym c.in-Some-Attribute.field-0-is) ∙ core_end-last c.args.ops.now c.in-Some-Attribute.field-0.now last
