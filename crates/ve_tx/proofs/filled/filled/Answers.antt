use Rattle.std.proofs.Common.{◌≡◌, [], sym, ap, ◌∙◌}
use Rattle.model_items.specs.Plain.{plain_list}
use Rattle.ve_tx.specs.Operation.{by_value, with_positions}
use Rattle.ve_tx.proofs.FilledLemmas.{filled_unkept}
use Rattle.ve_tx.proofs.filled.filled.Goals as goal

pub returns-clause-filled : goal.returns-clause-filled
returns-clause-filled c =
    let made = c.in_ok-made.made in
    let same : with_positions made.ops.items made.kept.items ≡ with_positions c.args.ops.now [] =
    ap (λ ops. with_positions ops made.kept.items) c.in_ok-made.ensures.ops ∙ ap (with_positions c.args.ops.now) c.in_ok-made.ensures.kept in
    ap (by_value c.args.store.now) same
    ∙ filled_unkept c.args.store.now c.args.ops.now c.args.kept.now (plain_list c.args.store.now c.args.list.now.items) (sym c.has_attribute.ensures ∙ c.if-has_attribute.false)
