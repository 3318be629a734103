use Rattle.std.proofs.Common.{sym, ◌∙◌}
use Rattle.ve_tx.specs.Operation.{by_value}
use Rattle.ve_select.proofs.PassedLemmas.{caret-moved, forward-moved, backward-moved}
use Rattle.ve_select.proofs.translate.translate_range.Goals as goal

pub returns-then-s : goal.returns-then-s
returns-then-s c values =
    c.with_sides.ensures values ∙ sym (caret-moved (by_value values c.args.tx.now) c.args.s c.if-s.true)

pub returns-then-s-2 : goal.returns-then-s-2
returns-then-s-2 c values =
    c.with_sides-then-s-2.ensures values ∙ sym (forward-moved (by_value values c.args.tx.now) c.args.s c.if-s.false c.if-s-2.true)

pub returns-else-s-2 : goal.returns-else-s-2
returns-else-s-2 c values =
    c.with_sides-else-s-2.ensures values ∙ sym (backward-moved (by_value values c.args.tx.now) c.args.s c.if-s.false c.if-s-2.false)
