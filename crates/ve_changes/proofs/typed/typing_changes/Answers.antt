use Rattle.std.proofs.Common.{◌∙◌}
use Rattle.ve_changes.proofs.TypingLemmas.{typing_caret, typing_range}
use Rattle.ve_changes.proofs.typed.typing_changes.Goals.{then-selection+in_ok-push, else-selection}
use Rattle.ve_changes.proofs.typed.typing_changes.Goals as goal

pub returns : goal.returns
returns c = elim c.if-selection.branch [
  | then-selection+in_ok-push w ↦
      typing_range c.args.selection c.args.text.now c.in_ok-text.text c.min-from.result c.max-to.result c.new-changes.result c.if-selection.changes c.push-2.new.self w.if-selection.true
      c.min-from.ensures c.max-to.ensures c.in_ok-text.ensures c.new-changes.ensures (w.changes-is ∙ w.in_ok-push.ensures.ok) c.in_ok-push-2.ensures.ok
  | else-selection w ↦
      typing_caret c.args.selection c.args.text.now c.in_ok-text.text c.min-from.result c.if-selection.changes c.push-2.new.self w.if-selection.false
      c.min-from.ensures c.in_ok-text.ensures (w.changes-is ∙ c.new-changes.ensures) c.in_ok-push-2.ensures.ok
]
