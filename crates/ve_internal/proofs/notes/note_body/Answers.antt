use Rattle.std.proofs.Common.{sym, ap, ◌∙◌, is_some}
use Rattle.ve_internal.proofs.NoteLemmas.{body_kept, body_put, copied_some}
use Rattle.ve_internal.proofs.notes.note_body.Goals as goal

pub returns-then-is_some : goal.returns-then-is_some
returns-then-is_some c =
    body_kept c.args.bodies.now c.args.key.now c.args.at
    (ap is_some (sym c.get.ensures.value) ∙ copied_some c.get.result ∙ sym c.is_some.ensures ∙ c.if-is_some.true)

pub returns : goal.returns
returns c =
    body_put c.args.bodies.now c.insert.new.self c.args.key.now c.args.at
    (ap is_some (sym c.get.ensures.value) ∙ copied_some c.get.result ∙ sym c.is_some.ensures ∙ c.if-is_some.false)
    c.in_ok-insert.ensures.updates.0
