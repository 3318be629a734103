use Rattle.std.proofs.Common.{arith, ap, ◌∙◌}
use Rattle.ve_changes.specs.Stops.{edit_stop}
use Rattle.ve_editor.specs.Edited.{drafted}
use Rattle.ve_session.proofs.CostLemmas.{cost_of_performed}
use Rattle.ve_session.proofs.TurnLemmas.{edit_was}
use Rattle.ve_sites.specs.Shared.{site_at}
use Rattle.ve_session.proofs.edits.perform.Goals as goal

pub returns-in-Ok-clause-steps : goal.returns-in-Ok-clause-steps
returns-in-Ok-clause-steps g c = λ _.
    let s = site_at c.args.session.now c.args.k in
    let t = drafted s.replica.store c.args.draft.now in
    cost_of_performed s.replica t c.args.steps.now c.edit.new.steps (edit_was t s (site_at c.edit.new.self c.args.k) c.in-Ok.ensures.site).0 c.edit.ensures.steps

pub returns-in-Err-clause-steps : goal.returns-in-Err-clause-steps
returns-in-Err-clause-steps g c = λ h.
    let unstepped = c.in-Err.ensures.unstepped (λ e. h (c.from.ensures ∙ ap edit_stop e)) in omega (arith, unstepped)
