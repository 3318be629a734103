use Rattle.std.proofs.Common.{arith, sym, ◌∙◌}
use Rattle.ve_session.proofs.CostLemmas.{redo_within}
use Rattle.ve_session.proofs.StopLemmas.{redo_memory}
use Rattle.ve_sites.specs.Shared.{member_at}
use Rattle.ve_session.proofs.history.redo.Goals as goal

pub returns-in-Ok-clause-steps : goal.returns-in-Ok-clause-steps
returns-in-Ok-clause-steps g c =
    let old = c.args.session.now in
    let counted = c.redo.ensures.steps in
    let within = redo_within old.session (member_at old c.args.k) in omega (arith, counted, within)

pub returns-in-Err-clause-steps : goal.returns-in-Err-clause-steps
returns-in-Err-clause-steps g c =
    let old = c.args.session.now in
    let counted = c.redo.ensures.steps in
    let within = redo_within old.session (member_at old c.args.k) in omega (arith, counted, within)

pub returns-in-Err-clause-memory : goal.returns-in-Err-clause-memory
returns-in-Err-clause-memory g c = λ e. redo_memory _ c.in-Err.fault c.in-Err.ensures.memory (sym c.of_redo.ensures ∙ e)
