use Rattle.std.proofs.Common.{arith}
use Rattle.ve_session.proofs.FeedCosts.{take_within}
use Rattle.ve_session.proofs.StopLemmas.{may_want, never}
use Rattle.ve_sites.specs.Shared.{member_at}
use Rattle.ve_session.proofs.queues.take.Goals as goal

pub returns-clause-steps : goal.returns-clause-steps
returns-clause-steps g c =
    let old = c.args.session.now in
    let counted = c.take.ensures.steps in
    let within = take_within old.session (member_at old c.args.k) in omega (arith, counted, within)

pub returns-in_err-taken-clause-steps : goal.returns-in_err-taken-clause-steps
returns-in_err-taken-clause-steps g c =
    let old = c.args.session.now in
    let counted = c.take.ensures.steps in
    let within = take_within old.session (member_at old c.args.k) in omega (arith, counted, within)

pub returns-in_err-taken-clause-memory : goal.returns-in_err-taken-clause-memory
returns-in_err-taken-clause-memory g c = may_want c.from_residual.result _ (λ none. never (c.in_err-taken.ensures.nothing none))
