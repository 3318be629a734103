use Rattle.ve_session.proofs.StopLemmas.{may_want, never}
use Rattle.ve_session.proofs.queues.serve.Goals as goal

pub returns-in_err-served-clause-memory : goal.returns-in_err-served-clause-memory
returns-in_err-served-clause-memory c = may_want c.from_residual.result _ (λ none. never (c.in_err-served.ensures.nothing none))
