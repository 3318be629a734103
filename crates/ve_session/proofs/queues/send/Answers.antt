use Rattle.std.proofs.Common.{sym, ◌∙◌}
use Rattle.ve_session.proofs.StopLemmas.{send_memory}
use Rattle.ve_session.proofs.queues.send.Goals as goal

pub returns-in-Err-clause-memory : goal.returns-in-Err-clause-memory
returns-in-Err-clause-memory c = λ e. send_memory _ c.in-Err.fault c.in-Err.ensures.memory (sym c.of_send.ensures ∙ e)
