use Rattle.std.proofs.Common.{sym, subst}
use Rattle.ve_tx.specs.Cites.{TxCites}
use Rattle.ve_tx_samples.proofs.line.transaction.Goals as goal

pub returns-in-Ok : goal.returns-in-Ok
returns-in-Ok c = λ values. subst (TxCites values) (sym c.in-Ok.ensures.ok) (c.in_ok-ops.ensures values)
