use Rattle.std.proofs.Common.{sym, subst}
use Rattle.ve_repair.specs.Repaired.{IsCause}
use Rattle.ve_repair.proofs.MendingLemmas.{is_cause}
use Rattle.ve_repair.proofs.mending.repair.Goals as goal

pub returns-in-Err-clause-cause : goal.returns-in-Err-clause-cause
returns-in-Err-clause-cause g c =
    subst (IsCause c.args.tx.now c.args.list.now.items) (sym c.fault_of.ensures) (is_cause c.args.tx.now c.args.list.now.items c.in-Err.fault c.in-Err.ensures.err)
