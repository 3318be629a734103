use Rattle.ve_edit_tests.proofs.AppliedLemmas.{can_apply}
use Rattle.ve_edit_tests.proofs.repairs.is_repaired.Goals as goal

pub repair-requires-clause-applies : goal.repair-requires-clause-applies
repair-requires-clause-applies L c = can_apply c.args.tx.now c.args.list.now.items c.args.new.now.items c.requires
