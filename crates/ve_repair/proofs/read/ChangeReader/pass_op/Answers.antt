use Rattle.ve_repair.proofs.ChangeLemmas.{on_ok}
use Rattle.ve_repair.proofs.OpsLemmas.{replace_op}
use Rattle.ve_repair.proofs.read.ChangeReader.pass_op.Goals as goal

pub returns-in-Replace-clause-read : goal.returns-in-Replace-clause-read
returns-in-Replace-clause-read g c = on_ok c.replace.result _ _
    (replace_op c.in-Replace.removed c.in-Replace.inserted c.as_slice.result.now c.as_slice-in-Replace.result.now c.args.op.now c.args.arena.now.slots c.replace.new.arena.slots c.args.self.now c.replace.new.self
    c.in-Replace.is c.as_slice.ensures c.as_slice-in-Replace.ensures)
    c.replace.ensures.read
