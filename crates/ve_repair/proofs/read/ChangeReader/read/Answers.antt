use Rattle.ve_repair.proofs.MakeLemmas.{makes_then}
use Rattle.ve_repair.proofs.StoppedLemmas.{on_err, err_so, part_out, ops_part}
use Rattle.ve_repair.proofs.read.ChangeReader.read.Goals as goal

pub returns-clause-made : goal.returns-clause-made
returns-clause-made g c =
    makes_then c.args.arena.now.slots c.pass_ops.new.arena.slots c.rest_of_run.new.arena.slots c.args.self.now.script c.pass_ops.new.self.script c.rest_of_run.new.self.script c.pass_ops.ensures.made c.rest_of_run.ensures.made

pub returns-in_err-pass_ops-clause-part : goal.returns-in_err-pass_ops-clause-part
returns-in_err-pass_ops-clause-part g c =
    on_err c.from_residual.result _
    (λ course h enough. part_out c.args.ops.now course c.pass_ops.new.self.script (c.in_err-pass_ops.ensures.part course h enough))

pub returns-clause-part : goal.returns-clause-part
returns-clause-part g c =
    err_so c.rest_of_run.result _ _
    (λ part course h enough.
    ops_part c.args.ops.now course c.pass_ops.new.arena.slots c.pass_ops.new.self c.rest_of_run.new.self.script (c.in_ok-pass_ops.ensures.read course h enough) part)
    c.rest_of_run.ensures.part
