use Rattle.ve_repair.proofs.MakeLemmas.{makes_then}
use Rattle.ve_repair.proofs.StoppedLemmas.{err_so, stopped_ended}
use Rattle.ve_repair.proofs.read.ChangeReader.begin_node.Goals as goal

pub returns-clause-made : goal.returns-clause-made
returns-clause-made g c =
    makes_then c.args.arena.now.slots c.end_run.new.arena.slots c.make_node.new.arena.slots c.args.self.now.script c.end_run.new.self.script c.make_node.new.self.script c.end_run.ensures.made c.make_node.ensures.made

pub returns-clause-stopped : goal.returns-clause-stopped
returns-clause-stopped g c =
    err_so c.make_node.result _ _
    (stopped_ended c.args.arena.now.slots c.end_run.new.arena.slots c.args.self.now c.end_run.new.self c.make_node.new.self.script c.in_ok-end_run.ensures.ends)
    c.make_node.ensures.same
