use Rattle.ve_repair.proofs.MakeLemmas.{makes_still}
use Rattle.std.proofs.Common.{ap}
use Rattle.ve_repair.specs.Reader.{Reading}
use Rattle.ve_repair.proofs.StoppedLemmas.{err_so, stopped_ended}
use Rattle.ve_repair.proofs.read.ChangeReader.pass_bracket.Goals as goal

pub returns-clause-made : goal.returns-clause-made
returns-clause-made g c =
    makes_still c.args.arena.now.slots c.end_run.new.arena.slots c.args.self.now.script c.end_run.new.self.script c.note.new.self.script c.end_run.ensures.made c.note.ensures.same

pub returns-clause-stopped : goal.returns-clause-stopped
returns-clause-stopped g c =
    err_so c.note.result _ _
    (λ e. stopped_ended c.args.arena.now.slots c.end_run.new.arena.slots c.args.self.now c.end_run.new.self c.note.new.self.script c.in_ok-end_run.ensures.ends (ap (λ (r : Reading). r.script) e))
    c.note.ensures.err
