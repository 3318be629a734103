use Rattle.ve_repair.proofs.MakeLemmas.{makes_same, makes_then}
use Rattle.std.proofs.Common.{[], ◌++◌, replicate}
use Rattle.ve_repair.specs.Acts.{Go, come}
use Rattle.ve_repair.specs.Courses.{with_gone}
use Rattle.ve_repair.proofs.StoppedLemmas.{on_err, err_so, part_same, part_behind}
use Rattle.ve_repair.proofs.read.ChangeReader.replace.Goals as goal

pub returns-clause-made : goal.returns-clause-made
returns-clause-made g c =
    makes_then c.args.arena.now.slots c.args.arena.now.slots c.insert.new.arena.slots c.args.self.now.script c.remove.new.self.script c.insert.new.self.script
    (makes_same c.args.arena.now.slots c.args.self.now.script c.remove.new.self.script c.in_ok-remove.ensures.same) c.insert.ensures.made

pub returns-in_err-remove-clause-part : goal.returns-in_err-remove-clause-part
returns-in_err-remove-clause-part g c =
    on_err c.from_residual.result _
    (λ course h enough.
    part_same course c.args.arena.now.slots c.args.self.now (replicate c.args.removed Go ++ come c.args.inserted.now []) c.remove.new.self.script h c.in_err-remove.ensures.same)

pub returns-clause-part : goal.returns-clause-part
returns-clause-part g c =
    err_so c.insert.result _ _
    (λ part course h enough.
    part_behind course (replicate c.args.removed Go) (come c.args.inserted.now []) c.args.removed 0 c.insert.new.self.script
    (part (with_gone c.args.removed course) (c.in_ok-remove.ensures.read course h enough)))
    c.insert.ensures.part
