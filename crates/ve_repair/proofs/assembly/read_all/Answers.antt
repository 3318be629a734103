use Rattle.ve_repair.proofs.MakeLemmas.{makes_then}
use Rattle.ve_repair.proofs.MayReadLemmas.{reads_ops, front_enough, ops_enough, all_read}
use Rattle.ve_repair.specs.Courses.{with_stays}
use Rattle.ve_repair.proofs.StoppedLemmas.{on_err, err_so, front_part}
use Rattle.ve_repair.proofs.assembly.read_all.Goals as goal

pub read-requires : goal.read-requires
read-requires g c = record {
  reads =
      let m = c.requires.reads in
      reads_ops c.args.arena.now.slots c.retain.new.arena.slots c.args.reader.now c.retain.new.self c.args.front c.args.ops.now m
      (c.in_ok-retain.ensures.read m.course m.read (front_enough m.course c.args.front c.args.ops.now m.enough));
}

pub returns-clause-read : goal.returns-clause-read
returns-clause-read g c =
    all_read c.read.result c.args.arena.now.slots c.retain.new.arena.slots c.read.new.arena.slots c.args.reader.now c.retain.new.self c.read.new.self c.args.front c.args.ops.now
    c.in_ok-retain.ensures.read c.read.ensures.read

pub returns-clause-made : goal.returns-clause-made
returns-clause-made g c =
    makes_then c.args.arena.now.slots c.retain.new.arena.slots c.read.new.arena.slots c.args.reader.now.script c.retain.new.self.script c.read.new.self.script
    c.retain.ensures.made c.read.ensures.made

pub returns-in_err-retain-clause-part : goal.returns-in_err-retain-clause-part
returns-in_err-retain-clause-part g c =
    on_err c.from_residual.result _
    (λ course h enough.
    front_part c.args.front c.args.ops.now course c.retain.new.self.script
    (c.in_err-retain.ensures.part course h (front_enough course c.args.front c.args.ops.now enough)))

pub returns-clause-part : goal.returns-clause-part
returns-clause-part g c =
    err_so c.read.result _ _
    (λ part course h enough.
    part (with_stays c.args.front course) (c.in_ok-retain.ensures.read course h (front_enough course c.args.front c.args.ops.now enough)) (ops_enough course c.args.front c.args.ops.now enough))
    c.read.ensures.part
