use Rattle.std.proofs.Common.{◌∙◌, arith}
use Rattle.ve_repair.proofs.MakeLemmas.{makes_then}
use Rattle.ve_repair.proofs.OpsLemmas.{doing_on, doing_reads}
use Rattle.ve_repair.proofs.StoppedLemmas.{on_err, doing_part}
use Rattle.ve_repair.proofs.read.ChangeReader.pass_ops.Goals as goal

pub pass_op-requires : goal.pass_op-requires
pass_op-requires g c = record {
  reads = doing_reads c.args.arena.now.slots c.loop-op.arena.slots c.args.self.now c.loop-op.self c.args.ops.now c.loop-op.op-index c.op-item.result _ c.loop-op-test.true c.op-item.is c.requires.reads
      c.loop-op.invariant.doing;
}

pub returns-in_err-pass_op-clause-made : goal.returns-in_err-pass_op-clause-made
returns-in_err-pass_op-clause-made g c =
    makes_then c.args.arena.now.slots c.loop-op.arena.slots c.pass_op.new.arena.slots c.args.self.now.script c.loop-op.self.script c.pass_op.new.self.script c.loop-op.invariant.made c.in_err-pass_op.ensures.made

pub loop-op-preserved : goal.loop-op-preserved
loop-op-preserved g c = record {
  doing = doing_on c.args.arena.now.slots c.loop-op.arena.slots c.pass_op.new.arena.slots c.args.self.now c.loop-op.self c.pass_op.new.self c.args.ops.now c.loop-op.op-index c.op-item.result _ c.loop-op-test.true
      c.op-item.is c.loop-op.invariant.doing c.in_ok-pass_op.ensures.read;
  made = makes_then c.args.arena.now.slots c.loop-op.arena.slots c.pass_op.new.arena.slots c.args.self.now.script c.loop-op.self.script c.pass_op.new.self.script c.loop-op.invariant.made c.in_ok-pass_op.ensures.made;
  first = c.in_ok-pass_op.ensures.first ∙ c.loop-op.invariant.first;
  paid = let a = c.loop-op.invariant.paid in let b = c.in_ok-pass_op.ensures.paid in omega (arith, a, b);
}

pub returns-in_err-pass_op-clause-part : goal.returns-in_err-pass_op-clause-part
returns-in_err-pass_op-clause-part g c =
    on_err c.from_residual.result _
    (doing_part c.args.arena.now.slots c.loop-op.arena.slots c.args.self.now c.loop-op.self c.args.ops.now c.loop-op.op-index c.op-item.result _ c.pass_op.new.self.script c.loop-op-test.true c.op-item.is
    c.loop-op.invariant.doing c.in_err-pass_op.ensures.part)
