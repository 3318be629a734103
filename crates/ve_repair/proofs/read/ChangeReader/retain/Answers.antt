use Rattle.std.proofs.Common.{◌∙◌, arith}
use Rattle.ve_repair.specs.Acts.{Stay}
use Rattle.ve_repair.proofs.MakeLemmas.{makes_then}
use Rattle.ve_repair.proofs.PassedLemmas.{passing_on, passing_reads}
use Rattle.ve_repair.proofs.StoppedLemmas.{on_err, passing_part}
use Rattle.ve_repair.proofs.read.ChangeReader.retain.Goals as goal

pub retain_some-requires-clause-reads : goal.retain_some-requires-clause-reads
retain_some-requires-clause-reads g c =
    passing_reads Stay c.args.arena.now.slots c.loop-left.arena.slots c.args.self.now c.loop-left.self c.args.count c.loop-left.left 0 c.requires.reads c.loop-left.invariant.passing

pub returns-in_err-some-clause-made : goal.returns-in_err-some-clause-made
returns-in_err-some-clause-made g c =
    makes_then c.args.arena.now.slots c.loop-left.arena.slots c.retain_some.new.arena.slots c.args.self.now.script c.loop-left.self.script c.retain_some.new.self.script c.loop-left.invariant.made c.in_err-some.ensures.made

pub loop-left-preserved : goal.loop-left-preserved
loop-left-preserved g c = record {
  passing = passing_on Stay c.args.arena.now.slots c.loop-left.arena.slots c.retain_some.new.arena.slots c.args.self.now c.loop-left.self c.retain_some.new.self c.args.count c.loop-left.left c.in_ok-some.some
      c.loop-left.invariant.passing c.in_ok-some.ensures.few c.in_ok-some.ensures.read;
  made = makes_then c.args.arena.now.slots c.loop-left.arena.slots c.retain_some.new.arena.slots c.args.self.now.script c.loop-left.self.script c.retain_some.new.self.script c.loop-left.invariant.made
      c.in_ok-some.ensures.made;
  first = c.in_ok-some.ensures.first ∙ c.loop-left.invariant.first;
  paid = let a = c.loop-left.invariant.paid in let b = c.in_ok-some.ensures.paid in omega (arith, a, b);
}

pub returns-in_err-some-clause-part : goal.returns-in_err-some-clause-part
returns-in_err-some-clause-part g c =
    on_err c.from_residual.result _
    (passing_part Stay c.args.arena.now.slots c.loop-left.arena.slots c.args.self.now c.loop-left.self c.args.count c.loop-left.left c.retain_some.new.self.script c.loop-left.invariant.passing c.in_err-some.ensures.part)
