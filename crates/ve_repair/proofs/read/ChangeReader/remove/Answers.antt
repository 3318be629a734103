use Rattle.std.proofs.Common.{◌∙◌}
use Rattle.ve_repair.specs.Acts.{Go}
use Rattle.ve_repair.proofs.PassedLemmas.{passing_on, passing_reads}
use Rattle.ve_repair.proofs.read.ChangeReader.remove.Goals as goal

pub remove_some-requires-clause-reads : goal.remove_some-requires-clause-reads
remove_some-requires-clause-reads c =
    passing_reads Go c.args.arena.now.slots c.args.arena.now.slots c.args.self.now c.loop-left.self c.args.count c.loop-left.left 0 c.requires.reads c.loop-left.invariant.passing

pub loop-left-preserved : goal.loop-left-preserved
loop-left-preserved c = record {
  passing = passing_on Go c.args.arena.now.slots c.args.arena.now.slots c.args.arena.now.slots c.args.self.now c.loop-left.self c.remove_some.new.self c.args.count c.loop-left.left c.in_ok-some.some
      c.loop-left.invariant.passing c.in_ok-some.ensures.few c.in_ok-some.ensures.read;
  same = c.in_ok-some.ensures.same ∙ c.loop-left.invariant.same;
}
