use Rattle.std.proofs.Common.{◌∙◌, arith}
use Rattle.ve_repair.proofs.MakeLemmas.{makes_then}
use Rattle.ve_repair.proofs.ComeLemmas.{coming_on}
use Rattle.ve_repair.proofs.StoppedLemmas.{on_err, coming_part}
use Rattle.ve_repair.proofs.read.ChangeReader.insert.Goals as goal

pub returns-in_err-come-clause-made : goal.returns-in_err-come-clause-made
returns-in_err-come-clause-made g c =
    makes_then c.args.arena.now.slots c.loop-item.arena.slots c.come.new.arena.slots c.args.self.now.script c.loop-item.self.script c.come.new.self.script c.loop-item.invariant.made c.in_err-come.ensures.made

pub loop-item-preserved : goal.loop-item-preserved
loop-item-preserved g c = record {
  coming = coming_on c.args.arena.now.slots c.loop-item.arena.slots c.come.new.arena.slots c.args.self.now c.loop-item.self c.come.new.self c.args.items.now c.loop-item.item-index _ c.loop-item-test.true
      c.loop-item.invariant.coming c.in_ok-come.ensures.read;
  made = makes_then c.args.arena.now.slots c.loop-item.arena.slots c.come.new.arena.slots c.args.self.now.script c.loop-item.self.script c.come.new.self.script c.loop-item.invariant.made c.in_ok-come.ensures.made;
  first = c.in_ok-come.ensures.first ∙ c.loop-item.invariant.first;
  paid = let a = c.loop-item.invariant.paid in let b = c.in_ok-come.ensures.paid in omega (arith, a, b);
}

pub returns-in_err-come-clause-part : goal.returns-in_err-come-clause-part
returns-in_err-come-clause-part g c =
    on_err c.from_residual.result _
    (coming_part c.args.arena.now.slots c.loop-item.arena.slots c.args.self.now c.loop-item.self c.args.items.now c.loop-item.item-index _ c.come.new.self.script c.loop-item-test.true c.loop-item.invariant.coming
    c.in_err-come.ensures.part)
