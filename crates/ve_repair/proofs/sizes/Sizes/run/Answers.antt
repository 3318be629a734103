use Rattle.ve_repair.proofs.SizingLemmas.{sized_names, sized_fits, sized_on}
use Rattle.ve_repair.proofs.sizes.Sizes.run.Goals as goal

pub step-requires-clause-named : goal.step-requires-clause-named
step-requires-clause-named c =
    sized_names c.args.arena.now.slots c.args.self.now c.loop-step.self c.args.writes.now.items c.loop-step.writes.items c.loop-step.step-index _ c.args.script.now c.loop-step-test.true c.loop-step.invariant

pub step-requires-clause-fits : goal.step-requires-clause-fits
step-requires-clause-fits c =
    sized_fits c.args.arena.now.slots c.args.self.now c.loop-step.self c.args.writes.now.items c.loop-step.writes.items c.loop-step.step-index _ c.args.script.now c.loop-step-test.true c.loop-step.invariant c.requires.fits

pub loop-step-preserved : goal.loop-step-preserved
loop-step-preserved c =
    sized_on c.args.arena.now.slots c.args.self.now c.loop-step.self c.step.new.self c.args.writes.now.items c.loop-step.writes.items c.step.new.writes.items c.loop-step.step-index _ c.args.script.now
    c.loop-step-test.true c.loop-step.invariant c.in_ok-step.ensures.sizes c.in_ok-step.ensures.writes
