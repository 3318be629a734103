use Rattle.std.proofs.Common.{◌<◌, ◌+◌, length, arith}
use Rattle.ve_site.specs.Underway.{taking_site}
use Rattle.ve_site.proofs.FeedLemmas.{first_within, next_run, some_taken, some_within}
use Rattle.ve_site.proofs.taking.Taking.take_some.Goals as goal

pub take_next-requires-clause-is : goal.take_next-requires-clause-is
take_next-requires-clause-is g c = c.in_ok-count.ensures.taken.is

pub take_next-requires-clause-run : goal.take_next-requires-clause-run
take_next-requires-clause-run g c =
    let below : c.in_ok-count.count < length c.args.parcels.now = omega (arith, c.in_ok-count.ensures.taken.within, c.if-count-parcels.false) in
    next_run c.args.self.now c.args.parcels.now c.in_ok-count.count c.take_front.new.self c.requires.is c.requires.run c.in_ok-count.ensures.taken below c.index-parcels-count.result
    c.index-parcels-count.is

pub returns-clause-taken : goal.returns-clause-taken
returns-clause-taken g c =
    let below : c.in_ok-count.count < length c.args.parcels.now = omega (arith, c.in_ok-count.ensures.taken.within, c.if-count-parcels.false) in
    some_taken c.args.self.now c.args.parcels.now c.in_ok-count.count c.take_front.new.self c.requires.is c.requires.run c.in_ok-count.ensures.taken below c.index-parcels-count.result
    c.index-parcels-count.is c.take_next.new.self c.in_ok-take_next.ensures.site c.in_ok-take_next.ensures.is

pub returns-clause-steps : goal.returns-clause-steps
returns-clause-steps g c =
    let below : c.in_ok-count.count < length c.args.parcels.now = omega (arith, c.in_ok-count.ensures.taken.within, c.if-count-parcels.false) in
    some_within c.args.self.now c.args.parcels.now c.in_ok-count.count c.take_front.new.self c.requires.is c.requires.run c.in_ok-count.ensures.taken below c.index-parcels-count.result
    c.index-parcels-count.is c.args.steps.now c.take_front.new.steps c.take_next.new.steps c.in_ok-count.ensures.steps c.take_next.ensures.steps

pub returns-clause-within : goal.returns-clause-within
returns-clause-within g c =
    let below : c.in_ok-count.count < length c.args.parcels.now = omega (arith, c.in_ok-count.ensures.taken.within, c.if-count-parcels.false) in
    first_within (c.in_ok-count.count + 1) c.args.parcels.now (taking_site c.args.self.now) c.args.steps.now c.take_next.new.steps
    (some_within c.args.self.now c.args.parcels.now c.in_ok-count.count c.take_front.new.self c.requires.is c.requires.run c.in_ok-count.ensures.taken below c.index-parcels-count.result
    c.index-parcels-count.is c.args.steps.now c.take_front.new.steps c.take_next.new.steps c.in_ok-count.ensures.steps c.take_next.ensures.steps)

pub returns-in_err-take_next-clause-within : goal.returns-in_err-take_next-clause-within
returns-in_err-take_next-clause-within g c =
    let below : c.in_ok-count.count < length c.args.parcels.now = omega (arith, c.in_ok-count.ensures.taken.within, c.if-count-parcels.false) in
    first_within (c.in_ok-count.count + 1) c.args.parcels.now (taking_site c.args.self.now) c.args.steps.now c.take_next.new.steps
    (some_within c.args.self.now c.args.parcels.now c.in_ok-count.count c.take_front.new.self c.requires.is c.requires.run c.in_ok-count.ensures.taken below c.index-parcels-count.result
    c.index-parcels-count.is c.args.steps.now c.take_front.new.steps c.take_next.new.steps c.in_ok-count.ensures.steps c.take_next.ensures.steps)
