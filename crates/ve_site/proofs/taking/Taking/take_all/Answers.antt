use Rattle.std.proofs.Common.{◌≡◌, ◌-◌, List, length, map, take, drop, ◌∙◌, arith}
use Rattle.model_site.specs.Take.{take_foreign}
use Rattle.ve_tx.specs.declared.parcel.Parcel.{Parcel}
use Rattle.ve_tx.specs.ByValue.{parcel_by_value}
use Rattle.ve_site.specs.Underway.{IsTaking, taking_site}
use Rattle.ve_site.proofs.FeedLemmas.{all_taken, all_within, begun, one_run_further, rest_of, rest_run_on}
use Rattle.ve_site.proofs.StepLemmas.{on_ok}
use Rattle.ve_site.proofs.taking.Taking.take_all.Goals as goal

pub loop-at-init : goal.loop-at-init
loop-at-init g c = begun c.args.self.now c.args.parcels.now c.args.steps.now c.requires.is c.requires.run

pub take_some-requires-clause-is : goal.take_some-requires-clause-is
take_some-requires-clause-is g c = c.loop-at.invariant.is

pub take_some-requires-clause-run : goal.take_some-requires-clause-run
take_some-requires-clause-run g c =
    let rest : List Parcel = take (length c.args.parcels.now - c.loop-at.at) (drop c.loop-at.at c.args.parcels.now) in
    rest_run_on c.args.self.now c.args.parcels.now c.loop-at.at c.loop-at.self c.args.steps.now c.loop-at.steps c.loop-at.invariant rest (rest_of c.loop-at.at c.args.parcels.now)

pub loop-at-preserved : goal.loop-at-preserved
loop-at-preserved g c =
    let rest : List Parcel = take (length c.args.parcels.now - c.loop-at.at) (drop c.loop-at.at c.args.parcels.now) in
    one_run_further c.args.self.now c.args.parcels.now c.loop-at.at c.loop-at.self c.args.steps.now c.loop-at.steps c.loop-at.invariant rest (rest_of c.loop-at.at c.args.parcels.now)
    c.in_ok-at.field-0 c.take_some.new.self c.in_ok-at.ensures.taken c.take_some.new.steps c.take_some.ensures.first c.take_some.ensures.counted c.in_ok-at.ensures.steps

pub returns-clause-site : goal.returns-clause-site
returns-clause-site g c =
    on_ok (taking_site c.loop-at.self ≡ take_foreign (map parcel_by_value c.args.parcels.now) (taking_site c.args.self.now)) c.pending_len.result
    (all_taken c.args.self.now c.args.parcels.now c.loop-at.at c.loop-at.self c.args.steps.now c.loop-at.steps c.loop-at.invariant (omega (arith, c.loop-at-test.false)))

pub returns-clause-is : goal.returns-clause-is
returns-clause-is g c = on_ok (IsTaking c.loop-at.self) c.pending_len.result c.loop-at.invariant.is

pub returns-clause-steps : goal.returns-clause-steps
returns-clause-steps g c = all_within c.args.self.now c.args.parcels.now c.loop-at.at c.loop-at.self c.args.steps.now c.loop-at.steps c.loop-at.invariant

pub returns-clause-first : goal.returns-clause-first
returns-clause-first g c = c.loop-at.invariant.first

pub returns-in_err-at-clause-first : goal.returns-in_err-at-clause-first
returns-in_err-at-clause-first g c = c.take_some.ensures.first ∙ c.loop-at.invariant.first
