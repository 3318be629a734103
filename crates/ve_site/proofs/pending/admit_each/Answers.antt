use Rattle.std.proofs.Common.{refl, ◌∙◌, arith}
use Rattle.ve_editor.specs.Page.{replica_of}
use Rattle.ve_site.proofs.EachLemmas.{all_are_performed, next_performed, next_stands, next_within, none_performed, performed_within}
use Rattle.ve_site.proofs.pending.admit_each.Goals as goal

pub loop-parcel-init : goal.loop-parcel-init
loop-parcel-init g c = record { performed = none_performed (replica_of c.args.trial.now.page) c.args.parcels.now c.args.steps.now c.requires.stand; first = refl }

pub admit-requires-clause-stands : goal.admit-requires-clause-stands
admit-requires-clause-stands g c =
    next_stands (replica_of c.args.trial.now.page) c.args.parcels.now c.loop-parcel.parcel-index (replica_of c.loop-parcel.trial.page) c.args.steps.now c.loop-parcel.steps c.loop-parcel.invariant.performed c.parcel-item.result
    c.loop-parcel-test.true c.parcel-item.is

pub loop-parcel-preserved : goal.loop-parcel-preserved
loop-parcel-preserved g c = record {
  performed = next_performed (replica_of c.args.trial.now.page) c.args.parcels.now c.loop-parcel.parcel-index (replica_of c.loop-parcel.trial.page) c.args.steps.now c.loop-parcel.steps c.loop-parcel.invariant.performed c.parcel-item.result
      c.loop-parcel-test.true c.parcel-item.is (replica_of c.admit.new.self.page) c.admit.new.steps c.in_ok-admit.ensures.page c.admit.ensures.counted c.admit.ensures.steps;
  first = c.admit.ensures.first ∙ c.loop-parcel.invariant.first;
}

pub returns-clause-page : goal.returns-clause-page
returns-clause-page g c =
    all_are_performed (replica_of c.args.trial.now.page) c.args.parcels.now c.loop-parcel.parcel-index (replica_of c.loop-parcel.trial.page) c.args.steps.now c.loop-parcel.steps c.loop-parcel.invariant.performed
    (omega (arith, c.loop-parcel-test.false))

pub returns-clause-steps : goal.returns-clause-steps
returns-clause-steps g c =
    performed_within (replica_of c.args.trial.now.page) c.args.parcels.now c.loop-parcel.parcel-index (replica_of c.loop-parcel.trial.page) c.args.steps.now c.loop-parcel.steps c.loop-parcel.invariant.performed

pub returns-in_err-admit-clause-steps : goal.returns-in_err-admit-clause-steps
returns-in_err-admit-clause-steps g c =
    next_within (replica_of c.args.trial.now.page) c.args.parcels.now c.loop-parcel.parcel-index (replica_of c.loop-parcel.trial.page) c.args.steps.now c.loop-parcel.steps c.loop-parcel.invariant.performed c.parcel-item.result
    c.loop-parcel-test.true c.parcel-item.is c.admit.new.steps c.admit.ensures.steps

pub returns-clause-first : goal.returns-clause-first
returns-clause-first g c = c.loop-parcel.invariant.first

pub returns-in_err-admit-clause-first : goal.returns-in_err-admit-clause-first
returns-in_err-admit-clause-first g c = c.admit.ensures.first ∙ c.loop-parcel.invariant.first
