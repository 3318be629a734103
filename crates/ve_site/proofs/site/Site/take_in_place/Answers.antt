use Rattle.std.proofs.Common.{length, map, refl, arith}
use Rattle.std.proofs.lemmas.List.{length-map}
use Rattle.std.proofs.lemmas.Result.{IfOk-weaker}
use Rattle.ve_tx.specs.ByValue.{parcel_by_value}
use Rattle.ve_editor.specs.Page.{replica_of}
use Rattle.ve_site.specs.Underway.{AreTakenInPlace, IsTakenInPlace}
use Rattle.ve_site.proofs.InPlaceLemmas.{just_one, one_counts, one_taken}
use Rattle.ve_site.proofs.SeveralLemmas.{several_take_trial}
use Rattle.ve_site.proofs.TakeLemmas.{copied_is}
use Rattle.ve_site.proofs.site.Site.take_in_place.Goals as goal

pub invariant_of-self : goal.invariant_of-self
invariant_of-self g c =
    let s = c.self.inside in
    copied_is (replica_of s.editor) s.untold s.seen s.sent.items s.history s.shared s.in_flight c.self.invariant (replica_of s.editor) s.sent.items c.clear_undone.new.self refl refl c.clear_undone.ensures.done
    c.clear_undone.ensures.undone

pub returns-then-parcels-gt1-clause-taken : goal.returns-then-parcels-gt1-clause-taken
returns-then-parcels-gt1-clause-taken g c =
    let all = length-map c.args.parcels.now parcel_by_value in
    (refl, several_take_trial (map parcel_by_value c.args.parcels.now) c.args.self.now.site (omega (arith, all, c.if-parcels-gt1.true)))

pub returns-clause-taken : goal.returns-clause-taken
returns-clause-taken g c =
    let n = just_one (length c.args.parcels.now) c.if-parcels-gt1.false c.if-is_empty.ensures in
    IfOk-weaker c.take_single.result (λ taken. IsTakenInPlace (parcel_by_value c.index-parcels-0.result) c.args.self.now taken c.take_single.new.self)
    (λ taken. AreTakenInPlace (map parcel_by_value c.args.parcels.now) c.args.self.now taken c.take_single.new.self)
    (λ taken h. one_taken c.args.parcels.now c.index-parcels-0.result n c.index-parcels-0.is c.args.self.now c.take_single.new.self taken h) c.take_single.ensures.taken

pub returns-clause-steps : goal.returns-clause-steps
returns-clause-steps g c =
    let n = just_one (length c.args.parcels.now) c.if-parcels-gt1.false c.if-is_empty.ensures in
    one_counts c.args.parcels.now c.index-parcels-0.result n c.index-parcels-0.is c.args.self.now.site c.args.steps.now c.take_single.new.steps c.take_single.ensures.steps
