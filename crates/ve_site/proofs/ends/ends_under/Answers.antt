use Rattle.std.proofs.Common.{refl, ap, ◌∙◌, map}
use Rattle.std.proofs.lemmas.List.Elements.{All-nil}
use Rattle.ve_site.proofs.EndLemmas.{ParcelLeaves, all_parcels_leave, at_most_both, at_most_itself, parcel_further}
use Rattle.ve_tx.specs.Operation.{by_value}
use Rattle.ve_site.specs.Ends.{least_ends}
use Rattle.ve_site.proofs.LeastLemmas.{folds_all, folds_on, parcel_step, parcels_least}
use Rattle.ve_site.proofs.ends.ends_under.Goals as goal

pub loop-parcel-init : goal.loop-parcel-init
loop-parcel-init c = record { least = refl; within = at_most_itself c.args.most; left = All-nil (ParcelLeaves c.args.most) }

pub loop-parcel-preserved : goal.loop-parcel-preserved
loop-parcel-preserved c =
    let e = c.under-ends.result in
    let within = c.under-ends.ensures.within in
    record {
      least = folds_on parcel_step c.args.most c.args.entries.now c.loop-parcel.parcel-index c.parcel-item.result e c.loop-parcel.ends c.loop-parcel-test.true
          c.parcel-item.is c.loop-parcel.invariant.least
          (c.under-ends.ensures.least c.parcel-item.result.values
          ∙ ap (λ txs. least_ends c.loop-parcel.ends (map (by_value c.parcel-item.result.values) txs)) c.as_slice.ensures);
      within = at_most_both e c.loop-parcel.ends c.args.most within c.loop-parcel.invariant.within;
      left = parcel_further c.args.entries.now c.loop-parcel.parcel-index c.parcel-item.result c.as_slice.result.now e c.loop-parcel.ends c.loop-parcel-test.true
          c.parcel-item.is c.as_slice.ensures within c.loop-parcel.invariant.left (c.under-ends.ensures.left c.parcel-item.result.values);
    }

pub returns : goal.returns
returns c = record {
  least = folds_all parcel_step c.args.most c.args.entries.now c.loop-parcel.parcel-index c.loop-parcel.ends c.loop-parcel-test.false
      c.loop-parcel.invariant.least ∙ parcels_least c.args.most c.args.entries.now;
  within = c.loop-parcel.invariant.within;
  left = all_parcels_leave c.args.entries.now c.loop-parcel.parcel-index c.loop-parcel.ends c.loop-parcel-test.false c.loop-parcel.invariant.left;
}
