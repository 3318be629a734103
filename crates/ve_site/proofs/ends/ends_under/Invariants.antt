use Rattle.std.proofs.Common.{◌≡◌, All, take}
use Rattle.std.specs.Prelude.{fold}
use Rattle.ve_site.proofs.EndLemmas.{AtMost, ParcelLeaves}
use Rattle.ve_site.proofs.LeastLemmas.{parcel_step}
use Rattle.ve_site.proofs.ends.ends_under.Given as goal

abbrev pub invariant-loop-parcel : goal.invariant-loop-parcel
invariant-loop-parcel l = record {
  least : l.ends ≡ fold parcel_step l.fn.most (take l.parcel-index l.entries);
  within : AtMost l.ends l.fn.most;
  left : All (ParcelLeaves l.ends) (take l.parcel-index l.entries);
}
