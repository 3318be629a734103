use Rattle.std.proofs.Common.{◌≡◌, ◌≤◌, suc, length, map, drop}
use Rattle.model_change.specs.Replay.{flattened}
use Rattle.model_site.specs.Untold.{max_patches, passed}
use Rattle.ve_tx.specs.ByValue.{parcel_by_value}
use Rattle.ve_site.proofs.untold.Untold.note_parcels.Given as goal

abbrev pub invariant-loop-parcel : goal.invariant-loop-parcel
invariant-loop-parcel l = record {
  noted : passed (flattened (map parcel_by_value (drop l.parcel-index l.parcels))) l.self ≡ passed (flattened (map parcel_by_value l.parcels)) l.fn.self;
  within : length l.self.patches ≤ suc max_patches;
}
