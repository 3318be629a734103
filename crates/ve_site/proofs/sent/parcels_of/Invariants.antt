use Rattle.std.proofs.Common.{◌≡◌, All, map, take}
use Rattle.model_site.specs.Entries.{hints, parcels}
use Rattle.ve_tx.specs.ByValue.{parcel_by_value, ParcelCites}
use Rattle.ve_editor.specs.Edited.{entry_by_value}
use Rattle.ve_site.specs.Numbered.{hint_of}
use Rattle.ve_site.proofs.sent.parcels_of.Given as goal

abbrev pub invariant-loop-entry : goal.invariant-loop-entry
invariant-loop-entry l = record {
  made : map parcel_by_value l.list ≡ parcels (map (entry_by_value l.store) (take l.entry-index l.entries));
  hints : map hint_of l.list ≡ hints (map (entry_by_value l.store) (take l.entry-index l.entries));
  cite : All ParcelCites l.list;
}
