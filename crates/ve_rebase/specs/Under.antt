-- A site's entries joined over an entry of another site.
use Rattle.std.specs.Prelude.{◌≡◌, ◌≢◌, ◌≤◌, List, [], ◌∷◌, length, map, slice_get, take, All, Some, None}
use Rattle.ve_base.specs.declared.value.Value.{Value}
use Rattle.model_change.specs.Join.{join_list}
use Rattle.model_site.specs.Entries.{Parcel as ModelParcel}
use Rattle.model_site.specs.Joined.{Joined, join_entries}
use Rattle.ve_tx.specs.declared.entry.Entry.{Entry}
use Rattle.ve_tx.specs.declared.parcel.Parcel.{Parcel}
use Rattle.ve_tx.specs.ByValue.{parcel_by_value, ParcelCites}
use Rattle.ve_rebase.specs.declared.fault.RebaseFault.{RebaseFault}
use Rattle.ve_rebase.specs.declared.shifted.Shifted.{Shifted}
use Rattle.ve_rebase.specs.declared.all_under.EntriesUnderAll.{EntriesUnderAll}
use Rattle.ve_rebase.specs.declared.under.EntriesUnder.{EntriesUnder}
use Rattle.ve_rebase.specs.Entries.{outline}
use Rattle.ve_rebase.specs.Lists.{IsRefusedAs}
use Rattle.ve_rebase.specs.Shifted.{IsShifted, all_by_value, operations, shifted_by_value}
use Rattle.ve_rebase.specs.Until.{IsJoinedOver, Meet}

-- an entry with the values that it cites, as it would travel
abbrev pub over_values : List Value → Entry → Parcel
over_values values e = record { entry = e; values = values }

abbrev pub all_over : List Value → List Entry → List Parcel
all_over values entries = map (over_values values) entries

-- entries over these values, joined by value over another's up to the first conflict
abbrev pub joined_under : List Value → Parcel → List Entry → Joined
joined_under values foreign entries = join_entries (parcel_by_value foreign) (map parcel_by_value (all_over values entries))

-- Whatever values the entries cite, they are the entries before the first conflict as they are over
-- the other's, and this is the other's over them. Each keeps all but its transactions.
pub record AreUnder (foreign : Parcel) (entries : List Entry) (made : EntriesUnder) : Type 0 where
  pub committed : (values : List Value) → parcel_by_value made.committed ≡ (joined_under values foreign entries).committed
  pub kept : (values : List Value) → map parcel_by_value (all_over values made.kept) ≡ (joined_under values foreign entries).kept
  pub committed_outline : outline made.committed ≡ outline foreign
  pub outlines : (values : List Value) → map outline (all_over values made.kept) ≡ map outline (take (length made.kept) (all_over values entries))
  pub committed_cites : ParcelCites foreign → ParcelCites made.committed
  pub cite : (values : List Value) → All ParcelCites (all_over values (take (length made.kept) entries)) → All ParcelCites (all_over values made.kept)

-- ---- over several entries

-- Entries of others joined by value with all of mine, one after the other, and none in conflict:
-- what each is over mine as they are by then, and mine over all of them.
abbrev pub AreAllJoined : (foreign mine committed kept : List ModelParcel) → Type 0
AreAllJoined [] mine [] kept = kept ≡ mine
AreAllJoined (f ∷ foreign) mine (c ∷ committed) kept =
    let j = join_entries f mine in (j.clash ≡ None) × (j.committed ≡ c) × AreAllJoined foreign j.kept committed kept
AreAllJoined [] mine (c ∷ committed) kept = ⊥
AreAllJoined (f ∷ foreign) mine [] kept = ⊥

-- Whatever values the entries cite: the others' entries before the first that is in conflict with
-- one of them, as they are over these, and all of these over those. Each keeps all but its
-- transactions.
pub record AreAllUnder (foreign : List Parcel) (entries : List Entry) (made : EntriesUnderAll) : Type 0 where
  pub within : length made.committed ≤ length foreign
  pub joined : (values : List Value) →
      AreAllJoined (map parcel_by_value (take (length made.committed) foreign)) (map parcel_by_value (all_over values entries))
      (map parcel_by_value made.committed) (map parcel_by_value (all_over values made.kept))
  pub stops : (next : Parcel) → slice_get foreign (length made.committed) ≡ Some next → (values : List Value) →
      (joined_under values next made.kept).clash ≢ None
  pub committed_outlines : map outline made.committed ≡ map outline (take (length made.committed) foreign)
  pub outlines : (values : List Value) → map outline (all_over values made.kept) ≡ map outline (all_over values entries)
  pub committed_cite : All ParcelCites foreign → All ParcelCites made.committed
  pub cite : (values : List Value) → All ParcelCites (all_over values entries) → All ParcelCites (all_over values made.kept)

-- ---- for private functions

-- an entry and the other's transactions as they are by now start from lists of one length
abbrev pub MeetUnder : List Shifted → Entry → Type 0
MeetUnder over mine = (values : List Value) → Meet over (parcel_by_value (over_values values mine))

-- an entry joined over the other's transactions as they are by now, and what these are then
pub record IsJoinedUnder (over : List Shifted) (mine : Entry) (after : List Shifted) (made : Entry) : Type 0 where
  pub joined : (values : List Value) → IsJoinedOver over (over_values values mine) after (over_values values made)
  pub kept : map operations after ≡ map operations over

-- it isn't joined, whatever values either side cites
abbrev pub IsRefusedUnder : List Shifted → Entry → RebaseFault → Type 0
IsRefusedUnder over mine why =
    (values : List (List Value)) (others : List Value) → IsRefusedAs (join_list (all_by_value values over) (parcel_by_value (over_values others mine))) why

-- the entries before the first conflict are joined so, and the other's transactions are moved over
-- them
pub record WereJoined (foreign : Parcel) (entries : List Entry) (over : List Shifted) (kept : List Entry) : Type 0 where
  pub shifted : All IsShifted over
  pub operations_kept : map operations over ≡ foreign.entry.txs
  pub committed : (values : List Value) → (joined_under values foreign entries).committed ≡ map (shifted_by_value foreign.values) over
  pub kept_are : (values : List Value) → map parcel_by_value (all_over values kept) ≡ (joined_under values foreign entries).kept
  pub outlines : (values : List Value) → map outline (all_over values kept) ≡ map outline (take (length kept) (all_over values entries))
  pub cite : (values : List Value) → All ParcelCites (all_over values (take (length kept) entries)) → All ParcelCites (all_over values kept)
