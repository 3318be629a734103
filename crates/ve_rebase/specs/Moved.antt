-- A site's transactions moved over entries of other sites, as a span each: for private functions.
use Rattle.std.specs.Prelude.{◌≡◌, ◌≤◌, ℕ, List, [], ◌∷◌, length, map, flat_map, slice_get, take, All, Some, Ok, Err}
use Rattle.ve_base.specs.declared.value.Value.{Value}
use Rattle.model_change.specs.Transaction.{Transaction}
use Rattle.model_change.specs.Join.{join_list, RangeConflict}
use Rattle.model_site.specs.Entries.{Parcel as ModelParcel}
use Rattle.ve_tx.specs.declared.entry.Entry.{Entry}
use Rattle.ve_tx.specs.declared.parcel.Parcel.{Parcel}
use Rattle.ve_tx.specs.ByValue.{parcel_by_value, ParcelCites}
use Rattle.ve_tx.specs.Operation.{Operation}
use Rattle.ve_rebase.specs.declared.fault.RebaseFault.{RebaseFault}
use Rattle.ve_rebase.specs.declared.shifted.Shifted.{Shifted}
use Rattle.ve_rebase.specs.Entries.{parcels_by_value, outline}
use Rattle.ve_rebase.specs.Lists.{RunOnLength, IsRefusedAs}
use Rattle.ve_rebase.specs.Shifted.{IsShifted, FollowFrom, AreWritten, operations, shifted_by_value}
use Rattle.ve_rebase.specs.Until.{length_given}
use Rattle.ve_rebase.specs.Under.{all_over, over_values}

-- the transactions of all entries, in order
abbrev pub all_operations : List Entry → List (List Operation)
all_operations entries = flat_map (λ entry. entry.txs) entries

-- Entries of others joined by value with all transactions of mine at once, one after the other, and
-- none in conflict: what each is over mine as they are by then, and mine over all of them.
abbrev pub AreMovedOver : (foreign : List ModelParcel) (mine : List Transaction) (committed : List ModelParcel) (moved : List Transaction) → Type 0
AreMovedOver [] mine [] moved = moved ≡ mine
AreMovedOver (f ∷ foreign) mine (c ∷ committed) moved = (next : List Transaction) × (join_list f mine ≡ Ok (c, next)) × AreMovedOver foreign next committed moved
AreMovedOver [] mine (c ∷ committed) moved = ⊥
AreMovedOver (f ∷ foreign) mine [] moved = ⊥

-- another's transactions, and mine as they are by now, start from lists of one length
pub record MeetMoved (foreign : List Transaction) (mine : List Shifted) : Type 0 where
  pub size : ℕ
  pub foreign_run : RunOnLength size foreign
  pub mine_follow : FollowFrom size mine

-- mine moved over another's entry, and what that is over mine
pub record IsMovedOver (foreign : Parcel) (mine after : List Shifted) (made : Parcel) : Type 0 where
  pub joined : (values : List Value) →
      join_list (parcel_by_value foreign) (map (shifted_by_value values) mine) ≡ Ok (parcel_by_value made, map (shifted_by_value values) after)
  pub shifted : All IsShifted after
  pub kept : map operations after ≡ map operations mine
  pub follow : (n : ℕ) → RunOnLength n (parcel_by_value foreign) → FollowFrom n mine → FollowFrom (length_given n (parcel_by_value foreign)) after
  pub outline_kept : outline made ≡ outline foreign
  pub cites : ParcelCites foreign → ParcelCites made

-- mine moved over entries of others at once, none of which is in conflict, and what these are over mine
pub record AreMoved (foreign : List Parcel) (mine after : List Shifted) (made : List Parcel) : Type 0 where
  pub joined : (values : List Value) →
      AreMovedOver (map parcel_by_value foreign) (map (shifted_by_value values) mine) (map parcel_by_value made) (map (shifted_by_value values) after)
  pub shifted : All IsShifted after
  pub kept : map operations after ≡ map operations mine
  pub follow : (n : ℕ) → RunOnLength n (parcels_by_value foreign) → FollowFrom n mine → FollowFrom (length_given n (parcels_by_value foreign)) after
  pub outlines : map outline made ≡ map outline foreign
  pub cite : All ParcelCites foreign → All ParcelCites made

-- it isn't joined, whatever values mine cite
abbrev pub IsMoveRefused : Parcel → List Shifted → RebaseFault → Type 0
IsMoveRefused foreign mine why = (values : List Value) → IsRefusedAs (join_list (parcel_by_value foreign) (map (shifted_by_value values) mine)) why

-- Mine moved over the others' entries before the first that is in conflict, and what these are over
-- mine.
pub record WereMoved (foreign : List Parcel) (mine after : List Shifted) (committed : List Parcel) : Type 0 where
  pub within : length committed ≤ length foreign
  pub joined : (values : List Value) →
      AreMovedOver (map parcel_by_value (take (length committed) foreign)) (map (shifted_by_value values) mine)
      (map parcel_by_value committed) (map (shifted_by_value values) after)
  pub stops : (next : Parcel) → slice_get foreign (length committed) ≡ Some next → (values : List Value) →
      (clash : RangeConflict) × (join_list (parcel_by_value next) (map (shifted_by_value values) after) ≡ Err clash)
  pub shifted : All IsShifted after
  pub kept : map operations after ≡ map operations mine
  pub outlines : map outline committed ≡ map outline (take (length committed) foreign)
  pub cite : All ParcelCites foreign → All ParcelCites committed

-- all transactions of entries, before any is moved
pub record AreBegun (entries : List Entry) (all : List Shifted) : Type 0 where
  pub shifted : All IsShifted all
  pub written : AreWritten (all_operations entries) all
  pub kept : map operations all ≡ all_operations entries

-- an entry with these transactions in the place of its own
pub record IsWrittenInto (entry : Entry) (all : List Shifted) (made : Entry) : Type 0 where
  pub written : AreWritten made.txs all
  pub outline_kept : (values : List Value) → outline (over_values values made) ≡ outline (over_values values entry)
  pub cites : (values : List Value) → ParcelCites (over_values values entry) → ParcelCites (over_values values made)

-- entries with these transactions, in order, in the place of their own
pub record AreWrittenInto (entries : List Entry) (all : List Shifted) (made : List Entry) : Type 0 where
  pub written : AreWritten (all_operations made) all
  pub outlines : (values : List Value) → map outline (all_over values made) ≡ map outline (all_over values entries)
  pub cite : (values : List Value) → All ParcelCites (all_over values entries) → All ParcelCites (all_over values made)
