-- Entries joined over committed ones, one after the other, until two transactions conflict.
use Rattle.std.specs.Prelude.{◌≡◌, ℕ, List, [], ◌∷◌, length, map, take, All, Ok}
use Rattle.ve_base.specs.declared.value.Value.{Value}
use Rattle.model_change.specs.Transaction.{Transaction, new_length}
use Rattle.model_change.specs.Join.{join_list}
use Rattle.model_site.specs.Joined.{Joined, join_entries}
use Rattle.model_site.specs.Session.{clash_of}
use Rattle.ve_tx.specs.declared.parcel.Parcel.{Parcel}
use Rattle.ve_rebase.specs.declared.fault.RebaseFault.{RebaseFault}
use Rattle.ve_rebase.specs.declared.shifted.Shifted.{Shifted}
use Rattle.ve_rebase.specs.declared.until.JoinedEntries.{JoinedEntries}
use Rattle.ve_rebase.specs.Entries.{parcels_by_value, outline}
use Rattle.ve_tx.specs.ByValue.{parcel_by_value, ParcelCites}
use Rattle.ve_rebase.specs.Lists.{RunOnLength, IsRefusedAs}
use Rattle.ve_rebase.specs.Shifted.{IsShifted, FollowFrom, all_by_value}

-- entries joined by value, each over its own values, up to the first conflict
abbrev pub joined_until : (committed mine : List Parcel) → Joined
joined_until committed mine = join_entries (parcels_by_value committed) (map parcel_by_value mine)

-- The entries before the first conflict, as they are over the committed ones, and the ranges that
-- conflict. Each keeps all but its transactions.
pub record AreJoined (committed mine : List Parcel) (made : JoinedEntries) : Type 0 where
  pub kept : map parcel_by_value made.kept ≡ (joined_until committed mine).kept
  pub clash : made.clash ≡ clash_of (joined_until committed mine).clash
  pub outlines : map outline made.kept ≡ map outline (take (length made.kept) mine)
  pub cite : All ParcelCites mine → All ParcelCites made.kept

-- the length of the lists that the transactions give, the first on lists of n items
abbrev pub length_given : ℕ → List Transaction → ℕ
length_given n [] = n
length_given n (t ∷ ts) = length_given (new_length t) ts

-- the committed ones as they are by now, and these transactions, start from lists of one length
pub record Meet (over : List Shifted) (mine : List Transaction) : Type 0 where
  pub size : ℕ
  pub committed_follow : FollowFrom size over
  pub mine_run : RunOnLength size mine

-- an entry joined over the committed ones as they are by now, and what these are then
pub record IsJoinedOver (over : List Shifted) (mine : Parcel) (after : List Shifted) (made : Parcel) : Type 0 where
  pub joined : (values : List (List Value)) →
      join_list (all_by_value values over) (parcel_by_value mine) ≡ Ok (all_by_value values after, parcel_by_value made)
  pub shifted : All IsShifted after
  pub follow : (n : ℕ) → FollowFrom n over → RunOnLength n (parcel_by_value mine) →
      FollowFrom (length_given n (parcel_by_value mine)) after
  pub outline_kept : outline made ≡ outline mine
  pub cites : ParcelCites mine → ParcelCites made

-- it isn't joined, whatever values the committed ones cite
abbrev pub IsRefusedOver : List Shifted → Parcel → RebaseFault → Type 0
IsRefusedOver over mine why = (values : List (List Value)) → IsRefusedAs (join_list (all_by_value values over) (parcel_by_value mine)) why
