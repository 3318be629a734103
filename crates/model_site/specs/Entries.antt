-- Transactions that are one change: made, and taken back.
use Rattle.std.specs.Prelude.{ℕ, ◌&&◌, ◌==◌, nat_lt, if◌then◌else◌, List, [], ◌∷◌, Option, None, length, take, map}
use Rattle.ve_base.specs.declared.value.Value.{Value}
use Rattle.model_change.specs.Transaction.{Transaction}
use Rattle.model_change.specs.Replay.{reversal}
use Rattle.model_site.specs.Replica.{Replica, all_performed, all_put_back, all_filled}

-- an entry as it travels: its transactions, by value
abbrev pub Parcel : Type 0
Parcel = List Transaction

-- Of each of some entries, the number of the entry that it takes back, if it takes one back. It goes
-- with the entry, and decides nothing by itself: a join tells whether it is so.
abbrev pub Hints : Type 0
Hints = List (Option ℕ)

-- an entry as a site keeps it, with the lengths of the store before and after it
pub record Entry : Type 0 where
  pub txs : Parcel
  pub store_before : ℕ
  pub store_after : ℕ
  pub takes_back : Option ℕ

abbrev pub parcels : List Entry → List Parcel
parcels entries = map (λ (e : Entry). e.txs) entries

abbrev pub hints : List Entry → Hints
hints entries = map (λ (e : Entry). e.takes_back) entries

-- transactions as the entry that performing them gives, which takes that one back
abbrev pub entry_against : Option ℕ → List Transaction → Replica → Entry
entry_against taken ts r = record {
  txs = all_filled ts r.items;
  store_before = length r.store;
  store_after = length (all_performed ts r).store;
  takes_back = taken;
}

abbrev pub entry_of : List Transaction → Replica → Entry
entry_of ts r = entry_against None ts r

-- The store after an entry was taken back; `was` is its length before that. The values that the
-- entry added go, if they are the last of it.
abbrev pub cut_back : Entry → (was : ℕ) → List Value → List Value
cut_back e was store = if (was == e.store_after) && nat_lt e.store_before e.store_after then take e.store_before store else store

-- an entry taken back
abbrev pub reverted : Entry → Replica → Replica
reverted e r = let back = all_put_back (reversal e.txs) r in
    record { items = back.items; store = cut_back e (length r.store) back.store; selection = back.selection }

-- entries taken back, the last one first
abbrev pub all_reverted : List Entry → Replica → Replica
all_reverted [] r = r
all_reverted (e ∷ es) r = reverted e (all_reverted es r)
