-- Pending entries taken back, the last one first, and another's entry performed over those that are
-- left. For private functions.
use Rattle.std.specs.Prelude.{◌≡◌, ℕ, List, [], map, take, drop, None}
use Rattle.ve_base.specs.declared.value.Value.{Value}
use Rattle.model_change.specs.Replay.{flattened, reversal}
use Rattle.model_change.specs.Transaction.{Transaction}
use Rattle.model_site.specs.Entries.{Parcel, all_reverted, parcels}
use Rattle.model_site.specs.Replica.{Replica, all_performed}
use Rattle.ve_tx.specs.declared.entry.Entry.{Entry}
use Rattle.ve_tx.specs.Making.{Extends}
use Rattle.ve_editor.specs.Edited.{entry_by_value}
use Rattle.ve_history.specs.Stacks.{Stacks}
use Rattle.ve_site.specs.Ground.{AreOver}
use Rattle.ve_site.specs.Numbered.{IsSite}

-- a history of these entries alone
abbrev pub only_done : List Entry → Stacks
only_done entries = record { done = entries; undone = []; spare = 0 }

-- these entries are all that a site has pending, and none is sent, so the last one can be undone
abbrev pub IsStack : Replica → List Entry → Type 0
IsStack r es = IsSite r 0 [] (only_done es) 0 None

-- the transactions that take entries back, the last one first, over the values that they cite
abbrev pub back_over : List Value → List Entry → List Transaction
back_over values entries = reversal (flattened (parcels (map (entry_by_value values) entries)))

-- The last entries are taken back. Both stores, the old and the new one, go on from one over which
-- the others are.
pub record AreDropped (old : Replica) (left gone : List Entry) (now : Replica) : Type 0 where
  pub page : now ≡ all_reverted (map (entry_by_value old.store) gone) old
  pub stack : IsStack now left
  pub base : List Value
  pub old_extends : Extends base old.store
  pub now_extends : Extends base now.store
  pub over : AreOver base 0 left

-- Those after the first so many are taken back, and the transactions are performed then.
pub record IsAdmitted (old : Replica) (entries : List Entry) (left : ℕ) (committed : Parcel) (now : Replica) : Type 0 where
  pub middle : Replica
  pub dropped : AreDropped old (take left entries) (drop left entries) middle
  pub page : now ≡ all_performed committed middle

-- both numbers of an entry, where taking it back shall cut nothing off a store of so many values
abbrev pub numbered_alike : ℕ → Entry → Entry
numbered_alike stored e = record e { store_before = stored; store_after = stored }
