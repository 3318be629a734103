-- Drafts and entries over a store, by value, and what may be performed or taken back.
use Rattle.std.specs.Prelude.{◌≡◌, ℕ, ◌<◌, ◌++◌, List, [], ◌∷◌, All, Contains, length, map, take}
use Rattle.ve_base.specs.declared.value.Value.{Value}
use Rattle.model_items.specs.declared.plain_item.PlainItem.{PlainItem}
use Rattle.model_items.specs.Law.{Lawful}
use Rattle.model_change.specs.Fault.{Applies}
use Rattle.model_change.specs.Replay.{reversal}
use Rattle.model_change.specs.Store.{cited, fill}
use Rattle.model_change.specs.Transaction.{Transaction, all_inserted, edited}
use Rattle.model_site.specs.Entries.{Entry}
use Rattle.model_site.specs.Replica.{Replica, all_put_back}
use Rattle.ve_tx.specs.Cites.{TxCites}
use Rattle.ve_tx.specs.Operation.{Operation, by_value}
use Rattle.ve_tx.specs.declared.draft.Draft.{Draft}
use Rattle.ve_tx.specs.declared.entry.Entry.{Entry as KeptEntry}

-- the values that a draft's items cite: the store's, and after them its own
abbrev pub drafted_values : List Value → Draft → List Value
drafted_values store d = store ++ d.values.values

-- a draft by value
abbrev pub drafted : List Value → Draft → Transaction
drafted store d = by_value (drafted_values store d) d.tx

-- The draft is one over this store: its values follow the store, and its items cite nothing else.
-- Filling the store with what the draft's inserted items cite makes it grow by just these values.
pub record IsDraftOf (store : List Value) (d : Draft) : Type 0 where
  pub follows : d.values.after ≡ length store
  pub cites : TxCites (drafted_values store d) d.tx
  pub filled : drafted_values store d ≡ fill store (cited (all_inserted (drafted store d)))

-- an entry by value
abbrev pub entry_by_value : List Value → KeptEntry → Entry
entry_by_value store e = record { txs = map (by_value store) e.txs; store_before = e.store_before; store_after = e.store_after; takes_back = e.takes_back }

-- the items of the entry's transactions cite values of the store
abbrev pub EntryCites : List Value → KeptEntry → Type 0
EntryCites store e = All (TxCites store) e.txs

-- one after the other, each applies and leaves a lawful list
abbrev pub AllStand : List Transaction → List PlainItem → Type 0
AllStand [] items = Unit {0}
AllStand (t ∷ ts) items = Applies t items × Lawful (edited t items) × AllStand ts (edited t items)

-- the reversal of transactions, over the store that they cite
abbrev pub reversal_over : List Value → List (List Operation) → List Transaction
reversal_over store txs = reversal (map (by_value store) txs)

-- the entry can be taken back
abbrev pub CanBeReverted : Entry → Replica → Type 0
CanBeReverted e r = AllStand (reversal e.txs) r.items

-- Where the entry's values are the last of a store that had so many, the list cites none of them.
abbrev pub IsUncited : Entry → ℕ → Replica → Type 0
IsUncited e was r =
    was ≡ e.store_after → e.store_before < e.store_after → (v : Value) → Contains (cited r.items) v → Contains (take e.store_before r.store) v

-- The list that taking the entry back leaves cites none of the values that are then cut off.
abbrev pub CutsUncited : Entry → Replica → Type 0
CutsUncited e r = IsUncited e (length r.store) (all_put_back (reversal e.txs) r)
