-- The store under pending entries: what makes it safe to cut it back.
use Rattle.std.specs.Prelude.{◌≡◌, ℕ, ◌≤◌, ◌<◌, List, [], ◌∷◌, ◌++◌, length, take}
use Rattle.ve_base.specs.declared.value.Value.{Value}
use Rattle.model_items.specs.declared.plain_item.PlainItem.{PlainItem}
use Rattle.model_change.specs.Transaction.{Transaction, edited, all_removed}
use Rattle.model_change.specs.Store.{cited, fill, brought}
use Rattle.model_change.specs.Replay.{replay, flattened}
use Rattle.model_site.specs.Replica.{Replica}
use Rattle.model_site.specs.Entries.{Entry, parcels}
use Rattle.model_site.specs.Site.{Site, pending}
use Rattle.model_site_law.specs.Sound.{AllIn}

-- the values that an undo needs again: those that the transactions removed
abbrev pub needed_values : List Transaction → List Value
needed_values [] = []
needed_values (t ∷ ts) = cited (all_removed t) ++ needed_values ts

-- Pending entries in order, from a list and with a least number. The numbers of the store rise, and
-- what an entry's undo needs is in the store up to its second number. Where the first is the lower
-- one, the store up to it has all that the list before the entry cites.
abbrev pub Chain : (store : List Value) → (least : ℕ) → List PlainItem → List Entry → Type 0
Chain store least items [] = least ≤ length store
Chain store least items (e ∷ es) =
    (least ≤ e.store_before) × (e.store_before ≤ e.store_after) × (e.store_before < e.store_after →
    AllIn (take e.store_before store) (cited items))
    × AllIn (take e.store_after store) (needed_values e.txs) × Chain store e.store_after (replay e.txs items) es

-- the store that transactions make of one
abbrev pub store_after_all : List Transaction → List PlainItem → List Value → List Value
store_after_all [] items store = store
store_after_all (t ∷ ts) items store = store_after_all ts (edited t items) (fill store (brought t items))

-- each entry's numbers are the lengths of the store before and after it
abbrev pub Numbered : List PlainItem → List Value → List Entry → Type 0
Numbered items store [] = Unit {0}
Numbered items store (e ∷ es) =
    (e.store_before ≡ length store) × (e.store_after ≡ length (store_after_all e.txs items store))
    × Numbered (replay e.txs items) (store_after_all e.txs items store) es

-- a site that has taken nothing: its store is what performing its entries makes of the first one
pub record Fresh (base : Replica) (s : Site) : Type 0 where
  pub store : s.replica.store ≡ store_after_all (flattened (parcels (pending s))) base.items base.store
  pub numbers : Numbered base.items base.store (pending s)
