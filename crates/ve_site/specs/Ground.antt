-- The invariant of a site by itself.
use Rattle.std.specs.Prelude.{◌≤◌, ℕ, List, [], ◌∷◌, All, length, take}
use Rattle.ve_base.specs.declared.value.Value.{Value}
use Rattle.model_items.specs.declared.plain_item.PlainItem.{PlainItem}
use Rattle.model_change.specs.Replay.{replay, flattened, reversal}
use Rattle.model_site.specs.Entries.{parcels}
use Rattle.model_site.specs.Site.{Site, pending}
use Rattle.model_site_law.specs.Sound.{Sound}
use Rattle.model_site_law.specs.Holds.{Holds}
use Rattle.model_site_law.specs.SelectionLaws.{StandsIn}
use Rattle.ve_tx.specs.declared.entry.Entry.{Entry}
use Rattle.ve_tx.specs.Cites.{TxCites}

-- its list with its own entries taken back, sent ones and unsent ones
abbrev pub ground_of : Site → List PlainItem
ground_of s = replay (reversal (flattened (parcels (pending s)))) s.replica.items

-- a site as if its confirmed list had been the page that was opened
abbrev pub as_opened : Site → Site
as_opened s = record s { seen = 0 }

-- The invariant of a site on its confirmed list; and its selection stands in its list. It names no
-- page that was opened and no committed entries: with these the confirmed list is that of the
-- committed ones that it has seen.
pub record Stands (s : Site) : Type 0 where
  pub sound : Sound (ground_of s)
  pub holds : Holds (ground_of s) [] (as_opened s)
  pub selection : StandsIn s.replica.items s.replica.selection

-- Entries over a store: their numbers rise, and what an entry cites stands in the store up to its
-- second number. So where the store is cut back to the first number of the last one, the others
-- cite what is left.
abbrev pub AreOver : List Value → (least : ℕ) → List Entry → Type 0
AreOver store least [] = least ≤ length store
AreOver store least (e ∷ es) =
    (least ≤ e.store_before) × (e.store_before ≤ e.store_after) × All (TxCites (take e.store_after store)) e.txs × AreOver store e.store_after es
