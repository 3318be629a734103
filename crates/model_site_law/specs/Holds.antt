-- The invariant of one site.
use Rattle.std.specs.Prelude.{◌≡◌, List, length}
use Rattle.model_items.specs.declared.plain_item.PlainItem.{PlainItem}
use Rattle.model_change.specs.Store.{cited}
use Rattle.model_change.specs.Replay.{replay, AllRun, flattened}
use Rattle.model_site.specs.Entries.{Parcel, parcels}
use Rattle.model_site.specs.Site.{Site, pending}
use Rattle.model_site_law.specs.Sound.{AllIn}
use Rattle.model_site_law.specs.Chain.{Chain}

-- the list that the committed entries seen so far give
abbrev pub ground : (base : List PlainItem) → (seen : List Parcel) → List PlainItem
ground base seen = replay (flattened seen) base

-- The invariant of a site that has seen the committed entries `before`. Its list is the replay of
-- its pending entries on the confirmed list that these give. Each of them can be performed and
-- undone. What it undid can be performed again, the last one first. Its store has what its list
-- cites, and what undo needs.
pub record Holds (base : List PlainItem) (before : List Parcel) (s : Site) : Type 0 where
  pub seen : length before ≡ s.seen
  pub list : s.replica.items ≡ replay (flattened (parcels (pending s))) (ground base before)
  pub runs : AllRun (flattened (parcels (pending s))) (ground base before)
  pub undone : AllRun (flattened s.undone) s.replica.items
  pub chain : Chain s.replica.store 0 (ground base before) (pending s)
  pub held : AllIn s.replica.store (cited s.replica.items)
