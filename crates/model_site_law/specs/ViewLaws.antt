-- What a view may keep: whoever keeps a copy of a site's list, changes it by the patches that the
-- site tells, and fetches the items that these put in.
use Rattle.std.specs.Prelude.{◌≡◌, ◌≤◌, ◌<◌, ℕ, suc, ◌+◌, ◌==◌, if◌then◌else◌, List, [], ◌∷◌, ◌++◌, length, map, take, drop, replicate, slice_get, Option, Some, None}
use Rattle.model_items.specs.declared.plain_item.PlainItem.{PlainItem}
use Rattle.model_change.specs.Replay.{AllRun, replay, inserted_by, removed_by}
use Rattle.model_change.specs.Transaction.{Transaction, Retain, Replace, Attribute}
use Rattle.model_site.specs.Events.{Event, Perform, Select, Tell, Undo, Redo, Revoke, Send, Serve, Take, happens, run}
use Rattle.model_site.specs.Made.{undoing, redoing, revoking, taking_all}
use Rattle.model_site.specs.Replica.{Replica}
use Rattle.model_site.specs.Session.{SiteFeed, Foreign, Member, Session, started}
use Rattle.model_site.specs.Site.{Site, told}
use Rattle.model_site.specs.Untold.{max_patches, patches_of}
use Rattle.model_site.specs.declared.patch.Patch.{Patch}
use Rattle.model_site_law.specs.MayHappen.{AllMayHappen}
use Rattle.model_site_law.specs.Sound.{Opens}

-- what is kept of a list: items, and holes for those that are to be fetched
abbrev pub View : Type 0
View = List (Option PlainItem)

-- a list, kept whole
abbrev pub whole : List PlainItem → View
whole = map (λ item. Some item)

-- what a patch puts in is holes
abbrev pub with_patch : Patch → View → View
with_patch p view = take p.at view ++ (replicate p.inserted None ++ drop (p.at + p.removed) view)

-- one after the other
abbrev pub patched : List Patch → View → View
patched [] view = view
patched (p ∷ ps) view = patched ps (with_patch p view)

-- The view is as long as the list, and wherever it has an item the list has that item.
pub record IsViewOf (items : List PlainItem) (view : View) : Type 0 where
  pub as_long : length view ≡ length items
  pub agrees : (at : ℕ) (item : PlainItem) → slice_get view at ≡ Some (Some item) → slice_get items at ≡ Some item

-- The patches of transactions lead from a list to the one that they give.
abbrev pub PatchesLead : Type 0
PatchesLead = (ts : List Transaction) (items : List PlainItem) → AllRun ts items → IsViewOf (replay ts items) (patched (patches_of ts) (whole items))

abbrev pub list_of : Option Member → List PlainItem
list_of None = []
list_of (Some m) = m.site.replica.items

-- The list that the site at k told last: at this event, or before.
abbrev pub told_at : (k : ℕ) → Session → Event → (before : List PlainItem) → List PlainItem
told_at k w (Tell j) before = if j == k then list_of (slice_get w.members k) else before
told_at k w _ before = before

-- the same after all of these events
abbrev pub told_last : (k : ℕ) → Session → List Event → (before : List PlainItem) → List PlainItem
told_last k w [] before = before
told_last k w (e ∷ es) before = told_last k (happens w e) es (told_at k w e before)

-- Whatever happened, what a site would tell now leads from the list that it told last to its list;
-- the list told last is empty where it has not told since the page was opened.
abbrev pub ViewHolds : Type 0
ViewHolds = (base : Replica) (sites : ℕ) (events : List Event) (k : ℕ) (m : Member) → Opens base → AllMayHappen (started base sites) events →
    slice_get (run (started base sites) events).members k ≡ Some m →
    IsViewOf m.site.replica.items (patched (told m.site) (whole (told_last k (started base sites) events [])))

-- ---- what the patches count

-- how many attribute operations
abbrev pub attributes_in : Transaction → ℕ
attributes_in [] = 0
attributes_in (Retain count ∷ ops) = attributes_in ops
attributes_in (Replace removed inserted ∷ ops) = attributes_in ops
attributes_in (Attribute change ∷ ops) = suc (attributes_in ops)

abbrev pub attributes_by : List Transaction → ℕ
attributes_by [] = 0
attributes_by (t ∷ ts) = attributes_in t + attributes_by ts

-- how many items patches take out, and how many they put in
abbrev pub all_out : List Patch → ℕ
all_out [] = 0
all_out (p ∷ ps) = p.removed + all_out ps

abbrev pub all_put_in : List Patch → ℕ
all_put_in [] = 0
all_put_in (p ∷ ps) = p.inserted + all_put_in ps

-- The patches of transactions take out and put in as many items as the transactions do, and one for
-- each attribute that these set.
abbrev pub PatchesCount : Type 0
PatchesCount = (ts : List Transaction) →
    (all_out (patches_of ts) ≡ removed_by ts + attributes_by ts) × (all_put_in (patches_of ts) ≡ inserted_by ts + attributes_by ts)

-- which site the event is of
abbrev pub site_of : Event → ℕ
site_of (Perform k ts) = k
site_of (Select k selection) = k
site_of (Tell k) = k
site_of (Undo k) = k
site_of (Redo k) = k
site_of (Revoke k i live) = k
site_of (Send k) = k
site_of (Serve k) = k
site_of (Take k) = k

abbrev pub taking_first : List SiteFeed → Site → List Transaction
taking_first (Foreign entries ∷ feeds) s = taking_all entries s
taking_first _ s = []

-- the transactions that a site makes of its list at an event of its own
abbrev pub made_by : Event → Session → Member → List Transaction
made_by (Perform k ts) w m = ts
made_by (Undo k) w m = undoing m.site.unsent
made_by (Redo k) w m = redoing m.site.undone
made_by (Revoke k i live) w m = revoking w.committed w.hints live i m.site
made_by (Take k) w m = taking_first m.feeds m.site
made_by _ w m = []

abbrev pub made_among : Option Member → Event → Session → List Transaction
made_among None e w = []
made_among (Some m) e w = made_by e w m

-- those that the site at k made since it told last, after this event too
abbrev pub since_at : (k : ℕ) → Session → Event → (before : List Transaction) → List Transaction
since_at k w (Tell j) before = if j == k then [] else before
since_at k w e before = before ++ (if site_of e == k then made_among (slice_get w.members k) e w else [])

abbrev pub since_told : (k : ℕ) → Session → List Event → (before : List Transaction) → List Transaction
since_told k w [] before = before
since_told k w (e ∷ es) before = since_told k (happens w e) es (since_at k w e before)

-- A page that is opened is a list that was put in whole.
abbrev pub opening : Replica → List Transaction
opening base = (Replace [] base.items ∷ []) ∷ []

-- A site tells the patches of those transactions; or, where they are too many, one that puts the
-- whole list in the place of what was there when it told last.
pub record TellsMade (site : Site) (made : List Transaction) : Type 0 where
  pub few : length (patches_of made) ≤ max_patches → told site ≡ patches_of made
  pub many : max_patches < length (patches_of made) →
      told site ≡ record { at = 0; removed = site.untold.was; inserted = length site.replica.items } ∷ []

abbrev pub TellsWhatWasMade : Type 0
TellsWhatWasMade = (base : Replica) (sites : ℕ) (events : List Event) (k : ℕ) (m : Member) →
    slice_get (run (started base sites) events).members k ≡ Some m →
    TellsMade m.site (since_told k (started base sites) events (opening base))
