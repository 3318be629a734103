-- The invariant of a world, whatever lines it was given: the laws of sites and server hold of it.
use Rattle.std.specs.Prelude.{◌≡◌, ◌≤◌, ◌<◌, ℕ, true, false, List, [], ◌∷◌, ◌++◌, length, slice_get, Option, Some, None, Ok, IsUtf8}
use Rattle.std.specs.List.{AllByRecursion}
use Rattle.model_items.specs.Plain.{AreDistinct}
use Rattle.model_items.specs.declared.plain_item.PlainItem.{PlainItem}
use Rattle.model_change.specs.Store.{cited}
use Rattle.model_change.specs.Replay.{replay, AllRun, flattened}
use Rattle.model_change.specs.Transaction.{Transaction}
use Rattle.model_page.specs.PageItems.{Opened}
use Rattle.model_page_write.specs.PageText.{write}
use Rattle.model_site.specs.Replica.{Replica, opened_with}
use Rattle.model_site.specs.Live.{live}
use Rattle.model_site.specs.Site.{Site, pending, entries_of, hinted_entries, revoke_entry, undo, with_entry}
use Rattle.model_site.specs.Session.{SiteFeed, Ack, Member, Session, started}
use Rattle.model_site.specs.Events.{Event, Tell, run}
use Rattle.model_site_law.specs.Laws.{HintsBeside, IsListBefore, IsWithout, IsWithoutAmong}
use Rattle.model_site_law.specs.Sound.{Sound, AllIn, AllMayRun, Opens}
use Rattle.model_site_law.specs.MayHappen.{AllMayHappen}
use Rattle.model_site_law.specs.Protocol.{Every}
use Rattle.model_site_law.specs.ItemLaws.{AllPass, Inserts, any_attr}
use Rattle.model_site_law.specs.SelectionLaws.{StandsIn, AllSelectWithin}
use Rattle.model_site_law.specs.StoreLaws.{BeginsWith}
use Rattle.model_site_law.specs.ViewLaws.{told_at, told_last}
use Rattle.model_world.specs.declared.command.Command.TheVariants.{OpenPage}
use Rattle.model_world.specs.Commands.{command}
use Rattle.model_world.specs.Opening.{open_page}
use Rattle.model_world_law.specs.PutBack.{has_first}
use Rattle.model_world_law.specs.Standing.{may_stand}
use Rattle.model_world_law.specs.Writable.{is_attr, is_writable}
use Rattle.model_world.specs.World.{World, Closed, Open, world_after}

-- the list that site k told last, where this site tells now, or none does
abbrev pub told_if : (teller : Option ℕ) (k : ℕ) → Session → (before : List PlainItem) → List PlainItem
told_if None k w before = before
told_if (Some j) k w before = told_at k w (Tell j) before

-- some events lead from one session to the other, of which one tells, or none
pub record Becomes (teller : Option ℕ) (w next : Session) : Type 0 where
  pub events : List Event
  pub may : AllMayHappen w events
  pub within : AllSelectWithin w events
  -- where the items of the page and of every site may stand, so may all that is inserted
  pub inserts : AllPass may_stand w.base.items → Every (λ m. AllPass may_stand m.site.replica.items) w.members → AllByRecursion (Inserts may_stand any_attr) events
  -- where each opening with an origin is one of the page's, so is each that is inserted
  pub origins : Every (λ m. AllPass (has_first w.base.items) m.site.replica.items) w.members → AllByRecursion (Inserts (has_first w.base.items) any_attr) events
  -- where a line can write each site's items, it can write all that is put in
  pub writes : Every (λ m. AllPass is_writable m.site.replica.items) w.members → AllByRecursion (Inserts is_writable is_attr) events
  pub told : (k : ℕ) (before : List PlainItem) → told_last k w events before ≡ told_if teller k w before
  pub same : next ≡ run w events

-- The session is the result of some events on the sites that one of the lines asked for. Each of
-- these began with the items of the page that this line gave.
pub record IsReached (lines : List (List ℕ)) (page : Opened) (w : Session) : Type 0 where
  pub before : List (List ℕ)
  pub line : List ℕ
  pub after : List (List ℕ)
  pub split : before ++ line ∷ after ≡ lines
  -- the text of the page, and the number of sites
  pub text : List ℕ
  pub sites : ℕ
  pub asked : command line ≡ Ok (OpenPage text sites)
  pub opened : open_page text ≡ Ok page
  -- there are still as many
  pub members : length w.members ≡ sites
  pub events : List Event
  pub opens : Opens (opened_with page.items)
  pub may : AllMayHappen (started (opened_with page.items) sites) events
  pub within : AllSelectWithin (started (opened_with page.items) sites) events
  pub inserts : IsUtf8 page.page → AllByRecursion (Inserts may_stand any_attr) events
  pub origins : AllByRecursion (Inserts (has_first page.items) any_attr) events
  pub writes : IsUtf8 page.page → AllByRecursion (Inserts is_writable is_attr) events
  pub same : w ≡ run (started (opened_with page.items) sites) events

abbrev pub WorldReached : List (List ℕ) → World → Type 0
WorldReached lines Closed = Unit {0}
WorldReached lines (Open page session) = IsReached lines page session

-- Over every list of lines: each world that they lead to is what some events make of freshly
-- started sites. So what holds of sites and server over every list of events holds of every world.
abbrev pub EveryWorldIsReached : Type 0
EveryWorldIsReached = (lines : List (List ℕ)) → WorldReached lines (world_after Closed lines)

-- ---- so the laws of sites and server hold of every site of every world

pub record SiteHolds (base : Replica) (w : Session) (m : Member) : Type 0 where
  -- the session's base is still the one that was opened
  pub base_stays : w.base ≡ base
  -- its list is lawful, and no opening has two attributes of one name
  pub sound : Sound m.site.replica.items
  -- it is the replay of the committed entries that it has seen, of those sent and of those unsent,
  -- each of which can be performed and undone
  pub list : m.site.replica.items ≡ replay (flattened (entries_of w.committed m.site)) base.items
  pub runs : AllRun (flattened (entries_of w.committed m.site)) base.items
  -- it has seen no more entries than are committed
  pub seen : m.site.seen ≤ length w.committed
  -- beside each entry that is committed, submitted, undone or known stands what it takes back
  pub beside : HintsBeside w m
  -- its store has every value that its list cites, and has each value once
  pub stored : AllIn m.site.replica.store (cited m.site.replica.items)
  pub distinct : AreDistinct m.site.replica.store
  -- its store begins with the one that was opened, and each pending entry was made on a store with
  -- as many values or more
  pub begins : BeginsWith base.store m.site
  -- both ends of its selection stand in the list, and not inside a leaf
  pub selection : StandsIn m.site.replica.items m.site.replica.selection
  -- the answer that it takes next counts the entries that it still holds as sent
  pub acknowledged : (accepted : ℕ) (later : List SiteFeed) → m.feeds ≡ Ack accepted ∷ later → accepted ≡ length m.site.sent
  -- an entry that it takes back leaves the list that the later entries give without it
  pub revoked : (i : ℕ) (next : Site) → i < length (entries_of w.committed m.site) → revoke_entry w.committed w.hints false i m.site ≡ Ok next →
      IsWithout (entries_of w.committed m.site) i base.items next.replica.items
  -- so does one that it takes back under what still counts: what took each other back stands in no way
  pub revoked_live : (i : ℕ) (next : Site) → i < length (entries_of w.committed m.site) → revoke_entry w.committed w.hints true i m.site ≡ Ok next →
      IsWithoutAmong (hinted_entries w.committed w.hints m.site) i base.items next.replica.items
  -- where nothing behind it counts, that is accepted, and the list before the entry is there again
  pub given_back : (i : ℕ) → i < length (entries_of w.committed m.site) → live (hinted_entries w.committed w.hints m.site) i ≡ Ok [] →
      IsListBefore (hinted_entries w.committed w.hints m.site) i base.items (revoke_entry w.committed w.hints true i m.site)
  -- undoing at once leaves list and store as they were
  pub undone_at_once : (ts : List Transaction) (next : Site) → AllMayRun ts m.site.replica.items → undo (with_entry ts m.site) ≡ Ok next →
      (next.replica.items ≡ m.site.replica.items) × (next.replica.store ≡ m.site.replica.store)
  -- having taken nothing and with nothing pending, it has the first list and the first store
  pub undone : m.site.seen ≡ 0 → pending m.site ≡ [] → (m.site.replica.items ≡ base.items) × (m.site.replica.store ≡ base.store)

abbrev pub EverySiteHolds : Type 0
EverySiteHolds = (lines : List (List ℕ)) (page : Opened) (w : Session) (k : ℕ) (m : Member) → world_after Closed lines ≡ Open page w → slice_get w.members k ≡ Some m →
    SiteHolds (opened_with page.items) w m

-- Where the page is UTF-8, each item of each site's list may stand. A reference is editable and has
-- its key, an internal item has its key, and no item has more than 64 marks.
abbrev pub EveryItemStands : Type 0
EveryItemStands = (lines : List (List ℕ)) (page : Opened) (w : Session) (k : ℕ) (m : Member) → world_after Closed lines ≡ Open page w → slice_get w.members k ≡ Some m →
    IsUtf8 page.page → AllPass may_stand m.site.replica.items

-- Sites that have seen as much, and have nothing pending, have one list, and so write one page.
abbrev pub SitesMeet : Type 0
SitesMeet = (lines : List (List ℕ)) (page : Opened) (w : Session) (k l : ℕ) (m n : Member) → world_after Closed lines ≡ Open page w →
    slice_get w.members k ≡ Some m → slice_get w.members l ≡ Some n → m.site.seen ≡ n.site.seen → pending m.site ≡ [] → pending n.site ≡ [] →
    m.site.replica.items ≡ n.site.replica.items

-- So are the lists and the pages of sites to which no feed waits, and that have nothing pending.
abbrev pub QuietSitesMeet : Type 0
QuietSitesMeet = (lines : List (List ℕ)) (page : Opened) (w : Session) (k l : ℕ) (m n : Member) → world_after Closed lines ≡ Open page w →
    slice_get w.members k ≡ Some m → slice_get w.members l ≡ Some n → m.feeds ≡ [] → n.feeds ≡ [] → pending m.site ≡ [] → pending n.site ≡ [] →
    (m.site.replica.items ≡ n.site.replica.items) × (write page m.site.replica.items ≡ write page n.site.replica.items)

-- A site that has the page's items writes the page as it was opened, byte for byte, whatever
-- happened between.
abbrev pub UneditedIsWrittenBack : Type 0
UneditedIsWrittenBack = (lines : List (List ℕ)) (page : Opened) (w : Session) (k : ℕ) (m : Member) → world_after Closed lines ≡ Open page w → slice_get w.members k ≡ Some m →
    IsUtf8 page.page → m.site.replica.items ≡ page.items → write page m.site.replica.items ≡ page.page
