-- The laws of sites and server, over every list of events.
use Rattle.std.specs.Prelude.{◌≡◌, ◌<◌, ◌≤◌, ℕ, suc, ◌+◌, Bool, true, false, List, [], ◌∷◌, length, map, take, slice_get, Option, Some, None, Result, Ok, Err}
use Rattle.std.specs.List.{AllByRecursion}
use Rattle.model_items.specs.declared.plain_item.PlainItem.{PlainItem}
use Rattle.model_items.specs.Plain.{AreDistinct}
use Rattle.model_change.specs.Transaction.{Transaction}
use Rattle.model_change.specs.Store.{cited}
use Rattle.model_change.specs.Join.{RangeConflict, join_list}
use Rattle.model_change.specs.Replay.{replay, AllRun, AllWithin, inserted_by, reversal, flattened, entry_at, made_before, made_after}
use Rattle.model_site.specs.Replica.{Replica, opened_with}
use Rattle.model_site.specs.Entries.{Parcel}
use Rattle.model_site.specs.Live.{Hinted, RevokeCause, live}
use Rattle.model_site.specs.Site.{Site, Submission, pending, with_entry, undo, redo, entries_of, hints_of, hinted_entries, revoke_entry}
use Rattle.model_site.specs.Joined.{Joined, join_entries}
use Rattle.model_site.specs.Session.{SiteFeed, Ack, Member, Session, started}
use Rattle.model_site.specs.Events.{Event, Undo, Redo, run}
use Rattle.model_site_law.specs.Sound.{Sound, AllIn, Opens, AllMayRun}
use Rattle.model_site_law.specs.LiveLaws.{IsLeftOut, list_before}
use Rattle.model_site_law.specs.MayHappen.{AllMayHappen}

-- The replica that a sound list is opened with is one of those of which the laws speak.
abbrev pub FirstReplicaOpens : Type 0
FirstReplicaOpens = (items : List PlainItem) → Sound items → Opens (opened_with items)

-- The entries that are joined over committed transactions, in words of whole lists. The
-- transactions of those kept, joined as one list, are the kept ones. Each entry keeps the number of
-- its transactions. Either all are kept, or the list with the next entry has the conflict.
abbrev pub IsNextInConflict : List Transaction → List Parcel → ℕ → Option RangeConflict → Type 0
IsNextInConflict committed entries n None = n ≡ length entries
IsNextInConflict committed entries n (Some clash) =
    (n < length entries) × (join_list committed (flattened (take (suc n) entries)) ≡ Err clash)

pub record AreFirst (committed : List Transaction) (entries : List Parcel) (j : Joined) : Type 0 where
  pub one_list : join_list committed (flattened (take (length j.kept) entries)) ≡ Ok (j.committed, flattened j.kept)
  pub sizes : map (λ (p : Parcel). length p) j.kept ≡ map (λ (p : Parcel). length p) (take (length j.kept) entries)
  pub next : IsNextInConflict committed entries (length j.kept) j.clash

abbrev pub JoinedUntilConflict : Type 0
JoinedUntilConflict = (committed : List Transaction) (entries : List Parcel) → AreFirst committed entries (join_entries committed entries)

-- Entries over one foreign entry, as they are joined: those kept run after it, it runs, joined,
-- after those kept, and one list comes of both.
pub record AreJoined (foreign : Parcel) (entries : List Parcel) (items : List PlainItem) (j : Joined) : Type 0 where
  pub kept_run : AllRun (flattened j.kept) (replay foreign items)
  pub committed_run : AllRun j.committed (replay (flattened (take (length j.kept) entries)) items)
  pub one_list : replay j.committed (replay (flattened (take (length j.kept) entries)) items)
      ≡ replay (flattened j.kept) (replay foreign items)

abbrev pub EntriesJoin : Type 0
EntriesJoin = (foreign : Parcel) (entries : List Parcel) (items : List PlainItem) → Sound items → AllRun foreign items →
    AllRun (flattened entries) items → AreJoined foreign entries items (join_entries foreign entries)

-- Joined, none of their transactions is longer than the list with all that the foreign entry
-- inserts and the kept ones do. So each is in normal form where that is at most 2^60.
abbrev pub EntriesWithin : Type 0
EntriesWithin = (foreign : Parcel) (entries : List Parcel) (items : List PlainItem) → Sound items → AllRun foreign items →
    AllRun (flattened entries) items →
    let j = join_entries foreign entries in
    let most = length items + (inserted_by foreign + inserted_by (flattened (take (length j.kept) entries))) in
    AllWithin most j.committed × AllWithin most (flattened j.kept)

-- a property of a base, the session and one of its members holds, whatever happened
abbrev pub Always : ((base : Replica) (w : Session) (m : Member) → Type 0) → Type 0
Always P = (base : Replica) (sites : ℕ) (events : List Event) (k : ℕ) (m : Member) → Opens base → AllMayHappen (started base sites) events →
    slice_get (run (started base sites) events).members k ≡ Some m → P base (run (started base sites) events) m

-- A site's list is the replay of the committed entries that it has seen, then of those sent, and
-- then of those unsent.
abbrev pub ListIsReplay : Type 0
ListIsReplay = Always (λ base w m. m.site.replica.items ≡ replay (flattened (entries_of w.committed m.site)) base.items)

-- Each of these is reduced, applies to what those before it give, leaves a lawful list, and can be
-- undone.
abbrev pub EntriesRun : Type 0
EntriesRun = Always (λ base w m. AllRun (flattened (entries_of w.committed m.site)) base.items)

-- So do the committed entries, though the server asks neither.
abbrev pub CommittedRun : Type 0
CommittedRun = (base : Replica) (sites : ℕ) (events : List Event) → Opens base → AllMayHappen (started base sites) events →
    AllRun (flattened (run (started base sites) events).committed) base.items

abbrev pub ListIsSound : Type 0
ListIsSound = Always (λ base w m. Sound m.site.replica.items)

-- A site has seen no more entries than are committed.
abbrev pub SeenIsCommitted : Type 0
SeenIsCommitted = Always (λ base w m. m.site.seen ≤ length w.committed)

-- There are always as many sites as began.
abbrev pub SitesStay : Type 0
SitesStay = (base : Replica) (sites : ℕ) (events : List Event) → length (run (started base sites) events).members ≡ sites

-- The number acknowledged is the number of entries that the site still holds as sent when it takes
-- the answer.
abbrev pub AckCounts : Type 0
AckCounts = Always (λ base w m. (accepted : ℕ) (later : List SiteFeed) → m.feeds ≡ Ack accepted ∷ later → accepted ≡ length m.site.sent)

-- Sites that have seen as much, and have nothing pending, have one list.
abbrev pub OneList : Type 0
OneList = (base : Replica) (sites : ℕ) (events : List Event) (k l : ℕ) (m n : Member) → Opens base →
    AllMayHappen (started base sites) events →
    slice_get (run (started base sites) events).members k ≡ Some m → slice_get (run (started base sites) events).members l ≡ Some n →
    m.site.seen ≡ n.site.seen → pending m.site ≡ [] → pending n.site ≡ [] → m.site.replica.items ≡ n.site.replica.items

-- Every value that a site's list cites is in its store.
abbrev pub StoreHolds : Type 0
StoreHolds = Always (λ base w m. AllIn m.site.replica.store (cited m.site.replica.items))

abbrev pub FirstStoreIsDistinct : Type 0
FirstStoreIsDistinct = (items : List PlainItem) → AreDistinct (opened_with items).store

-- The values of a site's store are distinct, if those of the first one are.
abbrev pub StoreIsDistinct : Type 0
StoreIsDistinct = (base : Replica) (sites : ℕ) (events : List Event) (k : ℕ) (m : Member) → Opens base → AreDistinct base.store →
    AllMayHappen (started base sites) events →
    slice_get (run (started base sites) events).members k ≡ Some m → AreDistinct m.site.replica.store

-- A site's list after it took entry i back: the one that the later entries give without it, joined
-- over its reversal.
pub record IsWithout (entries : List Parcel) (i : ℕ) (base now : List PlainItem) : Type 0 where
  pub later : List Transaction
  pub back : List Transaction
  pub joined : join_list (made_after entries i) (reversal (entry_at entries i)) ≡ Ok (later, back)
  pub run : AllRun later (replay (made_before entries i) base)
  pub list : now ≡ replay later (replay (made_before entries i) base)

abbrev pub RevokeLeavesOut : Type 0
RevokeLeavesOut = Always (λ base w m. (i : ℕ) (next : Site) → i < length (entries_of w.committed m.site) →
    revoke_entry w.committed w.hints false i m.site ≡ Ok next → IsWithout (entries_of w.committed m.site) i base.items next.replica.items)

-- Where what took each other back does not stand in the way: what counts behind entry i gives the
-- list without it.
pub record IsWithoutAmong (entries : List Hinted) (i : ℕ) (base now : List PlainItem) : Type 0 where
  pub back : List Transaction
  pub left : IsLeftOut entries i back base
  pub list : now ≡ replay left.without (list_before entries i base)

abbrev pub LiveRevokeIsWithout : Type 0
LiveRevokeIsWithout = Always (λ base w m. (i : ℕ) (next : Site) → i < length (entries_of w.committed m.site) →
    revoke_entry w.committed w.hints true i m.site ≡ Ok next → IsWithoutAmong (hinted_entries w.committed w.hints m.site) i base.items next.replica.items)

-- Where nothing behind it counts, entry i is taken back, and the site's list is the one before the
-- entry.
pub record IsListBefore (entries : List Hinted) (i : ℕ) (base : List PlainItem) (r : Result Site RevokeCause) : Type 0 where
  pub next : Site
  pub taken : r ≡ Ok next
  pub list : next.replica.items ≡ list_before entries i base

abbrev pub LiveRevokeGivesBack : Type 0
LiveRevokeGivesBack = Always (λ base w m. (i : ℕ) → i < length (entries_of w.committed m.site) →
    live (hinted_entries w.committed w.hints m.site) i ≡ Ok [] →
    IsListBefore (hinted_entries w.committed w.hints m.site) i base.items (revoke_entry w.committed w.hints true i m.site))

-- Beside each entry stands what it takes back: of those committed, submitted, undone, and known.
pub record HintsBeside (w : Session) (m : Member) : Type 0 where
  pub committed : length w.hints ≡ length w.committed
  pub submitted : AllByRecursion (λ (s : Submission). length s.hints ≡ length s.entries) m.submissions
  pub undone : length m.site.undone_hints ≡ length m.site.undone
  pub known : length (hints_of w.hints m.site) ≡ length (entries_of w.committed m.site)

abbrev pub HintsStandBeside : Type 0
HintsStandBeside = Always (λ base w m. HintsBeside w m)

-- An undo is accepted wherever something is unsent, and a redo wherever something is undone.
pub record IsUndone (s : Site) : Type 0 where
  pub next : Site
  pub accepted : undo s ≡ Ok next
  pub unsent : suc (length next.unsent) ≡ length s.unsent
  pub undone : length next.undone ≡ suc (length s.undone)

abbrev pub UndoIsAccepted : Type 0
UndoIsAccepted = (s : Site) → 0 < length s.unsent → IsUndone s

pub record IsRedone (s : Site) : Type 0 where
  pub next : Site
  pub accepted : redo s ≡ Ok next
  pub unsent : length next.unsent ≡ suc (length s.unsent)
  pub undone : suc (length next.undone) ≡ length s.undone

abbrev pub RedoIsAccepted : Type 0
RedoIsAccepted = (s : Site) → 0 < length s.undone → IsRedone s

-- Undoing at once leaves list and store as they were, whatever happened before.
abbrev pub UndoneAtOnce : Type 0
UndoneAtOnce = Always (λ base w m. (ts : List Transaction) (next : Site) → AllMayRun ts m.site.replica.items →
    undo (with_entry ts m.site) ≡ Ok next → (next.replica.items ≡ m.site.replica.items) × (next.replica.store ≡ m.site.replica.store))

-- A site that has taken nothing and has nothing pending has the first list and the first store.
abbrev pub UndoneIsFirst : Type 0
UndoneIsFirst = Always (λ base w m. m.site.seen ≡ 0 → pending m.site ≡ [] →
    (m.site.replica.items ≡ base.items) × (m.site.replica.store ≡ base.store))

-- undoing and redoing at one site
abbrev pub turns : ℕ → List Bool → List Event
turns k [] = []
turns k (true ∷ more) = Undo k ∷ turns k more
turns k (false ∷ more) = Redo k ∷ turns k more

-- A site that has taken nothing and has nothing undone undoes and redoes, in any order, until
-- nothing is undone again. Its list and its store are then as before.
abbrev pub RedoneIsAsBefore : Type 0
RedoneIsAsBefore = (base : Replica) (sites : ℕ) (events : List Event) (k : ℕ) (m n : Member) (order : List Bool) → Opens base →
    AllMayHappen (started base sites) events →
    slice_get (run (started base sites) events).members k ≡ Some m → m.site.seen ≡ 0 → m.site.undone ≡ [] →
    slice_get (run (run (started base sites) events) (turns k order)).members k ≡ Some n → n.site.undone ≡ [] →
    (n.site.replica.items ≡ m.site.replica.items) × (n.site.replica.store ≡ m.site.replica.store)
