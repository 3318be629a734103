-- The invariant of sites, queues and server together.
use Rattle.std.specs.Prelude.{◌≡◌, ℕ, List, [], ◌∷◌, ◌++◌, length, Some, None}
use Rattle.model_items.specs.declared.plain_item.PlainItem.{PlainItem}
use Rattle.model_change.specs.Replay.{AllRun, flattened}
use Rattle.model_site.specs.Entries.{Parcel, parcels}
use Rattle.model_site.specs.Site.{Submission}
use Rattle.model_site.specs.Joined.{join_entries}
use Rattle.model_site.specs.Session.{SiteFeed, Foreign, Ack, Member, Session}
use Rattle.model_site_law.specs.Sound.{Sound}
use Rattle.model_site_law.specs.Holds.{Holds, ground}

-- the entries that are kept under these committed ones
abbrev pub kept_under : (committed entries : List Parcel) → List Parcel
kept_under committed entries = (join_entries (flattened committed) entries).kept

-- The feeds bring `rest`, the committed entries that the site has not seen, in order. At the
-- answer, what is kept of `sent` under the feeds before it is what was committed of it, and so many
-- are acknowledged.
abbrev pub InStep : (rest sent : List Parcel) → List SiteFeed → Type 0
InStep rest sent [] = rest ≡ []
InStep rest sent (Foreign ps ∷ feeds) = (later : List Parcel) × (rest ≡ ps ++ later) × InStep later (kept_under ps sent) feeds
InStep rest sent (Ack n ∷ feeds) = (later : List Parcel) × (rest ≡ sent ++ later) × (n ≡ length sent) × InStep later [] feeds

abbrev pub NoAck : List SiteFeed → Type 0
NoAck [] = Unit {0}
NoAck (Foreign ps ∷ feeds) = NoAck feeds
NoAck (Ack n ∷ feeds) = ⊥

abbrev pub OneAck : List SiteFeed → Type 0
OneAck [] = ⊥
OneAck (Foreign ps ∷ feeds) = OneAck feeds
OneAck (Ack n ∷ feeds) = NoAck feeds

-- a submission that waits: of it the server would accept now what would be kept of `sent` under all
-- that the site has not seen
pub record Waits (base : List PlainItem) (committed rest sent : List Parcel) (s : Submission) : Type 0 where
  pub old : List Parcel
  pub new : List Parcel
  pub split : old ++ new ≡ committed
  pub from : length old ≡ s.base
  pub runs : AllRun (flattened s.entries) (ground base old)
  pub as_kept : kept_under rest sent ≡ kept_under new s.entries

-- a site has nothing on its way; or its submission waits at the server; or the answer to it waits
-- in the feeds
pub data Turn (base : List PlainItem) (committed rest : List Parcel) (m : Member) : Type 0 where
  AtRest : m.site.in_flight ≡ None → m.submissions ≡ [] → parcels m.site.sent ≡ [] → NoAck m.feeds → Turn base committed rest m
  Submitted : (n : ℕ) (s : Submission) → m.site.in_flight ≡ Some n → m.submissions ≡ s ∷ [] → NoAck m.feeds →
      Waits base committed rest (parcels m.site.sent) s → Turn base committed rest m
  Answered : (n : ℕ) → m.site.in_flight ≡ Some n → m.submissions ≡ [] → OneAck m.feeds → Turn base committed rest m

-- of a site with its queues; the committed entries are those that it has seen, and the rest
pub record MemberHolds (base : List PlainItem) (committed : List Parcel) (m : Member) : Type 0 where
  pub before : List Parcel
  pub rest : List Parcel
  pub split : before ++ rest ≡ committed
  pub site : Holds base before m.site
  pub in_step : InStep rest (parcels m.site.sent) m.feeds
  pub turn : Turn base committed rest m

abbrev pub Every : (Member → Type 0) → List Member → Type 0
Every P [] = Unit {0}
Every P (m ∷ ms) = P m × Every P ms

pub record SessionHolds (w : Session) : Type 0 where
  pub sound : Sound w.base.items
  pub committed : AllRun (flattened w.committed) w.base.items
  pub members : Every (MemberHolds w.base.items w.committed) w.members
