-- A page under edit by several sites: their queues, the committed entries, and the turns of server
-- and sites.
use Rattle.std.specs.Prelude.{ℕ, zero, suc, ◌-◌, ◌==◌, if◌then◌else◌, List, [], ◌∷◌, ◌++◌, length, take, drop, replicate, Option, Some, None}
use Rattle.model_change.specs.Join as join
use Rattle.model_change.specs.Replay.{flattened}
use Rattle.model_site.specs.declared.served.Clash.{Clash}
use Rattle.model_site.specs.declared.served.Served.{Served}
use Rattle.model_site.specs.declared.taken.Taken.{Taken}
use Rattle.model_site.specs.declared.taken.Taken.TheVariants as taken
use Rattle.model_site.specs.Replica.{Replica}
use Rattle.model_site.specs.Entries.{Parcel, Hints}
use Rattle.model_site.specs.Site.{Site, starting, pending, Submission}
use Rattle.model_site.specs.Joined.{Joined, join_entries}
use Rattle.model_site.specs.Take.{take_foreign, take_ack}

-- messages of the server to a site: entries of another site, or how many of its own were accepted
pub data SiteFeed : Type 0 where
  Foreign : (entries : List Parcel) → SiteFeed
  Ack : (accepted : ℕ) → SiteFeed

-- a site and its queues to and from the server, the first in each the next
pub record Member : Type 0 where
  pub site : Site
  pub submissions : List Submission
  pub feeds : List SiteFeed

pub record Session : Type 0 where
  pub base : Replica
  pub committed : List Parcel
  -- what each of these takes back
  pub hints : Hints
  pub members : List Member

-- so many sites, all at the base
abbrev pub joining : Replica → Member
joining base = record { site = starting base; submissions = []; feeds = [] }

abbrev pub started : Replica → ℕ → Session
started base sites = record { base = base; committed = []; hints = []; members = replicate sites (joining base) }

-- the member at k replaced
abbrev pub put_member : ℕ → Member → List Member → List Member
put_member k m [] = []
put_member zero m (n ∷ ms) = m ∷ ms
put_member (suc k) m (n ∷ ms) = n ∷ put_member k m ms

abbrev pub with_member : ℕ → Member → Session → Session
with_member k m w = record w { members = put_member k m w.members }

-- the entries of a submission, joined over those committed since its base
abbrev pub accepted_of : (committed : List Parcel) → Submission → Joined
accepted_of committed s = join_entries (flattened (drop s.base committed)) s.entries

abbrev pub foreign_feed : List Parcel → List SiteFeed
foreign_feed [] = []
foreign_feed (p ∷ ps) = Foreign (p ∷ ps) ∷ []

-- the messages to the site at k when these entries of the sender are accepted: the sender gets
-- their number, each other site the entries, if there is one
abbrev pub feed_for : (sender k : ℕ) → List Parcel → List SiteFeed
feed_for sender k entries = if k == sender then Ack (length entries) ∷ [] else foreign_feed entries

abbrev pub all_fed : (sender k : ℕ) → List Parcel → List Member → List Member
all_fed sender k entries [] = []
all_fed sender k entries (m ∷ ms) = record m { feeds = m.feeds ++ feed_for sender k entries } ∷ all_fed sender (suc k) entries ms

abbrev pub clash_of : Option join.RangeConflict → Option Clash
clash_of None = None
clash_of (Some c) = Some (record { committed = c.committed; submitted = c.mine })

abbrev pub served_as : Joined → Submission → Served
served_as j s = record { accepted = length j.kept; total = length s.entries; clash = clash_of j.clash }

-- the accepted entries are committed, and each queue is fed
abbrev pub serve_one : ℕ → Member → Submission → List Submission → Session → Session × Served
serve_one k m s later w =
    let j = accepted_of w.committed s in (
      record w {
        committed = w.committed ++ j.kept;
        hints = w.hints ++ take (length j.kept) s.hints;
        members = all_fed k 0 j.kept (put_member k (record m { submissions = later }) w.members);
      },
      served_as j s,
    )

abbrev pub serve_first : ℕ → Member → List Submission → Session → Option (Session × Served)
serve_first k m [] w = None
serve_first k m (s ∷ later) w = Some (serve_one k m s later w)

-- the server's turn: the next submission of the member at k, if there is one
abbrev pub serve_next : ℕ → Member → Session → Option (Session × Served)
serve_next k m w = serve_first k m m.submissions w

abbrev pub site_after : SiteFeed → Site → Site
site_after (Foreign entries) site = take_foreign entries site
site_after (Ack accepted) site = take_ack site

-- how many entries came, and how many pending ones were dropped for them
abbrev pub taken_as : SiteFeed → (old new : Site) → Taken
taken_as (Foreign entries) old new = taken.Foreign (length entries) (length (pending old) - length (pending new))
taken_as (Ack accepted) old new = taken.Acked accepted

abbrev pub take_first : ℕ → Member → List SiteFeed → Session → Option (Session × Taken)
take_first k m [] w = None
take_first k m (f ∷ later) w =
    let site = site_after f m.site in
    Some (with_member k (record m { site = site; feeds = later }) w, taken_as f m.site site)

-- the turn of the member at k: its next feed, if there is one
abbrev pub take_next : ℕ → Member → Session → Option (Session × Taken)
take_next k m w = take_first k m m.feeds w
