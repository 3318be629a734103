-- Serving and taking come to an end, and then all sites that have nothing pending have one list.
use Rattle.std.specs.Prelude.{◌≡◌, ◌<◌, ℕ, suc, ◌+◌, List, [], ◌∷◌, length, slice_get, Some}
use Rattle.model_site.specs.Events.{Event, Serve, Take, happens, run}
use Rattle.model_site.specs.Replica.{Replica}
use Rattle.model_site.specs.Session.{SiteFeed, Member, Session, started}
use Rattle.model_site.specs.Site.{Submission, pending}
use Rattle.model_site_law.specs.MayHappen.{AllMayHappen}
use Rattle.model_site_law.specs.Sound.{Opens}

-- so many for each member of a list
abbrev pub counted : {A : Type 0} → (each : ℕ) → List A → ℕ
counted each [] = 0
counted each (x ∷ xs) = each + counted each xs

-- What waits at a site, among so many. A submission counts one more than there are sites, since the
-- server may feed each of them once for it.
abbrev pub waiting_at : (sites : ℕ) → Member → ℕ
waiting_at sites m = counted (suc sites) m.submissions + length m.feeds

abbrev pub waiting_among : (sites : ℕ) → List Member → ℕ
waiting_among sites [] = 0
waiting_among sites (m ∷ ms) = waiting_at sites m + waiting_among sites ms

-- what waits in all queues
abbrev pub waiting : Session → ℕ
waiting w = waiting_among (length w.members) w.members

-- Where a submission waits, less waits after the server's turn at it,
abbrev pub ServingLowers : Type 0
ServingLowers = (w : Session) (k : ℕ) (m : Member) (s : Submission) (later : List Submission) → slice_get w.members k ≡ Some m →
    m.submissions ≡ s ∷ later → waiting (happens w (Serve k)) < waiting w

-- and where a feed waits, less waits after the site's turn. So turns come to where nothing waits, in
-- whatever order.
abbrev pub TakingLowers : Type 0
TakingLowers = (w : Session) (k : ℕ) (m : Member) (f : SiteFeed) (later : List SiteFeed) → slice_get w.members k ≡ Some m →
    m.feeds ≡ f ∷ later → waiting (happens w (Take k)) < waiting w

-- Sites to which no feed waits, and that have nothing pending, have one list.
abbrev pub QuietSitesMeet : Type 0
QuietSitesMeet = (base : Replica) (sites : ℕ) (events : List Event) (k l : ℕ) (m n : Member) → Opens base →
    AllMayHappen (started base sites) events →
    slice_get (run (started base sites) events).members k ≡ Some m → slice_get (run (started base sites) events).members l ≡ Some n →
    m.feeds ≡ [] → n.feeds ≡ [] → pending m.site ≡ [] → pending n.site ≡ [] → m.site.replica.items ≡ n.site.replica.items
