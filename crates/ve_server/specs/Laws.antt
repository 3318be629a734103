-- The server's calls are turns of a session: they do the same to the committed entries and the
-- queues.
use Rattle.std.specs.Prelude.{◌≡◌, ℕ, List, map, slice_get, slice_set, Option, Some, None}
use Rattle.model_site.specs.Site.{Site, Submission}
use Rattle.model_site.specs.Session.{Member, Session, SiteFeed, serve_one, site_after, take_next}
use Rattle.model_site.specs.Events.{after_turn}
use Rattle.ve_server.specs.Serving.{serving_of, after_serving, first_feed}

abbrev pub sites_of : List Member → List Site
sites_of = map (λ m. m.site)

-- the server's turn serves the submission
abbrev pub TurnsServe : Type 0
TurnsServe = (k : ℕ) (m : Member) (s : Submission) (later : List Submission) (w : Session) → slice_get w.members k ≡ Some m →
    serving_of (serve_one k m s later w).0 ≡ after_serving k s (serving_of w)

-- the turn of a site takes the next feed off its queue,
abbrev pub TurnsFeed : Type 0
TurnsFeed = (k : ℕ) (m : Member) (w : Session) → slice_get w.members k ≡ Some m →
    serving_of (after_turn w (take_next k m w)) ≡ (first_feed k (serving_of w)).1

-- a site after a feed, if there is one
abbrev pub site_with : Option SiteFeed → Site → Site
site_with None site = site
site_with (Some feed) site = site_after feed site

-- and that site becomes what the feed that is handed out makes of it; all others stay.
abbrev pub TurnsTake : Type 0
TurnsTake = (k : ℕ) (m : Member) (w : Session) → slice_get w.members k ≡ Some m →
    sites_of (after_turn w (take_next k m w)).members ≡ slice_set (sites_of w.members) k (site_with (first_feed k (serving_of w)).0 m.site)
