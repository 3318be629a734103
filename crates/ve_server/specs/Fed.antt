-- Messages between sites and server, by value.
use Rattle.std.specs.Prelude.{List, [], ◌∷◌, Option, Some, None}
use Rattle.model_site.specs.Site.{Submission}
use Rattle.model_site.specs.Session.{SiteFeed}
use Rattle.model_site.specs.Session as model
use Rattle.ve_server.specs.declared.feed.Submit.{Submit}
use Rattle.ve_server.specs.declared.feed.Feed.{Feed}
use Rattle.ve_server.specs.declared.feed.Feed.TheVariants as feed

abbrev pub submission_of : Submit → Submission
submission_of s = record { base = s.base; entries = s.parcels.entries; hints = s.parcels.hints }

abbrev pub feed_of : Feed → SiteFeed
feed_of (feed.Foreign parcels) = model.Foreign parcels.entries
feed_of (feed.Ack accepted) = model.Ack accepted

-- the feed, if there is one, as a list
abbrev pub feeds_of : Option Feed → List SiteFeed
feeds_of None = []
feeds_of (Some feed) = feed_of feed ∷ []
