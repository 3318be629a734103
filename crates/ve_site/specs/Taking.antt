-- Feeds that a site may take from the server, and how many steps that counts at most.
use Rattle.std.specs.Prelude.{ℕ, ◌+◌, List, [], ◌∷◌}
use Rattle.model_change.specs.Replay.{AllRun, flattened}
use Rattle.model_site.specs.Entries.{Parcel}
use Rattle.model_site.specs.Made.{taking_all, taking_one}
use Rattle.model_site.specs.Session.{SiteFeed, Foreign, Ack}
use Rattle.model_site.specs.Site.{Site}
use Rattle.model_change.specs.Cost.{cost_of_transactions}
use Rattle.ve_editor.specs.Counted.{steps_of_blank, steps_over}
use Rattle.ve_site.specs.Ground.{ground_of}

-- Entries of other sites run one after the other from the confirmed list. An answer may always be
-- taken.
abbrev pub MayTake : SiteFeed → Site → Type 0
MayTake (Foreign entries) s = AllRun (flattened entries) (ground_of s)
MayTake (Ack accepted) s = Unit {0}

-- ---- how many steps

-- Those of a feed, and of a page without text that stands in the page's place while they are made on
-- a trial, unless it is one entry that makes one transaction.
abbrev pub steps_of_feed : List Parcel → Site → ℕ
steps_of_feed [] s = 0
steps_of_feed (entry ∷ []) s = steps_over (taking_one entry s) s.replica.items
steps_of_feed (entry ∷ other ∷ entries) s = steps_of_blank + cost_of_transactions (taking_all (entry ∷ other ∷ entries) s) s.replica.items

-- a feed taken
abbrev pub steps_of_take : SiteFeed → Site → ℕ
steps_of_take (Foreign entries) s = steps_of_feed entries s
steps_of_take (Ack accepted) s = 0
