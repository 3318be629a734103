-- A queue to a site, before and while an entry is served.
use Rattle.std.specs.Prelude.{ℕ, suc, List, [], ◌∷◌, ◌++◌, map}
use Rattle.model_site.specs.Entries.{Parcel}
use Rattle.model_site.specs.Session.{SiteFeed, feed_for}

-- the feeds, the first one the next, and those that are staged behind them
pub record Waiting : Type 0 where
  pub feeds : List SiteFeed
  pub staged : List SiteFeed

-- those that can be taken, of each
abbrev pub feeds_in : List Waiting → List (List SiteFeed)
feeds_in = map (λ w. w.feeds)

-- the staged feeds join the others
abbrev pub released : Waiting → Waiting
released w = record { feeds = w.feeds ++ w.staged; staged = [] }

-- with what the site at k gets when these entries of the sender are accepted staged in the place of
-- what was staged
abbrev pub all_staged : (sender k : ℕ) → List Parcel → List Waiting → List Waiting
all_staged sender k entries [] = []
all_staged sender k entries (w ∷ ws) = record { feeds = w.feeds; staged = feed_for sender k entries } ∷ all_staged sender (suc k) entries ws
