-- Turns of a session, and the transactions that they perform.
use Rattle.std.specs.Prelude.{◌≡◌, ℕ, List, [], ◌∷◌, ◌++◌, length, Ok}
use Rattle.model_site.specs.Session.{Member, SiteFeed}
use Rattle.model_site.specs.Site.{Site, Submission, send}
use Rattle.ve_site.specs.Taking.{steps_of_take}
use Rattle.ve_sites.specs.Shared.{Shared, member_at, site_at, with_member_at}

-- The site at k sent so many entries, as one submission, which waits behind those that the server
-- has not served. Nothing else changed.
pub record HasSent (k count : ℕ) (old new : Shared) : Type 0 where
  pub submission : Submission
  pub sent : send (site_at old k) ≡ Ok (site_at new k, submission)
  pub counted : count ≡ length submission.entries
  pub same : new ≡ with_member_at k (record {
    site = site_at new k;
    submissions = (member_at old k).submissions ++ submission ∷ [];
    feeds = (member_at old k).feeds;
  }) old

-- ---- how many steps

-- the next of these feeds taken, if there is one
abbrev pub steps_of_next : List SiteFeed → Site → ℕ
steps_of_next [] site = 0
steps_of_next (feed ∷ later) site = steps_of_take feed site

-- a site's turn
abbrev pub steps_of_turn : Member → ℕ
steps_of_turn m = steps_of_next m.feeds m.site
