-- The server by itself: the committed entries, and the queue to each site.
use Rattle.std.specs.Prelude.{ℕ, suc, List, [], ◌∷◌, ◌++◌, length, map, take, slice_index_or, slice_set, Option, Some, None}
use Rattle.model_site.specs.Entries.{Hints, Parcel}
use Rattle.model_site.specs.Site.{Submission}
use Rattle.model_site.specs.declared.served.Served.{Served}
use Rattle.model_site.specs.Session.{Session, SiteFeed, feed_for, accepted_of, served_as}

pub record Serving : Type 0 where
  pub committed : List Parcel
  -- what each of these takes back
  pub hints : Hints
  -- the queue to each site, the first feed the next
  pub queues : List (List SiteFeed)

-- a session's
abbrev pub serving_of : Session → Serving
serving_of w = record { committed = w.committed; hints = w.hints; queues = map (λ m. m.feeds) w.members }

-- the sender's queue gets how many entries were accepted, and each other one the entries, if there
-- is one
abbrev pub all_queued : (sender k : ℕ) → List Parcel → List (List SiteFeed) → List (List SiteFeed)
all_queued sender k entries [] = []
all_queued sender k entries (feeds ∷ queues) = (feeds ++ feed_for sender k entries) ∷ all_queued sender (suc k) entries queues

-- the accepted entries of a submission are committed, and each queue is fed
abbrev pub after_serving : (sender : ℕ) → Submission → Serving → Serving
after_serving sender s v = let j = accepted_of v.committed s in
    record {
      committed = v.committed ++ j.kept;
      hints = v.hints ++ take (length j.kept) s.hints;
      queues = all_queued sender 0 j.kept v.queues;
    }

-- the answer to the sender
abbrev pub answer_to : Submission → Serving → Served
answer_to s v = served_as (accepted_of v.committed s) s

-- the first of a queue, if there is one, and the others
abbrev pub first_of : List SiteFeed → Option SiteFeed × List SiteFeed
first_of [] = (None, [])
first_of (feed ∷ feeds) = (Some feed, feeds)

-- the next feed of the site at k, if there is one, and the server without it
abbrev pub first_feed : ℕ → Serving → Option SiteFeed × Serving
first_feed k v = let r = first_of (slice_index_or v.queues k []) in (r.0, record v { queues = slice_set v.queues k r.1 })
