-- Taking from a queue: foreign entries, joined over the site's pending ones, and the answer to what
-- it sent.
use Rattle.std.specs.Prelude.{ℕ, suc, ◌+◌, List, [], ◌∷◌, length, take, drop, ◌++◌, None}
use Rattle.model_change.specs.Replay.{flattened, reversal}
use Rattle.model_site.specs.Replica.{all_performed}
use Rattle.model_site.specs.Untold.{passed}
use Rattle.model_site.specs.Entries.{Parcel, Entry, Hints, parcels, hints, all_reverted}
use Rattle.model_site.specs.Site.{Site, pending, first_hint}
use Rattle.model_site.specs.Joined.{Joined, join_entries}

-- as entries, with one length of the store before and after, so that taking them back cuts nothing
-- off; beside them what they take back
abbrev pub parcel_entries : ℕ → Hints → List Parcel → List Entry
parcel_entries stored taken [] = []
parcel_entries stored taken (p ∷ ps) =
    record { txs = p; store_before = stored; store_after = stored; takes_back = first_hint taken } ∷ parcel_entries stored (drop 1 taken) ps

-- The pending entries that are not kept are taken back, the last first; the foreign entry is
-- performed over those kept; and these are joined over it.
abbrev pub with_joined : Joined → Site → Site
with_joined j site =
    let dropped = drop (length j.kept) (pending site) in
    let replica = all_performed j.committed (all_reverted dropped site.replica) in
    let kept = parcel_entries (length replica.store) (hints (pending site)) j.kept in
    record site {
      replica = replica;
      untold = passed (reversal (flattened (parcels dropped)) ++ j.committed) site.untold;
      seen = suc site.seen;
      sent = take (length site.sent) kept;
      unsent = drop (length site.sent) kept;
      undone = [];
      undone_hints = [];
    }

abbrev pub take_entry : Parcel → Site → Site
take_entry foreign site = with_joined (join_entries foreign (parcels (pending site))) site

-- each in turn; nothing can be redone after a take
abbrev pub take_foreign : List Parcel → Site → Site
take_foreign [] site = record site { undone = []; undone_hints = [] }
take_foreign (entry ∷ entries) site = take_foreign entries (take_entry entry site)

-- the entries still held as sent are committed now
abbrev pub take_ack : Site → Site
take_ack site = record site { seen = site.seen + length site.sent; sent = []; undone = []; undone_hints = []; in_flight = None }
