-- Turns of a session, as what they do to the committed entries and the queues.
use Rattle.std.proofs.Common.{◌≡◌, ℕ, zero, suc, List, [], ◌∷◌, ◌++◌, length, map, take, slice_get, slice_set, slice_index_or, Some, refl, sym, ap, ◌∙◌}
use Rattle.model_site.specs.Entries.{Parcel}
use Rattle.model_site.specs.Session.{Member, SiteFeed, all_fed, feed_for, put_member, accepted_of, take_first, site_after}
use Rattle.model_site.specs.Events.{after_turn}
use Rattle.ve_server.specs.Serving.{Serving, serving_of, all_queued, first_of, first_feed}
use Rattle.model_site.specs.Site.{Site}
use Rattle.ve_server.specs.Laws.{TurnsServe, TurnsFeed, TurnsTake, site_with, sites_of}

abbrev queues_of : List Member → List (List SiteFeed)
queues_of = map (λ m. m.feeds)

all_are_queued : (sender k : ℕ) (entries : List Parcel) (ms : List Member) → queues_of (all_fed sender k entries ms) ≡ all_queued sender k entries (queues_of ms)
all_are_queued sender k entries [] = refl
all_are_queued sender k entries (m ∷ ms) = ap (λ qs. (m.feeds ++ feed_for sender k entries) ∷ qs) (all_are_queued sender (suc k) entries ms)

put_is_set : (k : ℕ) (n : Member) (ms : List Member) → queues_of (put_member k n ms) ≡ slice_set (queues_of ms) k n.feeds
put_is_set k n [] = refl
put_is_set zero n (m ∷ ms) = refl
put_is_set (suc k) n (m ∷ ms) = ap (λ qs. m.feeds ∷ qs) (put_is_set k n ms)

abbrev feeds_at : ℕ → List Member → List SiteFeed
feeds_at k ms = slice_index_or (queues_of ms) k []

got : (k : ℕ) (m : Member) (ms : List Member) → slice_get ms k ≡ Some m → feeds_at k ms ≡ m.feeds
got k m [] e = absurd (cc)
got zero m (n ∷ ms) e = let same : n ≡ m = cc in ap (λ x. x.feeds) same
got (suc k) m (n ∷ ms) e = got k m ms e

put_back : (k : ℕ) (m : Member) (ms : List Member) → slice_get ms k ≡ Some m → slice_set (queues_of ms) k m.feeds ≡ queues_of ms
put_back k m [] e = refl
put_back zero m (n ∷ ms) e = let same : n ≡ m = cc in ap (λ x. x.feeds ∷ queues_of ms) (sym same)
put_back (suc k) m (n ∷ ms) e = ap (λ qs. n.feeds ∷ qs) (put_back k m ms e)

pub turns_serve : TurnsServe
turns_serve k m s later w at =
    let kept = (accepted_of w.committed s).kept in
    ap (λ qs. record { committed = w.committed ++ kept; hints = w.hints ++ take (length kept) s.hints; queues = qs })
    (all_are_queued k 0 kept (put_member k (record m { submissions = later }) w.members)
    ∙ ap (all_queued k 0 kept) (put_is_set k (record m { submissions = later }) w.members ∙ put_back k m w.members at))

pub turns_feed : TurnsFeed
turns_feed k m w at = along m.feeds (got k m w.members at) (put_back k m w.members at)
  where
    left : List SiteFeed → Serving
    left feeds = record { committed = w.committed; hints = w.hints; queues = slice_set (queues_of w.members) k (first_of feeds).1 }

    along : (feeds : List SiteFeed) → feeds_at k w.members ≡ feeds → slice_set (queues_of w.members) k feeds ≡ queues_of w.members →
        serving_of (after_turn w (take_first k m feeds w)) ≡ (first_feed k (serving_of w)).1
    along [] e same = ap (λ qs. record { committed = w.committed; hints = w.hints; queues = qs }) (sym same) ∙ ap left (sym e)
    along (f ∷ later) e same =
        ap (λ qs. record { committed = w.committed; hints = w.hints; queues = qs }) (put_is_set k (record m { site = site_after f m.site; feeds = later }) w.members) ∙ ap left (sym e)

site_is_set : (k : ℕ) (n : Member) (ms : List Member) → sites_of (put_member k n ms) ≡ slice_set (sites_of ms) k n.site
site_is_set k n [] = refl
site_is_set zero n (m ∷ ms) = refl
site_is_set (suc k) n (m ∷ ms) = ap (λ ss. m.site ∷ ss) (site_is_set k n ms)

site_stays : (k : ℕ) (m : Member) (ms : List Member) → slice_get ms k ≡ Some m → sites_of ms ≡ slice_set (sites_of ms) k m.site
site_stays k m [] e = refl
site_stays zero m (n ∷ ms) e = let same : n ≡ m = cc in ap (λ x. x.site ∷ sites_of ms) same
site_stays (suc k) m (n ∷ ms) e = ap (λ ss. n.site ∷ ss) (site_stays k m ms e)

pub turns_take : TurnsTake
turns_take k m w at = along m.feeds (got k m w.members at)
  where
    with_first : List SiteFeed → List Site
    with_first feeds = slice_set (sites_of w.members) k (site_with (first_of feeds).0 m.site)

    along : (feeds : List SiteFeed) → feeds_at k w.members ≡ feeds →
        sites_of (after_turn w (take_first k m feeds w)).members ≡ slice_set (sites_of w.members) k (site_with (first_feed k (serving_of w)).0 m.site)
    along [] e = site_stays k m w.members at ∙ ap with_first (sym e)
    along (f ∷ later) e = site_is_set k (record m { site = site_after f m.site; feeds = later }) w.members ∙ ap with_first (sym e)
