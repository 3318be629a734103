-- Sites with their queues, position by position.
use Rattle.std.proofs.Common.{◌≡◌, ◌<◌, ◌+◌, ℕ, zero, suc, List, [], ◌∷◌, ◌++◌, length, replicate, set, get_or, slice_get, Some, refl, sym, ap, ◌∙◌, arith}
use Rattle.model_site.specs.Entries.{Parcel}
use Rattle.model_site.specs.Session.{Member, SiteFeed, all_fed, feed_for, put_member}
use Rattle.model_site.specs.Site.{Site}
use Rattle.ve_server.specs.Serving.{all_queued}
use Rattle.ve_sites.specs.IsShared.{AreNumbered}
use Rattle.ve_sites.specs.Senders.{Sender, first_senders, member_of, members_of}

-- ---- one position

pub members_count : (ss : List Sender) (qs : List (List SiteFeed)) → length qs ≡ length ss → length (members_of ss qs) ≡ length ss
members_count [] qs e = refl
members_count (s ∷ ss) [] e = cc
members_count (s ∷ ss) (q ∷ qs) e = ap (λ n. suc n) (members_count ss qs (omega (arith, e)))

pub members_found : (ss : List Sender) (qs : List (List SiteFeed)) (k : ℕ) (m : Sender) → length qs ≡ length ss → k < length ss → m ≡ get_or ss k m →
    slice_get (members_of ss qs) k ≡ Some (member_of m (get_or qs k []))
members_found [] qs k m e lt is = absurd (omega arith)
members_found (s ∷ ss) [] k m e lt is = cc
members_found (s ∷ ss) (q ∷ qs) zero m e lt is = ap (λ x. Some (member_of x q)) (sym is)
members_found (s ∷ ss) (q ∷ qs) (suc k) m e lt is = members_found ss qs k m (omega (arith, e)) (omega (arith, lt)) is

pub members_at : (ss : List Sender) (qs : List (List SiteFeed)) (k : ℕ) (m : Sender) (d : Member) → length qs ≡ length ss → k < length ss → m ≡ get_or ss k m →
    get_or (members_of ss qs) k d ≡ member_of m (get_or qs k [])
members_at [] qs k m d e lt is = absurd (omega arith)
members_at (s ∷ ss) [] k m d e lt is = cc
members_at (s ∷ ss) (q ∷ qs) zero m d e lt is = ap (λ x. member_of x q) (sym is)
members_at (s ∷ ss) (q ∷ qs) (suc k) m d e lt is = members_at ss qs k m d (omega (arith, e)) (omega (arith, lt)) is

-- ---- one position written

-- the site alone, and the site with its queue
pub members_put : (ss : List Sender) (qs : List (List SiteFeed)) (k : ℕ) (t : Sender) → length qs ≡ length ss → k < length ss →
    members_of (set ss k t) qs ≡ put_member k (member_of t (get_or qs k [])) (members_of ss qs)
members_put [] qs k t e lt = absurd (omega arith)
members_put (s ∷ ss) [] k t e lt = cc
members_put (s ∷ ss) (q ∷ qs) zero t e lt = refl
members_put (s ∷ ss) (q ∷ qs) (suc k) t e lt = ap (λ ms. member_of s q ∷ ms) (members_put ss qs k t (omega (arith, e)) (omega (arith, lt)))

pub members_turn : (ss : List Sender) (qs : List (List SiteFeed)) (k : ℕ) (t : Sender) (feeds : List SiteFeed) → length qs ≡ length ss → k < length ss →
    members_of (set ss k t) (set qs k feeds) ≡ put_member k (member_of t feeds) (members_of ss qs)
members_turn [] qs k t feeds e lt = absurd (omega arith)
members_turn (s ∷ ss) [] k t feeds e lt = cc
members_turn (s ∷ ss) (q ∷ qs) zero t feeds e lt = refl
members_turn (s ∷ ss) (q ∷ qs) (suc k) t feeds e lt = ap (λ ms. member_of s q ∷ ms) (members_turn ss qs k t feeds (omega (arith, e)) (omega (arith, lt)))

-- ---- every queue fed

pub members_fed : (sender k : ℕ) (entries : List Parcel) (ss : List Sender) (qs : List (List SiteFeed)) →
    members_of ss (all_queued sender k entries qs) ≡ all_fed sender k entries (members_of ss qs)
members_fed sender k entries [] qs = refl
members_fed sender k entries (s ∷ ss) [] = refl
members_fed sender k entries (s ∷ ss) (q ∷ qs) = ap (λ ms. member_of s (q ++ feed_for sender k entries) ∷ ms) (members_fed sender (suc k) entries ss qs)

pub queued_count : (sender k : ℕ) (entries : List Parcel) (qs : List (List SiteFeed)) → length (all_queued sender k entries qs) ≡ length qs
queued_count sender k entries [] = refl
queued_count sender k entries (q ∷ qs) = ap (λ n. suc n) (queued_count sender (suc k) entries qs)

-- ---- numbers

pub numbered_at : (from : ℕ) (ss : List Sender) (k : ℕ) (m : Sender) → AreNumbered from ss → k < length ss → m ≡ get_or ss k m → m.number ≡ from + k
numbered_at from [] k m all lt is = absurd (omega arith)
numbered_at from (s ∷ ss) zero m all lt is = let n = ap (λ (x : Sender). x.number) is in let e = all.0 in omega (arith, n, e)
numbered_at from (s ∷ ss) (suc k) m all lt is = let n = numbered_at (suc from) ss k m all.1 (omega (arith, lt)) is in omega (arith, n)

pub numbered_put : (from : ℕ) (ss : List Sender) (k : ℕ) (m t : Sender) → AreNumbered from ss → m ≡ get_or ss k m → t.number ≡ m.number → AreNumbered from (set ss k t)
numbered_put from [] k m t all is same = tt
numbered_put from (s ∷ ss) zero m t all is same = (same ∙ (ap (λ (x : Sender). x.number) is ∙ all.0), all.1)
numbered_put from (s ∷ ss) (suc k) m t all is same = (all.0, numbered_put (suc from) ss k m t all.1 is same)

-- ---- as they begin

pub begun_members : (from count : ℕ) (site : Site) → members_of (first_senders from count site) (replicate count []) ≡ replicate count (record { site = site; submissions = []; feeds = [] })
begun_members from zero site = refl
begun_members from (suc count) site = ap (λ ms. record { site = site; submissions = []; feeds = [] } ∷ ms) (begun_members (suc from) count site)

pub begun_numbered : (from count : ℕ) (site : Site) → AreNumbered from (first_senders from count site)
begun_numbered from zero site = tt
begun_numbered from (suc count) site = (refl, begun_numbered (suc from) count site)

pub begun_count : (from count : ℕ) (site : Site) → length (first_senders from count site) ≡ count
begun_count from zero site = refl
begun_count from (suc count) site = ap (λ n. suc n) (begun_count (suc from) count site)

pub begun_next : (from count : ℕ) (site : Site) → first_senders from (suc count) site ≡ first_senders from count site ++ record { number = from + count; site = site; submissions = [] } ∷ []
begun_next from zero site = ap (λ n. record { number = n; site = site; submissions = [] } ∷ []) (omega arith)
begun_next from (suc count) site =
    ap (λ ss. record { number = from; site = site; submissions = [] } ∷ ss)
    (begun_next (suc from) count site ∙ ap (λ n. first_senders (suc from) count site ++ record { number = n; site = site; submissions = [] } ∷ []) (omega arith))
