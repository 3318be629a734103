-- Less waits after each turn; and where nothing waits, sites have seen all that is committed.
use Rattle.std.proofs.Common.{◌≡◌, ◌≤◌, ◌<◌, ℕ, zero, suc, ◌+◌, Bool, true, false, ◌==◌, if◌then◌else◌, List, [], ◌∷◌, ◌++◌, length, slice_get, Some, sym, ap, ◌∙◌, subst, append-nil, arith}
use Rattle.std.proofs.lemmas.List.{length-append}
use Rattle.model_items.specs.declared.plain_item.PlainItem.{PlainItem}
use Rattle.model_site.specs.Entries.{Parcel, parcels}
use Rattle.model_site.specs.Events.{after_turn, at_member, run}
use Rattle.model_site.specs.Session.{Ack, SiteFeed, Member, Session, accepted_of, all_fed, feed_for, foreign_feed, put_member, serve_first, serve_next, site_after, started, take_first, take_next}
use Rattle.model_site_law.specs.Protocol.{InStep, MemberHolds}
use Rattle.model_site_law.specs.QuietLaws.{QuietSitesMeet, ServingLowers, TakingLowers, counted, waiting, waiting_among, waiting_at}
use Rattle.model_site_law.proofs.CountLemmas.{length-fed, length-put}
use Rattle.model_site_law.proofs.LawLemmas.{at_end, sites_meet}

-- ---- feeds

few_feeds : (sender k : ℕ) (ps : List Parcel) → length (feed_for sender k ps) ≤ 1
few_feeds sender k ps = by_site (k == sender) ps
  where
    by_site : (b : Bool) (ps : List Parcel) → length (if b then Ack (length ps) ∷ [] else foreign_feed ps) ≤ 1
    by_site true ps = omega arith
    by_site false [] = omega arith
    by_site false (p ∷ ps) = omega arith

fed_waits : (n sender k : ℕ) (ps : List Parcel) (ms : List Member) → waiting_among n (all_fed sender k ps ms) ≤ waiting_among n ms + length ms
fed_waits n sender k ps [] = omega arith
fed_waits n sender k ps (m ∷ ms) =
    let rest = fed_waits n sender (suc k) ps ms in
    let few = few_feeds sender k ps in
    let sum = length-append m.feeds (feed_for sender k ps) in
    omega arith

-- another member in the place of one
put_waits : (n k : ℕ) (old new : Member) (ms : List Member) → slice_get ms k ≡ Some old →
    waiting_among n (put_member k new ms) + waiting_at n old ≡ waiting_among n ms + waiting_at n new
put_waits n k old new [] h = cc
put_waits n zero old new (m ∷ ms) h =
    let same : m ≡ old = cc in
    let at = ap (waiting_at n) same in
    omega arith
put_waits n (suc k) old new (m ∷ ms) h = let rest = put_waits n k old new ms h in omega arith

-- ---- turns

pub serving_lowers : ServingLowers
serving_lowers w k m s later there first =
    subst (λ (v : Session). waiting v < waiting w) (sym (ap (λ o. at_member w o (λ n. after_turn w (serve_next k n w))) there ∙ ap (λ ss. after_turn w (serve_first k m ss w)) first)) lower
  where
    n : ℕ
    n = length w.members

    next : Member
    next = record m { submissions = later }

    served : Session
    served = after_turn w (serve_first k m (s ∷ later) w)

    lower : waiting served < waiting w
    lower =
        let put = put_waits n k m next w.members there in
        let as_many = length-put k next w.members in
        let fed = fed_waits n k 0 (accepted_of w.committed s).kept (put_member k next w.members) in
        let still = length-fed k 0 (accepted_of w.committed s).kept (put_member k next w.members) ∙ as_many in
        let one : counted (suc n) m.submissions ≡ suc n + counted (suc n) later = ap (counted (suc n)) first in
        subst (λ c. waiting_among c served.members < waiting w) (sym still) (omega arith)

pub taking_lowers : TakingLowers
taking_lowers w k m f later there first =
    subst (λ (v : Session). waiting v < waiting w) (sym (ap (λ o. at_member w o (λ n. after_turn w (take_next k n w))) there ∙ ap (λ fs. after_turn w (take_first k m fs w)) first)) lower
  where
    n : ℕ
    n = length w.members

    next : Member
    next = record m { site = site_after f m.site; feeds = later }

    lower : waiting (record w { members = put_member k next w.members }) < waiting w
    lower =
        let put = put_waits n k m next w.members there in
        let as_many = length-put k next w.members in
        let one : length m.feeds ≡ suc (length later) = ap (λ (fs : List SiteFeed). length fs) first in
        subst (λ c. waiting_among c (put_member k next w.members) < waiting w) (sym as_many) (omega arith)

-- ---- where no feed waits

-- all that is committed was seen
seen_all : (base : List PlainItem) (committed : List Parcel) (m : Member) → MemberHolds base committed m → m.feeds ≡ [] → m.site.seen ≡ length committed
seen_all base committed m h none =
    let rest : h.rest ≡ [] = subst (InStep h.rest (parcels m.site.sent)) none h.in_step in
    sym h.site.seen ∙ ap (λ (ps : List Parcel). length ps) (sym (append-nil h.before) ∙ ap (λ r. h.before ++ r) (sym rest) ∙ h.split)

pub quiet_sites_meet : QuietSitesMeet
quiet_sites_meet base sites events k l m n opens may there other none none' pending pending' =
    let w = run (started base sites) events in
    let here = (at_end base sites events k m opens may there).member in
    let there_too = (at_end base sites events l n opens may other).member in
    sites_meet base sites events k l m n opens may there other
    (seen_all base.items w.committed m here none ∙ sym (seen_all base.items w.committed n there_too none')) pending pending'
