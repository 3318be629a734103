-- The invariant of sites and server together is kept by each event.
use Rattle.std.proofs.Common.{◌≡◌, ℕ, zero, suc, List, [], ◌∷◌, ◌++◌, slice_get, Bool, Option, Some, None, Result, Ok, Err, ◌<◌, refl, sym, ap, ◌∙◌, subst}
use Rattle.model_items.specs.declared.plain_item.PlainItem.{PlainItem}
use Rattle.model_change.specs.Replay.{AllRun, flattened}
use Rattle.model_change.specs.Transaction.{Transaction}
use Rattle.model_edit.specs.declared.selection.Selection.{Selection}
use Rattle.model_site.specs.Entries.{Entry, Hints, Parcel, parcels}
use Rattle.model_site.specs.Events.{Perform, Redo, Revoke, Select, Send, Take, Tell, Undo, after_turn, at_member, happens, with_sent, with_site, with_site_of}
use Rattle.model_site.specs.Live.{RevokeCause, revocation}
use Rattle.model_site.specs.Session.{Ack, SiteFeed, Foreign, Member, Session, put_member, take_first, take_next, with_member}
use Rattle.model_site.specs.Site.{Site, Submission, hinted_entries, init_and_last, with_undone, redo, redo_first, revoke_by, revoke_entry, send, undo, undo_last, with_entry, with_entry_against, with_selection, with_told}
use Rattle.model_site.specs.Causes.{RedoCause, SendCause, UndoCause}
use Rattle.model_site_law.specs.Holds.{Holds, ground}
use Rattle.model_site_law.specs.MayHappen.{MayHappen}
use Rattle.model_site_law.specs.Protocol.{Answered, AtRest, Every, InStep, MemberHolds, SessionHolds, Submitted, Turn, Waits}
use Rattle.model_site_law.specs.Sound.{Sound}
use Rattle.model_site_law.proofs.MemberLemmas.{ack_holds, foreign_feed_holds, send_holds}
use Rattle.model_site_law.proofs.ReplayLemmas.{AllRun-parts, flattened-append, sound_after}
use Rattle.model_site_law.proofs.SiteLemmas.{edit_holds, redo_holds, revoke_holds, undo_holds, with_redone}

-- ---- members by their numbers

pub every_get : (P : Member → Type 0) (ms : List Member) (k : ℕ) (m : Member) → Every P ms → slice_get ms k ≡ Some m → P m
every_get P [] k m all h = cc
every_get P (n ∷ ms) zero m all h = let e : n ≡ m = cc in subst P e all.0
every_get P (n ∷ ms) (suc k) m all h = every_get P ms k m all.1 h

pub every_put : (P : Member → Type 0) (ms : List Member) (k : ℕ) (m : Member) → Every P ms → P m → Every P (put_member k m ms)
every_put P [] k m all p = tt
every_put P (n ∷ ms) zero m all p = (p, all.1)
every_put P (n ∷ ms) (suc k) m all p = (all.0, every_put P ms k m all.1 p)

-- ---- a site's events

same_site : (base : List PlainItem) (committed rest : List Parcel) (m : Member) (site : Site) → site.in_flight ≡ m.site.in_flight → site.sent ≡ m.site.sent →
    Turn base committed rest m → Turn base committed rest (record m { site = site })
same_site base committed rest m site f e (AtRest a b c n) = AtRest (f ∙ a) b (ap parcels e ∙ c) n
same_site base committed rest m site f e (Submitted k s a b n w) = Submitted k s (f ∙ a) b n (subst (λ es. Waits base committed rest (parcels es) s) (sym e) w)
same_site base committed rest m site f e (Answered k a b n) = Answered k (f ∙ a) b n

-- the site changes, but not what it has sent
with_same : (base : List PlainItem) (committed : List Parcel) (m : Member) (site : Site) → (h : MemberHolds base committed m) → Holds base h.before site →
    site.in_flight ≡ m.site.in_flight → site.sent ≡ m.site.sent → MemberHolds base committed (record m { site = site })
with_same base committed m site h s f e = record {
  before = h.before;
  rest = h.rest;
  split = h.split;
  site = s;
  in_step = subst (λ es. InStep h.rest (parcels es) m.feeds) (sym e) h.in_step;
  turn = same_site base committed h.rest m site f e h.turn;
}

put_holds : (w : Session) (k : ℕ) (m : Member) → SessionHolds w → MemberHolds w.base.items w.committed m → SessionHolds (with_member k m w)
put_holds w k m h p = record { sound = h.sound; committed = h.committed; members = every_put _ w.members k m h.members p }

-- what a site has seen runs from the base
pub seen_runs : (base : List PlainItem) (committed : List Parcel) (m : Member) → AllRun (flattened committed) base → (h : MemberHolds base committed m) → AllRun (flattened h.before) base
seen_runs base committed m runs h =
    (AllRun-parts (flattened h.before) (flattened h.rest) base
    (subst (λ us. AllRun us base) (ap flattened (sym h.split) ∙ flattened-append h.before h.rest) runs)).0

pub seen_sound : (base : List PlainItem) (committed : List Parcel) (m : Member) → Sound base → AllRun (flattened committed) base → (h : MemberHolds base committed m) → Sound (ground base h.before)
seen_sound base committed m sound runs h =
    sound_after (flattened h.before) base sound (seen_runs base committed m runs h)

undo_keeps : (s next : Site) → undo s ≡ Ok next → (next.in_flight ≡ s.in_flight) × (next.sent ≡ s.sent)
undo_keeps s next done = by_last s.unsent done
  where
    by_last : (es : List Entry) → undo_last es s ≡ Ok next → (next.in_flight ≡ s.in_flight) × (next.sent ≡ s.sent)
    by_last [] done = cc
    by_last (x ∷ es) done =
        let p = init_and_last x es in
        let e : with_undone p.1 p.0 s ≡ next = cc in
        (sym (ap (λ (t : Site). t.in_flight) e), sym (ap (λ (t : Site). t.sent) e))

redo_keeps : (s next : Site) → redo s ≡ Ok next → (next.in_flight ≡ s.in_flight) × (next.sent ≡ s.sent)
redo_keeps s next done = by_first s.undone done
  where
    by_first : (us : List Parcel) → redo_first us s ≡ Ok next → (next.in_flight ≡ s.in_flight) × (next.sent ≡ s.sent)
    by_first [] done = cc
    by_first (ts ∷ us) done =
        let e : with_redone ts us s ≡ next = cc in
        (sym (ap (λ (t : Site). t.in_flight) e), sym (ap (λ (t : Site). t.sent) e))

pub edit_in : (w : Session) (k : ℕ) (ts : List Transaction) → SessionHolds w → MayHappen w (Perform k ts) → SessionHolds (happens w (Perform k ts))
edit_in w k ts h may = by_site (slice_get w.members k) refl
  where
    by_site : (o : Option Member) → slice_get w.members k ≡ o → SessionHolds (at_member w o (λ m. with_site k m (with_entry ts m.site) w))
    by_site None e = h
    by_site (Some m) e =
        let p = every_get _ w.members k m h.members e in
        put_holds w k (record m { site = with_entry ts m.site }) h
        (with_same w.base.items w.committed m (with_entry ts m.site) p (edit_holds w.base.items p.before None ts m.site p.site (may m e)) refl refl)

pub select_in : (w : Session) (k : ℕ) (s : Selection) → SessionHolds w → SessionHolds (happens w (Select k s))
select_in w k s h = by_site (slice_get w.members k) refl
  where
    by_site : (o : Option Member) → slice_get w.members k ≡ o →
        SessionHolds (at_member w o (λ m. with_site k m (with_selection s m.site) w))
    by_site None e = h
    by_site (Some m) e =
        let p = every_get _ w.members k m h.members e in
        let q = p.site in
        let site = with_selection s m.site in
        put_holds w k (record m { site = site }) h
        (with_same w.base.items w.committed m site p (record { seen = q.seen; list = q.list; runs = q.runs; undone = q.undone; chain = q.chain; held = q.held }) refl refl)

pub tell_in : (w : Session) (k : ℕ) → SessionHolds w → SessionHolds (happens w (Tell k))
tell_in w k h = by_site (slice_get w.members k) refl
  where
    by_site : (o : Option Member) → slice_get w.members k ≡ o →
        SessionHolds (at_member w o (λ m. with_site k m (with_told m.site) w))
    by_site None e = h
    by_site (Some m) e =
        let p = every_get _ w.members k m h.members e in
        let q = p.site in
        let site = with_told m.site in
        put_holds w k (record m { site = site }) h
        (with_same w.base.items w.committed m site p (record { seen = q.seen; list = q.list; runs = q.runs; undone = q.undone; chain = q.chain; held = q.held }) refl refl)

pub undo_in : (w : Session) (k : ℕ) → SessionHolds w → SessionHolds (happens w (Undo k))
undo_in w k h = by_site (slice_get w.members k) refl
  where
    by_result : (m : Member) → MemberHolds w.base.items w.committed m → (r : Result Site UndoCause) → undo m.site ≡ r → SessionHolds (with_site_of k m r w)
    by_result m p (Err f) e = h
    by_result m p (Ok site) e =
        let same = undo_keeps m.site site e in
        put_holds w k (record m { site = site }) h (with_same w.base.items w.committed m site p
        (undo_holds w.base.items p.before m.site site (seen_sound w.base.items w.committed m h.sound h.committed p) p.site e) same.0 same.1)

    by_site : (o : Option Member) → slice_get w.members k ≡ o → SessionHolds (at_member w o (λ m. with_site_of k m (undo m.site) w))
    by_site None e = h
    by_site (Some m) e = by_result m (every_get _ w.members k m h.members e) (undo m.site) refl

pub redo_in : (w : Session) (k : ℕ) → SessionHolds w → SessionHolds (happens w (Redo k))
redo_in w k h = by_site (slice_get w.members k) refl
  where
    by_result : (m : Member) → MemberHolds w.base.items w.committed m → (r : Result Site RedoCause) → redo m.site ≡ r → SessionHolds (with_site_of k m r w)
    by_result m p (Err f) e = h
    by_result m p (Ok site) e =
        let same = redo_keeps m.site site e in
        put_holds w k (record m { site = site }) h (with_same w.base.items w.committed m site p (redo_holds w.base.items p.before m.site site p.site e) same.0 same.1)

    by_site : (o : Option Member) → slice_get w.members k ≡ o → SessionHolds (at_member w o (λ m. with_site_of k m (redo m.site) w))
    by_site None e = h
    by_site (Some m) e = by_result m (every_get _ w.members k m h.members e) (redo m.site) refl

revoke_keeps : (committed : List Parcel) (hints : Hints) (live : Bool) (i : ℕ) (s next : Site) → revoke_entry committed hints live i s ≡ Ok next →
    (next.in_flight ≡ s.in_flight) × (next.sent ≡ s.sent)
revoke_keeps committed hints live i s next done = by_result (revocation live (hinted_entries committed hints s) i) done
  where
    by_result : (r : Result (List Transaction) RevokeCause) → revoke_by i r s ≡ Ok next → (next.in_flight ≡ s.in_flight) × (next.sent ≡ s.sent)
    by_result (Err cause) done = cc
    by_result (Ok back) done =
        let e : with_entry_against (Some i) back s ≡ next = cc in
        (sym (ap (λ (t : Site). t.in_flight) e), sym (ap (λ (t : Site). t.sent) e))

pub revoke_in : (w : Session) (k i : ℕ) (live : Bool) → SessionHolds w → MayHappen w (Revoke k i live) → SessionHolds (happens w (Revoke k i live))
revoke_in w k i live h may = by_site (slice_get w.members k) refl
  where
    by_result : (m : Member) → MemberHolds w.base.items w.committed m → i < m.site.seen → (r : Result Site RevokeCause) → revoke_entry w.committed w.hints live i m.site ≡ r →
        SessionHolds (with_site_of k m r w)
    by_result m p below (Err cause) e = h
    by_result m p below (Ok site) e =
        let same = revoke_keeps w.committed w.hints live i m.site site e in
        put_holds w k (record m { site = site }) h (with_same w.base.items w.committed m site p
        (revoke_holds w.base.items p.before p.rest w.committed w.hints live i m.site site h.sound (seen_runs w.base.items w.committed m h.committed p) p.split p.site below e) same.0 same.1)

    by_site : (o : Option Member) → slice_get w.members k ≡ o → SessionHolds (at_member w o (λ m. with_site_of k m (revoke_entry w.committed w.hints live i m.site) w))
    by_site None e = h
    by_site (Some m) e = by_result m (every_get _ w.members k m h.members e) (may m e) (revoke_entry w.committed w.hints live i m.site) refl

pub send_in : (w : Session) (k : ℕ) → SessionHolds w → SessionHolds (happens w (Send k))
send_in w k h = by_site (slice_get w.members k) refl
  where
    by_result : (m : Member) → MemberHolds w.base.items w.committed m → (r : Result (Site × Submission) SendCause) → send m.site ≡ r → SessionHolds (with_sent k m r w)
    by_result m p (Err f) e = h
    by_result m p (Ok r) e = put_holds w k (record { site = r.0; submissions = m.submissions ++ r.1 ∷ []; feeds = m.feeds }) h (send_holds w.base.items w.committed m r e p)

    by_site : (o : Option Member) → slice_get w.members k ≡ o → SessionHolds (at_member w o (λ m. with_sent k m (send m.site) w))
    by_site None e = h
    by_site (Some m) e = by_result m (every_get _ w.members k m h.members e) (send m.site) refl

pub take_in : (w : Session) (k : ℕ) → SessionHolds w → SessionHolds (happens w (Take k))
take_in w k h = by_site (slice_get w.members k) refl
  where
    by_feed : (m : Member) → MemberHolds w.base.items w.committed m → (fs : List SiteFeed) → m.feeds ≡ fs → SessionHolds (after_turn w (take_first k m fs w))
    by_feed m p [] e = h
    by_feed m p (Foreign ps ∷ fs) e = put_holds w k _ h (foreign_feed_holds w.base.items w.committed ps fs m h.sound h.committed e p)
    by_feed m p (Ack n ∷ fs) e = put_holds w k _ h (ack_holds w.base.items w.committed n fs m e p)

    by_site : (o : Option Member) → slice_get w.members k ≡ o → SessionHolds (at_member w o (λ m. after_turn w (take_next k m w)))
    by_site None e = h
    by_site (Some m) e = by_feed m (every_get _ w.members k m h.members e) m.feeds refl
