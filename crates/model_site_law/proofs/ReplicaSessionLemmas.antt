-- A property that each change of a replica and each cut of its store keeps, holds of every site,
-- whatever happened.
use Rattle.std.proofs.Common.{◌≡◌, ◌<◌, ℕ, zero, suc, List, [], ◌∷◌, ◌++◌, replicate, slice_get, Option, Some, None, Result, Ok, Err, refl}
use Rattle.model_change.specs.Transaction.{Transaction}
use Rattle.model_site.specs.Events.{Event, Perform, Redo, Revoke, Select, Send, Serve, Take, Tell, Undo, after_turn, at_member, happens, run, with_sent, with_site, with_site_of}
use Rattle.model_site.specs.Live.{RevokeCause, revocation}
use Rattle.model_site.specs.Replica.{Replica}
use Rattle.model_site.specs.Session.{Ack, SiteFeed, Foreign, Member, Session, joining, put_member, serve_first, serve_next, started, take_first, take_next}
use Rattle.model_site.specs.Site.{Site, Submission, redo, revoke_by, revoke_entry, send, undo, with_entry, with_selection, with_told, with_entry_against, hinted_entries}
use Rattle.model_site.specs.Take.{take_ack, take_foreign}
use Rattle.model_site.specs.Causes.{RedoCause, SendCause, UndoCause}
use Rattle.model_site_law.specs.MayHappen.{AllMayHappen, MayHappen}
use Rattle.model_site_law.specs.Protocol.{Every, MemberHolds, SessionHolds}
use Rattle.model_site_law.specs.Sound.{Opens}
use Rattle.model_site_law.proofs.MemberLemmas.{feeds_run}
use Rattle.model_site_law.proofs.ReplicaLemmas.{AllSelectKeep, IsKept, OfMember, SelectKeeps, fed_keep, performed_keep, redo_keep, send_keep, take_foreign_keep, undo_keep}
use Rattle.model_site_law.proofs.ServeLemmas.{event_holds, start_holds}
use Rattle.model_site_law.proofs.SessionLemmas.{every_get, every_put, seen_runs, seen_sound}
use Rattle.model_site_law.proofs.SiteLemmas.{revoked_may}

module _ (P : Replica → Type 0) (is_kept : IsKept P) (w : Session) (h : SessionHolds w) (all : Every (OfMember P) w.members) where
  abbrev Kept : Session → Type 0
  Kept v = Every (OfMember P) v.members

  here : (k : ℕ) (m : Member) → slice_get w.members k ≡ Some m → P m.site.replica
  here k m e = every_get (OfMember P) w.members k m all e

  holds_here : (k : ℕ) (m : Member) → slice_get w.members k ≡ Some m → MemberHolds w.base.items w.committed m
  holds_here k m e = every_get (MemberHolds w.base.items w.committed) w.members k m h.members e

  put : (k : ℕ) (m : Member) → P m.site.replica → Every (OfMember P) (put_member k m w.members)
  put k m p = every_put (OfMember P) w.members k m all p

  event_keeps : (e : Event) → MayHappen w e → SelectKeeps P w e → Kept (happens w e)
  event_keeps (Perform k ts) may keeps = by_site (slice_get w.members k) refl
    where
      by_site : (o : Option Member) → slice_get w.members k ≡ o → Kept (at_member w o (λ m. with_site k m (with_entry ts m.site) w))
      by_site None e = all
      by_site (Some m) e = put k (record m { site = with_entry ts m.site }) (performed_keep P is_kept ts m.site.replica (may m e) (here k m e))
  event_keeps (Select k s) may keeps = by_site (slice_get w.members k) refl
    where
      by_site : (o : Option Member) → slice_get w.members k ≡ o → Kept (at_member w o (λ m. with_site k m (with_selection s m.site) w))
      by_site None e = all
      by_site (Some m) e = put k (record m { site = with_selection s m.site }) (keeps m e (here k m e))
  event_keeps (Tell k) may keeps = by_site (slice_get w.members k) refl
    where
      by_site : (o : Option Member) → slice_get w.members k ≡ o → Kept (at_member w o (λ m. with_site k m (with_told m.site) w))
      by_site None e = all
      by_site (Some m) e = put k (record m { site = with_told m.site }) (here k m e)
  event_keeps (Undo k) may keeps = by_site (slice_get w.members k) refl
    where
      by_result : (m : Member) → slice_get w.members k ≡ Some m → (r : Result Site UndoCause) → undo m.site ≡ r → Kept (with_site_of k m r w)
      by_result m e (Err f) d = all
      by_result m e (Ok site) d =
          let p = holds_here k m e in
          put k (record m { site = site })
          (undo_keep P is_kept w.base.items p.before m.site site (seen_sound w.base.items w.committed m h.sound h.committed p) p.site d (here k m e))

      by_site : (o : Option Member) → slice_get w.members k ≡ o → Kept (at_member w o (λ m. with_site_of k m (undo m.site) w))
      by_site None e = all
      by_site (Some m) e = by_result m e (undo m.site) refl
  event_keeps (Redo k) may keeps = by_site (slice_get w.members k) refl
    where
      by_result : (m : Member) → slice_get w.members k ≡ Some m → (r : Result Site RedoCause) → redo m.site ≡ r → Kept (with_site_of k m r w)
      by_result m e (Err f) d = all
      by_result m e (Ok site) d =
          let p = holds_here k m e in
          put k (record m { site = site }) (redo_keep P is_kept w.base.items p.before m.site site p.site d (here k m e))

      by_site : (o : Option Member) → slice_get w.members k ≡ o → Kept (at_member w o (λ m. with_site_of k m (redo m.site) w))
      by_site None e = all
      by_site (Some m) e = by_result m e (redo m.site) refl
  event_keeps (Revoke k i live) may keeps = by_site (slice_get w.members k) refl
    where
      by_result : (m : Member) → slice_get w.members k ≡ Some m → i < m.site.seen → (r : Result (List Transaction) RevokeCause) →
          revocation live (hinted_entries w.committed w.hints m.site) i ≡ r →
          Kept (with_site_of k m (revoke_by i r m.site) w)
      by_result m e below (Err cause) d = all
      by_result m e below (Ok back) d =
          let p = holds_here k m e in
          put k (record m { site = with_entry_against (Some i) back m.site })
          (performed_keep P is_kept back m.site.replica
          (revoked_may w.base.items p.before p.rest w.committed w.hints live i m.site back h.sound (seen_runs w.base.items w.committed m h.committed p) p.split p.site below d) (here k m e))

      by_site : (o : Option Member) → slice_get w.members k ≡ o → Kept (at_member w o (λ m. with_site_of k m (revoke_entry w.committed w.hints live i m.site) w))
      by_site None e = all
      by_site (Some m) e = by_result m e (may m e) (revocation live (hinted_entries w.committed w.hints m.site) i) refl
  event_keeps (Send k) may keeps = by_site (slice_get w.members k) refl
    where
      by_result : (m : Member) → slice_get w.members k ≡ Some m → (r : Result (Site × Submission) SendCause) → send m.site ≡ r → Kept (with_sent k m r w)
      by_result m e (Err f) d = all
      by_result m e (Ok r) d =
          put k (record { site = r.0; submissions = m.submissions ++ r.1 ∷ []; feeds = m.feeds }) (send_keep P is_kept m.site r d (here k m e))

      by_site : (o : Option Member) → slice_get w.members k ≡ o → Kept (at_member w o (λ m. with_sent k m (send m.site) w))
      by_site None e = all
      by_site (Some m) e = by_result m e (send m.site) refl
  event_keeps (Serve k) may keeps = by_site (slice_get w.members k) refl
    where
      by_queue : (m : Member) → slice_get w.members k ≡ Some m → (ss : List Submission) → Kept (after_turn w (serve_first k m ss w))
      by_queue m e [] = all
      by_queue m e (s ∷ later) = fed_keep P k 0 _ _ (put k (record m { submissions = later }) (here k m e))

      by_site : (o : Option Member) → slice_get w.members k ≡ o → Kept (at_member w o (λ m. after_turn w (serve_next k m w)))
      by_site None e = all
      by_site (Some m) e = by_queue m e m.submissions
  event_keeps (Take k) may keeps = by_site (slice_get w.members k) refl
    where
      by_feed : (m : Member) → slice_get w.members k ≡ Some m → (fs : List SiteFeed) → m.feeds ≡ fs → Kept (after_turn w (take_first k m fs w))
      by_feed m e [] f = all
      by_feed m e (Foreign ps ∷ fs) f =
          let p = holds_here k m e in
          let fed = feeds_run w.base.items w.committed ps fs m h.sound h.committed f p in
          put k (record m { site = take_foreign ps m.site; feeds = fs }) (take_foreign_keep P is_kept w.base.items p.before ps m.site fed.sound fed.runs p.site (here k m e))
      by_feed m e (Ack n ∷ fs) f = put k (record m { site = take_ack m.site; feeds = fs }) (here k m e)

      by_site : (o : Option Member) → slice_get w.members k ≡ o → Kept (at_member w o (λ m. after_turn w (take_next k m w)))
      by_site None e = all
      by_site (Some m) e = by_feed m e m.feeds refl

pub run_keeps : (P : Replica → Type 0) (is_kept : IsKept P) (es : List Event) (w : Session) → SessionHolds w → Every (OfMember P) w.members → AllMayHappen w es → AllSelectKeep P w es →
    Every (OfMember P) (run w es).members
run_keeps P is_kept [] w h all may keeps = all
run_keeps P is_kept (e ∷ es) w h all may keeps =
    run_keeps P is_kept es (happens w e) (event_holds w e h may.0) (event_keeps P is_kept w h all e may.0 keeps.0) may.1 keeps.1

-- from a base of which it holds
pub always_kept : (P : Replica → Type 0) (is_kept : IsKept P) (base : Replica) (sites : ℕ) (events : List Event) (k : ℕ) (m : Member) → Opens base → P base →
    AllMayHappen (started base sites) events → AllSelectKeep P (started base sites) events → slice_get (run (started base sites) events).members k ≡ Some m → P m.site.replica
always_kept P is_kept base sites events k m opens first may keeps e =
    every_get (OfMember P) (run (started base sites) events).members k m
    (run_keeps P is_kept events (started base sites) (start_holds base sites opens.sound opens.stored) (all sites) may keeps) e
  where
    all : (n : ℕ) → Every (OfMember P) (replicate n (joining base))
    all zero = tt
    all (suc n) = (first, all n)
