-- Over every list of events: a site that has taken nothing and has nothing pending has its first
-- list and store.
use Rattle.std.proofs.Common.{◌≡◌, ℕ, zero, suc, ◌+◌, ◌≤◌, List, [], ◌∷◌, ◌++◌, length, take, replicate, slice_get, Option, Some, None, Result, Ok, Err, ◌<◌, refl, sym, ap, ◌∙◌, subst, arith}
use Rattle.std.proofs.lemmas.List.{append_assoc, append-nil}
use Rattle.ve_base.specs.declared.value.Value.{Value}
use Rattle.model_items.specs.declared.plain_item.PlainItem.{PlainItem}
use Rattle.model_change.specs.Replay.{AllRun, flattened, replay}
use Rattle.model_change.specs.Store.{cited}
use Rattle.model_change.specs.Transaction.{Transaction}
use Rattle.model_site.specs.Entries.{Entry, Parcel, entry_of, parcels, reverted, hints, entry_against}
use Rattle.model_site.specs.Events.{Event, Perform, Redo, Revoke, Select, Send, Serve, Take, Tell, Undo, after_turn, at_member, happens, run, with_sent, with_site, with_site_of}
use Rattle.model_site.specs.Live.{RevokeCause, revocation}
use Rattle.model_site.specs.Replica.{Replica, all_filled, all_performed}
use Rattle.model_site.specs.Session.{Ack, SiteFeed, Foreign, Member, Session, all_fed, joining, put_member, serve_first, serve_next, started, take_first, take_next}
use Rattle.model_site.specs.Site.{Site, Submission, init_and_last, with_undone, pending, redo, redo_first, revoke_by, revoke_entry, send, send_unless, undo, undo_last, with_entry, with_selection, with_told, with_entry_against, first_hint, hinted_entries}
use Rattle.model_site.specs.Take.{take_ack, take_entry, take_foreign}
use Rattle.model_site.specs.Causes.{RedoCause, SendCause, UndoCause}
use Rattle.model_site_law.specs.Chain.{Fresh, Numbered, store_after_all}
use Rattle.model_site_law.specs.Holds.{ground}
use Rattle.model_site_law.specs.Laws.{UndoneAtOnce, UndoneIsFirst}
use Rattle.model_site_law.specs.MayHappen.{AllMayHappen, MayHappen}
use Rattle.model_site_law.specs.Protocol.{Every, MemberHolds, SessionHolds}
use Rattle.model_site_law.specs.Sound.{AllIn, AllMayRun, Sound}
use Rattle.model_site_law.proofs.FreshLemmas.{store_performed, stored-append, stored-filled, undone_store}
use Rattle.model_site_law.proofs.LawLemmas.{at_end, base_stays, list_is_replay, list_is_sound}
use Rattle.model_site_law.proofs.PerformLemmas.{all_performed_held}
use Rattle.model_site_law.proofs.ReplayLemmas.{AllMayRun_from_runs, AllRun-filled, AllRun-parts, replay-append, replay-filled, sound_after}
use Rattle.model_site_law.proofs.RevertLemmas.{items_performed, items_reverted}
use Rattle.model_site_law.proofs.ServeLemmas.{event_holds, start_holds}
use Rattle.model_site_law.proofs.SessionLemmas.{every_get, every_put}
use Rattle.model_site_law.proofs.SiteLemmas.{parted_is, pending_more, with_redone}

-- ---- numbers

numbered_more : (items : List PlainItem) (S : List Value) (es : List Entry) (e : Entry) → Numbered items S es →
    e.store_before ≡ length (store_after_all (flattened (parcels es)) items S) →
    e.store_after ≡ length (store_after_all e.txs (replay (flattened (parcels es)) items) (store_after_all (flattened (parcels es)) items S)) → Numbered items S (es ++ e ∷ [])
numbered_more items S [] e n b a = (b, a, tt)
numbered_more items S (x ∷ es) e n b a =
    let s = stored-append x.txs (flattened (parcels es)) items S in
    let r = replay-append x.txs (flattened (parcels es)) items in (
      n.0,
      n.1,
      numbered_more (replay x.txs items) (store_after_all x.txs items S) es e n.2 (b ∙ ap length s)
          (a ∙ ap (λ l. length (store_after_all e.txs l (store_after_all (flattened (parcels (x ∷ es))) items S))) r ∙ ap (λ T. length (store_after_all e.txs (replay (flattened (parcels es)) (replay x.txs items)) T)) s),
    )

record NumberedLast (items : List PlainItem) (S : List Value) (es : List Entry) (e : Entry) : Type 0 where
  prefix : Numbered items S es
  before : e.store_before ≡ length (store_after_all (flattened (parcels es)) items S)
  after : e.store_after ≡ length (store_after_all e.txs (replay (flattened (parcels es)) items) (store_after_all (flattened (parcels es)) items S))

numbered_last : (items : List PlainItem) (S : List Value) (es : List Entry) (e : Entry) → Numbered items S (es ++ e ∷ []) → NumberedLast items S es e
numbered_last items S [] e n = record { prefix = tt; before = n.0; after = n.1 }
numbered_last items S (x ∷ es) e n =
    let l = numbered_last (replay x.txs items) (store_after_all x.txs items S) es e n.2 in
    let s = stored-append x.txs (flattened (parcels es)) items S in
    let r = replay-append x.txs (flattened (parcels es)) items in
    record {
      prefix = (n.0, n.1, l.prefix);
      before = l.before ∙ ap length (sym s);
      after = l.after ∙ ap (λ T. length (store_after_all e.txs (replay (flattened (parcels es)) (replay x.txs items)) T)) (sym s)
          ∙ ap (λ l. length (store_after_all e.txs l (store_after_all (flattened (parcels (x ∷ es))) items S))) (sym r);
    }

-- ---- one site

module _ (base : Replica) where
  -- the site's list is the replay of its pending entries on the base
  abbrev OnBase : Site → Type 0
  OnBase s = s.replica.items ≡ replay (flattened (parcels (pending s))) base.items

  fresh_entry : (taken : Option ℕ) (ts : List Transaction) (s : Site) → OnBase s → AllMayRun ts s.replica.items → Fresh base s → Fresh base (with_entry_against taken ts s)
  fresh_entry taken ts s list may f =
      let now = s.replica.items in
      let e = entry_against taken ts s.replica in
      let old = flattened (parcels (pending s)) in
      let made : (all_performed ts s.replica).store ≡ store_after_all e.txs (replay old base.items) (store_after_all old base.items base.store) =
      store_performed ts s.replica ∙ sym (stored-filled ts now s.replica.store may)
      ∙ ap (λ l. store_after_all (all_filled ts now) l s.replica.store) list ∙ ap (store_after_all (all_filled ts now) (replay old base.items)) f.store in
      record {
        store = made ∙ sym (stored-append old e.txs base.items base.store) ∙ ap (λ us. store_after_all us base.items base.store) (sym (pending_more s.sent s.unsent e));
        numbers = subst (Numbered base.items base.store) (append_assoc s.sent s.unsent (e ∷ []))
            (numbered_more base.items base.store (pending s) e f.numbers (ap length f.store) (ap length made));
      }

  fresh_reverted : (s : Site) (unsent : List Entry) (e : Entry) (next : Site) → Sound base.items → AllIn base.store (cited base.items) → OnBase s → AllRun (flattened (parcels (pending s))) base.items →
      unsent ++ e ∷ [] ≡ s.unsent → Fresh base s → next.replica ≡ reverted e s.replica → pending next ≡ s.sent ++ unsent → Fresh base next
  fresh_reverted s unsent e next sound held list runs part f stand left =
      let old = flattened (parcels (s.sent ++ unsent)) in
      let split : flattened (parcels (pending s)) ≡ old ++ e.txs = ap (λ us. flattened (parcels (s.sent ++ us))) (sym part) ∙ pending_more s.sent unsent e in
      let parts = AllRun-parts old e.txs base.items (subst (λ us. AllRun us base.items) split runs) in
      let floor = replay old base.items in
      let first = store_after_all old base.items base.store in
      let n = numbered_last base.items base.store (s.sent ++ unsent) e
      (subst (Numbered base.items base.store) (ap (λ us. s.sent ++ us) (sym part) ∙ sym (append_assoc s.sent unsent (e ∷ []))) f.numbers) in
      let all = all_performed_held old base held in
      let floor_held : AllIn first (cited floor) =
      subst (λ l. AllIn first (cited l)) (items_performed old base) (subst (λ T. AllIn T (cited (all_performed old base).items)) (store_performed old base) all) in
      let back = undone_store e floor first s.replica (sound_after old base.items sound parts.0) parts.1 floor_held
      (list ∙ ap (λ us. replay us base.items) split ∙ replay-append old e.txs base.items)
      (f.store ∙ ap (λ us. store_after_all us base.items base.store) split ∙ stored-append old e.txs base.items base.store) n.before n.after in
      record {
        store = ap (λ (t : Replica). t.store) stand ∙ back ∙ ap (λ es. store_after_all (flattened (parcels es)) base.items base.store) (sym left);
        numbers = subst (Numbered base.items base.store) (sym left) n.prefix;
      }

  same_fresh : (s next : Site) → next.replica.store ≡ s.replica.store → pending next ≡ pending s → Fresh base s → Fresh base next
  same_fresh s next store left f = record {
    store = store ∙ f.store ∙ ap (λ es. store_after_all (flattened (parcels es)) base.items base.store) (sym left);
    numbers = subst (Numbered base.items base.store) (sym left) f.numbers;
  }

-- ---- all sites

abbrev pub IfFresh : Replica → Member → Type 0
IfFresh base m = m.site.seen ≡ 0 → Fresh base m.site

-- a site that has seen nothing stands on the base
pub record OnIt (base : Replica) (m : Member) : Type 0 where
  pub list : m.site.replica.items ≡ replay (flattened (parcels (pending m.site))) base.items
  pub runs : AllRun (flattened (parcels (pending m.site))) base.items

pub on_it : (base : Replica) (committed : List Parcel) (m : Member) → MemberHolds base.items committed m → m.site.seen ≡ 0 → OnIt base m
on_it base committed m h z =
    let e = none h.before (h.site.seen ∙ z) in
    record {
      list = h.site.list ∙ ap (λ b. replay (flattened (parcels (pending m.site))) (ground base.items b)) e;
      runs = subst (λ b. AllRun (flattened (parcels (pending m.site))) (ground base.items b)) e h.site.runs;
    }
  where
    none : (ps : List Parcel) → length ps ≡ 0 → ps ≡ []
    none [] h = refl
    none (p ∷ ps) h = absurd (omega arith)

put_fresh : (w : Session) (k : ℕ) (m : Member) → Every (IfFresh w.base) w.members → IfFresh w.base m → Every (IfFresh w.base) (put_member k m w.members)
put_fresh w k m all p = every_put (IfFresh w.base) w.members k m all p

fed_fresh : (base : Replica) (sender k : ℕ) (ps : List Parcel) (ms : List Member) → Every (IfFresh base) ms → Every (IfFresh base) (all_fed sender k ps ms)
fed_fresh base sender k ps [] all = tt
fed_fresh base sender k ps (m ∷ ms) all = (all.0, fed_fresh base sender (suc k) ps ms all.1)

seen_more : (ps : List Parcel) (s : Site) → s.seen ≤ (take_foreign ps s).seen
seen_more [] s = omega arith
seen_more (p ∷ ps) s = let a = seen_more ps (take_entry p s) in omega arith

foreign_fresh : (base : Replica) (ps : List Parcel) (s : Site) → (s.seen ≡ 0 → Fresh base s) → (take_foreign ps s).seen ≡ 0 → Fresh base (take_foreign ps s)
foreign_fresh base [] s f z = same_fresh base s (take_foreign [] s) refl refl (f z)
foreign_fresh base (p ∷ ps) s f z = let a = seen_more ps (take_entry p s) in absurd (omega arith)

ack_fresh : (base : Replica) (s : Site) → (s.seen ≡ 0 → Fresh base s) → (take_ack s).seen ≡ 0 → Fresh base (take_ack s)
ack_fresh base s f z = same_fresh base s (take_ack s) refl (ap (λ es. es ++ s.unsent) (sym (none s.sent (omega arith)))) (f (omega arith))
  where
    none : (es : List Entry) → length es ≤ 0 → es ≡ []
    none [] h = refl
    none (e ∷ es) h = absurd (omega arith)

module _ (w : Session) (h : SessionHolds w) (opens : AllIn w.base.store (cited w.base.items)) (all : Every (IfFresh w.base) w.members) where
  abbrev After : Session → Type 0
  After v = Every (IfFresh w.base) v.members

  undone_fresh : (m : Member) → MemberHolds w.base.items w.committed m → IfFresh w.base m → (next : Site) → undo m.site ≡ Ok next → next.seen ≡ 0 → Fresh w.base next
  undone_fresh m p f next done z = by_last m.site.unsent refl done
    where
      by_last : (es : List Entry) → es ≡ m.site.unsent → undo_last es m.site ≡ Ok next → Fresh w.base next
      by_last [] e done = cc
      by_last (x ∷ es) e done =
          let q = init_and_last x es in
          let new : Site = with_undone q.1 q.0 m.site in
          let same : new ≡ next = cc in
          let low : m.site.seen ≡ 0 = ap (λ (t : Site). t.seen) same ∙ z in
          let on = on_it w.base w.committed m p low in
          fresh_reverted w.base m.site q.0 q.1 next h.sound opens on.list on.runs (parted_is x es ∙ e) (f low)
          (sym (ap (λ (t : Site). t.replica) same)) (sym (ap pending same))

  redone_fresh : (m : Member) → MemberHolds w.base.items w.committed m → IfFresh w.base m → (next : Site) → redo m.site ≡ Ok next → next.seen ≡ 0 → Fresh w.base next
  redone_fresh m p f next done z = by_first m.site.undone refl done
    where
      by_first : (us : List Parcel) → us ≡ m.site.undone → redo_first us m.site ≡ Ok next → Fresh w.base next
      by_first [] e done = cc
      by_first (ts ∷ us) e done =
          let new : Site = with_redone ts us m.site in
          let same : new ≡ next = cc in
          let low : m.site.seen ≡ 0 = ap (λ (t : Site). t.seen) same ∙ z in
          let parts = AllRun-parts ts (flattened us) m.site.replica.items (subst (λ r. AllRun (flattened r) m.site.replica.items) (sym e) p.site.undone) in
          let one = fresh_entry w.base (first_hint m.site.undone_hints) ts m.site (on_it w.base w.committed m p low).list (AllMayRun_from_runs ts m.site.replica.items parts.0) (f low) in
          same_fresh w.base (with_entry_against (first_hint m.site.undone_hints) ts m.site) next (sym (ap (λ (t : Site). t.replica.store) same)) (sym (ap pending same)) one

  sent_fresh : (m : Member) → IfFresh w.base m → (r : Site × Submission) → send m.site ≡ Ok r → r.0.seen ≡ 0 → Fresh w.base r.0
  sent_fresh m f r done z = by_state m.site.in_flight m.site.unsent refl done
    where
      by_state : (o : Option ℕ) (es : List Entry) → es ≡ m.site.unsent → send_unless o es m.site ≡ Ok r → Fresh w.base r.0
      by_state (Some n) es u done = cc
      by_state None [] u done = cc
      by_state None (e ∷ es) u done =
          let new : Site = record m.site { sent = m.site.sent ++ e ∷ es; unsent = []; shared = m.site.shared + length (e ∷ es); in_flight = Some (length (e ∷ es)) } in
          let sub : Submission = record { base = m.site.seen; entries = parcels (e ∷ es); hints = hints (e ∷ es) } in
          let same : ◌≡◌ {A = Site × Submission} (new, sub) r = cc in
          let site : new ≡ r.0 = ap (λ (q : Site × Submission). q.0) same in
          same_fresh w.base m.site r.0 (sym (ap (λ (t : Site). t.replica.store) site))
          (sym (ap pending site) ∙ append-nil (m.site.sent ++ e ∷ es) ∙ ap (λ us. m.site.sent ++ us) u)
          (f (ap (λ (t : Site). t.seen) site ∙ z))

  event_fresh : (e : Event) → MayHappen w e → After (happens w e)
  event_fresh (Perform k ts) may = by_site (slice_get w.members k) refl
    where
      by_site : (o : Option Member) → slice_get w.members k ≡ o → After (at_member w o (λ m. with_site k m (with_entry ts m.site) w))
      by_site None e = all
      by_site (Some m) e = put_fresh w k (record m { site = with_entry ts m.site }) all (λ z.
          fresh_entry w.base None ts m.site (on_it w.base w.committed m (every_get _ w.members k m h.members e) z).list (may m e) (every_get (IfFresh w.base) w.members k m all e z))
  event_fresh (Select k s) may = by_site (slice_get w.members k) refl
    where
      by_site : (o : Option Member) → slice_get w.members k ≡ o → After (at_member w o (λ m. with_site k m (with_selection s m.site) w))
      by_site None e = all
      by_site (Some m) e =
          let site = with_selection s m.site in
          put_fresh w k (record m { site = site }) all (λ z. same_fresh w.base m.site site refl refl (every_get (IfFresh w.base) w.members k m all e z))
  event_fresh (Tell k) may = by_site (slice_get w.members k) refl
    where
      by_site : (o : Option Member) → slice_get w.members k ≡ o → After (at_member w o (λ m. with_site k m (with_told m.site) w))
      by_site None e = all
      by_site (Some m) e =
          let site = with_told m.site in
          put_fresh w k (record m { site = site }) all (λ z. same_fresh w.base m.site site refl refl (every_get (IfFresh w.base) w.members k m all e z))
  event_fresh (Undo k) may = by_site (slice_get w.members k) refl
    where
      by_result : (m : Member) → slice_get w.members k ≡ Some m → (r : Result Site UndoCause) → undo m.site ≡ r → After (with_site_of k m r w)
      by_result m e (Err f) d = all
      by_result m e (Ok site) d = put_fresh w k (record m { site = site }) all
          (undone_fresh m (every_get _ w.members k m h.members e) (every_get (IfFresh w.base) w.members k m all e) site d)

      by_site : (o : Option Member) → slice_get w.members k ≡ o → After (at_member w o (λ m. with_site_of k m (undo m.site) w))
      by_site None e = all
      by_site (Some m) e = by_result m e (undo m.site) refl
  event_fresh (Redo k) may = by_site (slice_get w.members k) refl
    where
      by_result : (m : Member) → slice_get w.members k ≡ Some m → (r : Result Site RedoCause) → redo m.site ≡ r → After (with_site_of k m r w)
      by_result m e (Err f) d = all
      by_result m e (Ok site) d = put_fresh w k (record m { site = site }) all
          (redone_fresh m (every_get _ w.members k m h.members e) (every_get (IfFresh w.base) w.members k m all e) site d)

      by_site : (o : Option Member) → slice_get w.members k ≡ o → After (at_member w o (λ m. with_site_of k m (redo m.site) w))
      by_site None e = all
      by_site (Some m) e = by_result m e (redo m.site) refl
  event_fresh (Revoke k i live) may = by_site (slice_get w.members k) refl
    where
      -- a site that may revoke has seen something, also after it
      by_result : (m : Member) → i < m.site.seen → (r : Result (List Transaction) RevokeCause) → After (with_site_of k m (revoke_by i r m.site) w)
      by_result m below (Err cause) = all
      by_result m below (Ok back) = put_fresh w k (record m { site = with_entry_against (Some i) back m.site }) all (λ z. absurd (let none : ⊥ = omega arith in none))

      by_site : (o : Option Member) → slice_get w.members k ≡ o → After (at_member w o (λ m. with_site_of k m (revoke_entry w.committed w.hints live i m.site) w))
      by_site None e = all
      by_site (Some m) e = by_result m (may m e) (revocation live (hinted_entries w.committed w.hints m.site) i)
  event_fresh (Send k) may = by_site (slice_get w.members k) refl
    where
      by_result : (m : Member) → slice_get w.members k ≡ Some m → (r : Result (Site × Submission) SendCause) → send m.site ≡ r → After (with_sent k m r w)
      by_result m e (Err f) d = all
      by_result m e (Ok r) d = put_fresh w k (record { site = r.0; submissions = m.submissions ++ r.1 ∷ []; feeds = m.feeds }) all
          (sent_fresh m (every_get (IfFresh w.base) w.members k m all e) r d)

      by_site : (o : Option Member) → slice_get w.members k ≡ o → After (at_member w o (λ m. with_sent k m (send m.site) w))
      by_site None e = all
      by_site (Some m) e = by_result m e (send m.site) refl
  event_fresh (Serve k) may = by_site (slice_get w.members k) refl
    where
      by_queue : (m : Member) → slice_get w.members k ≡ Some m → (ss : List Submission) → After (after_turn w (serve_first k m ss w))
      by_queue m e [] = all
      by_queue m e (s ∷ later) = fed_fresh w.base k 0 _ _ (put_fresh w k (record m { submissions = later }) all (every_get (IfFresh w.base) w.members k m all e))

      by_site : (o : Option Member) → slice_get w.members k ≡ o → After (at_member w o (λ m. after_turn w (serve_next k m w)))
      by_site None e = all
      by_site (Some m) e = by_queue m e m.submissions
  event_fresh (Take k) may = by_site (slice_get w.members k) refl
    where
      by_feed : (m : Member) → slice_get w.members k ≡ Some m → (fs : List SiteFeed) → After (after_turn w (take_first k m fs w))
      by_feed m e [] = all
      by_feed m e (Foreign ps ∷ fs) = put_fresh w k (record m { site = take_foreign ps m.site; feeds = fs }) all (foreign_fresh w.base ps m.site (every_get (IfFresh w.base) w.members k m all e))
      by_feed m e (Ack n ∷ fs) = put_fresh w k (record m { site = take_ack m.site; feeds = fs }) all (ack_fresh w.base m.site (every_get (IfFresh w.base) w.members k m all e))

      by_site : (o : Option Member) → slice_get w.members k ≡ o → After (at_member w o (λ m. after_turn w (take_next k m w)))
      by_site None e = all
      by_site (Some m) e = by_feed m e m.feeds

-- what holds at the end, with the base that was there first
pub record Ends (base : Replica) (w : Session) : Type 0 where
  pub same : w.base ≡ base
  pub fresh : Every (IfFresh base) w.members

pub run_fresh : (es : List Event) (w : Session) → SessionHolds w → AllIn w.base.store (cited w.base.items) → Every (IfFresh w.base) w.members → AllMayHappen w es → Ends w.base (run w es)
run_fresh [] w h held all may = record { same = refl; fresh = all }
run_fresh (e ∷ es) w h held all may =
    let same = base_stays w e in
    let next = event_fresh w h held all e may.0 in
    let rest = run_fresh es (happens w e) (event_holds w e h may.0) (subst (λ (b : Replica). AllIn b.store (cited b.items)) (sym same) held)
    (subst (λ b. Every (IfFresh b) (happens w e).members) (sym same) next) may.1 in
    subst (λ b. Ends b (run (happens w e) es)) same rest

pub start_fresh : (base : Replica) (n : ℕ) → Every (IfFresh base) (replicate n (joining base))
start_fresh base zero = tt
start_fresh base (suc n) = ((λ z. record { store = refl; numbers = tt }), start_fresh base n)

pub end_fresh : (base : Replica) (sites : ℕ) (events : List Event) (k : ℕ) (m : Member) → Sound base.items → AllIn base.store (cited base.items) → AllMayHappen (started base sites) events →
    slice_get (run (started base sites) events).members k ≡ Some m → m.site.seen ≡ 0 → Fresh base m.site
end_fresh base sites events k m sound held may e z =
    let w = started base sites in
    every_get (IfFresh base) (run w events).members k m (run_fresh events w (start_holds base sites sound held) held (start_fresh base sites) may).fresh e z

pub undone_is_first : UndoneIsFirst
undone_is_first base sites events k m opens may e low none = (
  list_is_replay base sites events k m opens may e
      ∙ ap (λ es. replay (flattened (take m.site.seen (run (started base sites) events).committed ++ parcels es)) base.items) none
      ∙ ap (λ n. replay (flattened (take n (run (started base sites) events).committed ++ [])) base.items) low,
  (end_fresh base sites events k m opens.sound opens.stored may e low).store ∙ ap (λ es. store_after_all (flattened (parcels es)) base.items base.store) none,
)

-- ---- undone at once

undo_last-more : (s : Site) (es : List Entry) (e : Entry) → undo_last (es ++ e ∷ []) s ≡ Ok (with_undone e es s)
undo_last-more s [] e = refl
undo_last-more s (x ∷ es) e = ap (λ (p : List Entry × Entry). Ok (with_undone p.1 p.0 s)) (parted-more x es)
  where
    parted-more : (y : Entry) (es : List Entry) → init_and_last y (es ++ e ∷ []) ≡ (y ∷ es, e)
    parted-more y [] = refl
    parted-more y (z ∷ es) = ap (λ (p : List Entry × Entry). (y ∷ p.0, p.1)) (parted-more z es)

undone_entry_leaves : (ts : List Transaction) (r : Replica) → Sound r.items → AllIn r.store (cited r.items) → AllMayRun ts r.items →
    ((reverted (entry_of ts r) (all_performed ts r)).items ≡ r.items) × ((reverted (entry_of ts r) (all_performed ts r)).store ≡ r.store)
undone_entry_leaves ts r sound held may =
    let e = entry_of ts r in
    let new = all_performed ts r in
    let runs = AllRun-filled ts r.items may in
    let list : new.items ≡ replay e.txs r.items = items_performed ts r ∙ sym (replay-filled ts r.items may) in
    let store : new.store ≡ store_after_all e.txs r.items r.store = store_performed ts r ∙ sym (stored-filled ts r.items r.store may) in (
      items_reverted e new r.items sound runs list,
      undone_store e r.items r.store new sound runs held list store refl (ap length store),
    )

pub undone_at_once : UndoneAtOnce
undone_at_once base sites events k m opens may e ts next may_run done =
    let s = with_entry ts m.site in
    let leaves = undone_entry_leaves ts m.site.replica (list_is_sound base sites events k m opens may e) (at_end base sites events k m opens may e).member.site.held may_run in
    let same : with_undone (entry_of ts m.site.replica) m.site.unsent s ≡ next =
    (let both = sym (undo_last-more s m.site.unsent (entry_of ts m.site.replica)) ∙ done in cc) in (
      sym (ap (λ (t : Site). t.replica.items) same) ∙ leaves.0,
      sym (ap (λ (t : Site). t.replica.store) same) ∙ leaves.1,
    )
