-- The store of every site begins with the store that was opened, whatever happened.
use Rattle.std.proofs.Common.{◌≡◌, ◌≤◌, ℕ, zero, suc, ◌+◌, ◌-◌, ◌&&◌, ◌==◌, nat_lt, Bool, true, false, if◌then◌else◌, List, [], ◌∷◌, ◌++◌, length, take, drop, replicate, slice_get, Option, Some, None, Result, Ok, Err, All, refl, sym, ap, ◌∙◌, subst, append_assoc, append-nil, arith}
use Rattle.std.proofs.Math.Seq.{take-append-add}
use Rattle.std.proofs.lemmas.List.{length-append, take-append-drop}
use Rattle.std.proofs.lemmas.List.Elements.{All-append, All-cons, All-drop, All-head, All-nil, All-tail}
use Rattle.ve_base.specs.declared.value.Value.{Value}
use Rattle.model_change.specs.Replay.{reversal}
use Rattle.model_change.specs.Store.{brought, changed_heads}
use Rattle.model_change.specs.Transaction.{Transaction}
use Rattle.model_site.specs.Entries.{Entry, Parcel, all_reverted, parcels, reverted, Hints, hints, entry_against}
use Rattle.model_site.specs.Events.{Event, Perform, Redo, Revoke, Select, Send, Serve, Take, Tell, Undo, after_turn, at_member, happens, run, with_sent, with_site_of}
use Rattle.model_site.specs.Joined.{join_entries}
use Rattle.model_site.specs.Live.{RevokeCause, revocation}
use Rattle.model_site.specs.Replica.{Replica, all_performed, all_put_back, performed, put_back}
use Rattle.model_site.specs.Session.{Ack, SiteFeed, Foreign, Member, Session, all_fed, joining, put_member, serve_first, started, take_first}
use Rattle.model_site.specs.Site.{Site, Submission, init_and_last, with_undone, pending, redo_first, revoke_by, send_unless, undo_last, with_entry, with_selection, with_told, with_entry_against, first_hint, hinted_entries}
use Rattle.model_site.specs.Take.{parcel_entries, take_ack, take_entry, take_foreign}
use Rattle.model_site_law.specs.Protocol.{Every}
use Rattle.model_site_law.specs.StoreLaws.{BeginsWith, StoreBegins}
use Rattle.model_site_law.proofs.SessionLemmas.{every_get, every_put}
use Rattle.model_site_law.proofs.SiteLemmas.{parted_is, with_redone}
use Rattle.model_site_law.proofs.StoreLemmas.{Grown, fill_grows, grown_itself, grown_twice}

-- ---- one replica

performed_grows : (ts : List Transaction) (r : Replica) → Grown r.store (all_performed ts r).store
performed_grows [] r = grown_itself r.store
performed_grows (t ∷ ts) r =
    grown_twice r.store (performed t r).store (all_performed ts (performed t r)).store (fill_grows r.store (brought t r.items))
    (performed_grows ts (performed t r))

put_back_grows : (ts : List Transaction) (r : Replica) → Grown r.store (all_put_back ts r).store
put_back_grows [] r = grown_itself r.store
put_back_grows (t ∷ ts) r =
    grown_twice r.store (put_back t r).store (all_put_back ts (put_back t r)).store (fill_grows r.store (changed_heads t r.items))
    (put_back_grows ts (put_back t r))

module _ (first : List Value) where
  abbrev Since : Entry → Type 0
  Since e = length first ≤ e.store_before

  cut_begins : (n : ℕ) (store : List Value) → length first ≤ n → Grown first store → Grown first (take n store)
  cut_begins n store low g = record {
    more = take (n - length first) g.more;
    same =
        ap (take n) g.same ∙ ap (λ k. take k (first ++ g.more)) (let sum : n ≡ length first + (n - length first) = omega arith in sum)
        ∙ take-append-add first g.more (n - length first);
  }

  reverted_begins : (e : Entry) (r : Replica) → Since e → Grown first r.store → Grown first (reverted e r).store
  reverted_begins e r low g = by_cut ((length r.store == e.store_after) && nat_lt e.store_before e.store_after)
    where
      back : Grown first (all_put_back (reversal e.txs) r).store
      back = grown_twice first r.store (all_put_back (reversal e.txs) r).store g (put_back_grows (reversal e.txs) r)

      by_cut : (b : Bool) →
          Grown first (if b then take e.store_before (all_put_back (reversal e.txs) r).store else (all_put_back (reversal e.txs) r).store)
      by_cut true = cut_begins e.store_before (all_put_back (reversal e.txs) r).store low back
      by_cut false = back

  all_reverted_begin : (es : List Entry) (r : Replica) → All Since es → Grown first r.store → Grown first (all_reverted es r).store
  all_reverted_begin [] r since g = g
  all_reverted_begin (e ∷ es) r since g =
      reverted_begins e (all_reverted es r) (All-head Since e es since) (all_reverted_begin es r (All-tail Since e es since) g)

  -- ---- one site

  as_grown : (s : Site) → BeginsWith first s → Grown first s.replica.store
  as_grown s b = record { more = b.more; same = b.begins }

  begins_of : (s : Site) → Grown first s.replica.store → All Since (pending s) → BeginsWith first s
  begins_of s g since = record { more = g.more; begins = g.same; since = since }

  reaches : (store : List Value) → Grown first store → length first ≤ length store
  reaches store g = let whole : length store ≡ length (first ++ g.more) = ap length g.same in omega (arith, whole, length-append first g.more)

  -- the same store, and no other entries
  same_begins : (s next : Site) → next.replica.store ≡ s.replica.store → pending next ≡ pending s → BeginsWith first s → BeginsWith first next
  same_begins s next store left b = record { more = b.more; begins = store ∙ b.begins; since = subst (All Since) (sym left) b.since }

  entry_begins : (taken : Option ℕ) (ts : List Transaction) (s : Site) → BeginsWith first s → BeginsWith first (with_entry_against taken ts s)
  entry_begins taken ts s b =
      let e = entry_against taken ts s.replica in
      let low : Since e = reaches s.replica.store (as_grown s b) in
      begins_of (with_entry_against taken ts s)
      (grown_twice first s.replica.store (all_performed ts s.replica).store (as_grown s b) (performed_grows ts s.replica))
      (subst (All Since) (append_assoc s.sent s.unsent (e ∷ []))
      (All-append Since (pending s) (e ∷ []) b.since (All-cons Since e [] low (All-nil Since))))

  noted_since : (n : ℕ) (taken : Hints) (ps : List Parcel) → length first ≤ n → All Since (parcel_entries n taken ps)
  noted_since n taken [] low = All-nil Since
  noted_since n taken (p ∷ ps) low =
      All-cons Since (record { txs = p; store_before = n; store_after = n; takes_back = first_hint taken }) (parcel_entries n (drop 1 taken) ps) low
      (noted_since n (drop 1 taken) ps low)

  take_entry_begins : (foreign : Parcel) (s : Site) → BeginsWith first s → BeginsWith first (take_entry foreign s)
  take_entry_begins foreign s b =
      let j = join_entries foreign (parcels (pending s)) in
      let dropped = drop (length j.kept) (pending s) in
      let back = all_reverted dropped s.replica in
      let new = all_performed j.committed back in
      let kept = parcel_entries (length new.store) (hints (pending s)) j.kept in
      let g : Grown first new.store =
      grown_twice first back.store new.store
      (all_reverted_begin dropped s.replica (All-drop Since (length j.kept) (pending s) b.since) (as_grown s b))
      (performed_grows j.committed back) in
      begins_of (take_entry foreign s) g
      (subst (All Since) (sym (take-append-drop (length s.sent) kept)) (noted_since (length new.store) (hints (pending s)) j.kept (reaches new.store g)))

  take_foreign_begins : (ps : List Parcel) (s : Site) → BeginsWith first s → BeginsWith first (take_foreign ps s)
  take_foreign_begins [] s b = same_begins s (take_foreign [] s) refl refl b
  take_foreign_begins (p ∷ ps) s b = take_foreign_begins ps (take_entry p s) (take_entry_begins p s b)

  take_ack_begins : (s : Site) → BeginsWith first s → BeginsWith first (take_ack s)
  take_ack_begins s b =
      begins_of (take_ack s) (as_grown s b) (subst (All Since) (drops s.sent) (All-drop Since (length s.sent) (pending s) b.since))
    where
      drops : (es : List Entry) → drop (length es) (es ++ s.unsent) ≡ s.unsent
      drops [] = refl
      drops (e ∷ es) = drops es

  -- the last of the unsent entries is taken back
  last_begins : (x : Entry) (es : List Entry) (s : Site) → x ∷ es ≡ s.unsent → BeginsWith first s →
      let p = init_and_last x es in BeginsWith first (with_undone p.1 p.0 s)
  last_begins x es s unsent b =
      let p = init_and_last x es in
      let parts : pending s ≡ (s.sent ++ p.0) ++ p.1 ∷ [] =
      ap (λ us. s.sent ++ us) (sym (parted_is x es ∙ unsent)) ∙ sym (append_assoc s.sent p.0 (p.1 ∷ [])) in
      let all = subst (All Since) parts b.since in
      begins_of (with_undone p.1 p.0 s)
      (reverted_begins p.1 s.replica (later (s.sent ++ p.0) p.1 all) (as_grown s b)) (earlier (s.sent ++ p.0) p.1 all)
    where
      later : (fs : List Entry) (e : Entry) → All Since (fs ++ e ∷ []) → Since e
      later [] e all = All-head Since e [] all
      later (f ∷ fs) e all = later fs e (All-tail Since f (fs ++ e ∷ []) all)

      earlier : (fs : List Entry) (e : Entry) → All Since (fs ++ e ∷ []) → All Since fs
      earlier [] e all = All-nil Since
      earlier (f ∷ fs) e all =
          All-cons Since f fs (All-head Since f (fs ++ e ∷ []) all) (earlier fs e (All-tail Since f (fs ++ e ∷ []) all))

  -- ---- all sites

  abbrev Begins : Member → Type 0
  Begins m = BeginsWith first m.site

  fed_begin : (sender k : ℕ) (ps : List Parcel) (ms : List Member) → Every Begins ms → Every Begins (all_fed sender k ps ms)
  fed_begin sender k ps [] all = tt
  fed_begin sender k ps (m ∷ ms) all = (all.0, fed_begin sender (suc k) ps ms all.1)

  module _ (w : Session) (k : ℕ) (all : Every Begins w.members) where
    abbrev After : Session → Type 0
    After v = Every Begins v.members

    put : (m : Member) → Begins m → Every Begins (put_member k m w.members)
    put m b = every_put Begins w.members k m all b

    at_site : (f : Member → Session) → ((m : Member) → Begins m → After (f m)) → After (at_member w (slice_get w.members k) f)
    at_site f h = by_site (slice_get w.members k) refl
      where
        by_site : (o : Option Member) → slice_get w.members k ≡ o → After (at_member w o f)
        by_site None e = all
        by_site (Some m) e = h m (every_get Begins w.members k m all e)

    undo_begins : (m : Member) → Begins m → (es : List Entry) → es ≡ m.site.unsent → After (with_site_of k m (undo_last es m.site) w)
    undo_begins m b [] e = all
    undo_begins m b (x ∷ es) e =
        let p = init_and_last x es in
        let site = with_undone p.1 p.0 m.site in
        put (record m { site = site }) (last_begins x es m.site e b)

    redo_begins : (m : Member) → Begins m → (us : List Parcel) → After (with_site_of k m (redo_first us m.site) w)
    redo_begins m b [] = all
    redo_begins m b (ts ∷ us) =
        let site = with_redone ts us m.site in
        let taken = first_hint m.site.undone_hints in
        put (record m { site = site }) (same_begins (with_entry_against taken ts m.site) site refl refl (entry_begins taken ts m.site b))

    revoke_begins : (i : ℕ) (m : Member) → Begins m → (r : Result (List Transaction) RevokeCause) → After (with_site_of k m (revoke_by i r m.site) w)
    revoke_begins i m b (Err cause) = all
    revoke_begins i m b (Ok back) = put (record m { site = with_entry_against (Some i) back m.site }) (entry_begins (Some i) back m.site b)

    send_begins : (m : Member) → Begins m → (o : Option ℕ) (es : List Entry) → es ≡ m.site.unsent →
        After (with_sent k m (send_unless o es m.site) w)
    send_begins m b (Some n) es e = all
    send_begins m b None [] e = all
    send_begins m b None (x ∷ es) e =
        let site = record m.site { sent = m.site.sent ++ x ∷ es; unsent = []; shared = m.site.shared + length (x ∷ es); in_flight = Some (length (x ∷ es)) } in
        let submission : Submission = record { base = m.site.seen; entries = parcels (x ∷ es); hints = hints (x ∷ es) } in
        put (record { site = site; submissions = m.submissions ++ submission ∷ []; feeds = m.feeds })
        (same_begins m.site site refl (append-nil (m.site.sent ++ x ∷ es) ∙ ap (λ us. m.site.sent ++ us) e) b)

    serve_begins : (m : Member) → Begins m → (ss : List Submission) → After (after_turn w (serve_first k m ss w))
    serve_begins m b [] = all
    serve_begins m b (s ∷ later) = fed_begin k 0 _ _ (put (record m { submissions = later }) b)

    take_begins : (m : Member) → Begins m → (fs : List SiteFeed) → After (after_turn w (take_first k m fs w))
    take_begins m b [] = all
    take_begins m b (Foreign ps ∷ fs) = put (record m { site = take_foreign ps m.site; feeds = fs }) (take_foreign_begins ps m.site b)
    take_begins m b (Ack n ∷ fs) = put (record m { site = take_ack m.site; feeds = fs }) (take_ack_begins m.site b)

  event_begins : (w : Session) (e : Event) → Every Begins w.members → Every Begins (happens w e).members
  event_begins w (Perform k ts) all =
      at_site w k all _ (λ m b. put w k all (record m { site = with_entry ts m.site }) (entry_begins None ts m.site b))
  event_begins w (Select k s) all =
      at_site w k all _ (λ m b.
      let site = with_selection s m.site in put w k all (record m { site = site }) (same_begins m.site site refl refl b))
  event_begins w (Tell k) all =
      at_site w k all _ (λ m b. let site = with_told m.site in put w k all (record m { site = site }) (same_begins m.site site refl refl b))
  event_begins w (Undo k) all = at_site w k all _ (λ m b. undo_begins w k all m b m.site.unsent refl)
  event_begins w (Redo k) all = at_site w k all _ (λ m b. redo_begins w k all m b m.site.undone)
  event_begins w (Revoke k i live) all =
      at_site w k all _ (λ m b. revoke_begins w k all i m b (revocation live (hinted_entries w.committed w.hints m.site) i))
  event_begins w (Send k) all = at_site w k all _ (λ m b. send_begins w k all m b m.site.in_flight m.site.unsent refl)
  event_begins w (Serve k) all = at_site w k all _ (λ m b. serve_begins w k all m b m.submissions)
  event_begins w (Take k) all = at_site w k all _ (λ m b. take_begins w k all m b m.feeds)

  run_begins : (es : List Event) (w : Session) → Every Begins w.members → Every Begins (run w es).members
  run_begins [] w all = all
  run_begins (e ∷ es) w all = run_begins es (happens w e) (event_begins w e all)

start_begins : (base : Replica) (n : ℕ) → Every (λ m. BeginsWith base.store m.site) (replicate n (joining base))
start_begins base zero = tt
start_begins base (suc n) = (
  record { more = []; begins = sym (append-nil base.store); since = All-nil (λ (e : Entry). length base.store ≤ e.store_before) },
  start_begins base n,
)

pub store_begins : StoreBegins
store_begins base sites events k m opens may e =
    every_get (λ m. BeginsWith base.store m.site) (run (started base sites) events).members k m
    (run_begins base.store events (started base sites) (start_begins base sites)) e
