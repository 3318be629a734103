-- Beside each entry stands what it takes back; and an undo is accepted wherever something is unsent.
use Rattle.std.specs.List.{AllByRecursion}
use Rattle.std.proofs.Common.{◌≡◌, ◌<◌, ◌≤◌, ℕ, zero, suc, List, [], ◌∷◌, ◌++◌, length, take, replicate, slice_get, Option, Some, None, Result, Ok, Err, refl, sym, ap, ◌∙◌, subst, arith}
use Rattle.std.proofs.lemmas.List.{length-append, length-drop, length-map, length-take}
use Rattle.model_change.specs.Join.{RangeConflict, join_list}
use Rattle.model_change.specs.Transaction.{Transaction}
use Rattle.model_site.specs.Entries.{Entry, Hints, Parcel, entry_against, hints, parcels}
use Rattle.model_site.specs.Events.{Event, Perform, Redo, Revoke, Select, Send, Serve, Take, Tell, Undo, after_turn, at_member, happens, run, with_sent, with_site_of}
use Rattle.model_site.specs.Joined.{join_entries, joined_first}
use Rattle.model_site.specs.Live.{RevokeCause, revocation}
use Rattle.model_site.specs.Replica.{Replica}
use Rattle.model_site.specs.Session.{Ack, SiteFeed, Foreign, Member, Session, accepted_of, all_fed, joining, put_member, serve_first, started, take_first}
use Rattle.model_site.specs.Site.{Site, Submission, entries_of, first_hint, hinted_entries, hints_of, init_and_last, with_undone, pending, redo_first, revoke_by, send_unless, undo_last, with_entry, with_entry_against, with_selection, with_told}
use Rattle.model_site.specs.Take.{take_ack, take_entry, take_foreign}
use Rattle.model_site_law.specs.Laws.{HintsStandBeside, IsRedone, IsUndone, RedoIsAccepted, UndoIsAccepted}
use Rattle.model_site_law.specs.Protocol.{Every}
use Rattle.model_site_law.proofs.SessionLemmas.{every_get, every_put}
use Rattle.model_site_law.proofs.SiteLemmas.{parted_is, with_redone}

-- ---- accepted

init_shorter : (e : Entry) (es : List Entry) → suc (length (init_and_last e es).0) ≡ length (e ∷ es)
init_shorter e es =
    let sum = length-append (init_and_last e es).0 ((init_and_last e es).1 ∷ []) in
    let whole = ap (λ (l : List Entry). length l) (parted_is e es) in
    omega arith

pub undo_is_accepted : UndoIsAccepted
undo_is_accepted s some = by_unsent s.unsent refl some
  where
    by_unsent : (es : List Entry) → es ≡ s.unsent → 0 < length es → IsUndone s
    by_unsent [] e l = absurd (omega (arith, l))
    by_unsent (x ∷ es) e l =
        let p = init_and_last x es in
        record {
          next = with_undone p.1 p.0 s;
          accepted = ap (λ us. undo_last us s) (sym e);
          unsent = init_shorter x es ∙ ap (λ (l : List Entry). length l) e;
          undone = refl;
        }

pub redo_is_accepted : RedoIsAccepted
redo_is_accepted s some = by_undone s.undone refl some
  where
    by_undone : (us : List Parcel) → us ≡ s.undone → 0 < length us → IsRedone s
    by_undone [] e l = absurd (omega (arith, l))
    by_undone (ts ∷ us) e l = record {
      next = with_redone ts us s;
      accepted = ap (λ ps. redo_first ps s) (sym e);
      unsent = (let sum = length-append s.unsent (entry_against (first_hint s.undone_hints) ts s.replica ∷ []) in omega arith);
      undone = ap (λ (l : List Parcel). length l) e;
    }

-- ---- as many hints as entries

kept_fewer : (committed : List Transaction) (es : List Parcel) → length (join_entries committed es).kept ≤ length es
kept_fewer committed [] = omega arith
kept_fewer committed (e ∷ es) = by_first (λ over. kept_fewer over es) (join_list committed e)
  where
    by_first : ((over : List Transaction) → length (join_entries over es).kept ≤ length es) → (r : Result (List Transaction × List Transaction) RangeConflict) →
        length (joined_first committed r (λ over. join_entries over es)).kept ≤ length (e ∷ es)
    by_first rest (Err clash) = omega arith
    by_first rest (Ok joined) = let fewer = rest joined.0 in omega arith

abbrev AsMany : Submission → Type 0
AsMany s = length s.hints ≡ length s.entries

record Beside (m : Member) : Type 0 where
  submitted : AllByRecursion AsMany m.submissions
  undone : length m.site.undone_hints ≡ length m.site.undone

record AllBeside (w : Session) : Type 0 where
  committed : length w.hints ≡ length w.committed
  members : Every Beside w.members

all_one_more : (ss : List Submission) (s : Submission) → AllByRecursion AsMany ss → AsMany s → AllByRecursion AsMany (ss ++ s ∷ [])
all_one_more [] s all one = (one, tt)
all_one_more (t ∷ ss) s all one = (all.0, all_one_more ss s all.1 one)

fed_beside : (sender k : ℕ) (ps : List Parcel) (ms : List Member) → Every Beside ms → Every Beside (all_fed sender k ps ms)
fed_beside sender k ps [] all = tt
fed_beside sender k ps (m ∷ ms) all = (record { submitted = all.0.submitted; undone = all.0.undone }, fed_beside sender (suc k) ps ms all.1)

taken_foreign : (ps : List Parcel) (s : Site) → length (take_foreign ps s).undone_hints ≡ length (take_foreign ps s).undone
taken_foreign [] s = refl
taken_foreign (p ∷ ps) s = taken_foreign ps (take_entry p s)

module _ (w : Session) (k : ℕ) (all : AllBeside w) where
  put : (m : Member) → Beside m → AllBeside (record w { members = put_member k m w.members })
  put m b = record { committed = all.committed; members = every_put Beside w.members k m all.members b }

  put_site : (m : Member) (s : Site) → Beside m → length s.undone_hints ≡ length s.undone → AllBeside (record w { members = put_member k (record m { site = s }) w.members })
  put_site m s b undone = put (record m { site = s }) (record { submitted = b.submitted; undone = undone })

  at_site : (f : Member → Session) → ((m : Member) → Beside m → AllBeside (f m)) → AllBeside (at_member w (slice_get w.members k) f)
  at_site f h = by_site (slice_get w.members k) refl
    where
      by_site : (o : Option Member) → slice_get w.members k ≡ o → AllBeside (at_member w o f)
      by_site None e = all
      by_site (Some m) e = h m (every_get Beside w.members k m all.members e)

  undo_beside : (m : Member) → Beside m → (es : List Entry) → AllBeside (with_site_of k m (undo_last es m.site) w)
  undo_beside m b [] = all
  undo_beside m b (x ∷ es) = let p = init_and_last x es in put_site m (with_undone p.1 p.0 m.site) b (ap (λ n. suc n) b.undone)

  redo_beside : (m : Member) → Beside m → (us : List Parcel) → us ≡ m.site.undone → AllBeside (with_site_of k m (redo_first us m.site) w)
  redo_beside m b [] e = all
  redo_beside m b (ts ∷ us) e =
      let one = length-drop 1 m.site.undone_hints in
      let long = b.undone ∙ sym (ap (λ (l : List Parcel). length l) e) in
      put_site m (with_redone ts us m.site) b (omega arith)

  revoke_beside : (i : ℕ) (m : Member) → Beside m → (r : Result (List Transaction) RevokeCause) → AllBeside (with_site_of k m (revoke_by i r m.site) w)
  revoke_beside i m b (Err cause) = all
  revoke_beside i m b (Ok back) = put_site m (with_entry_against (Some i) back m.site) b refl

  send_beside : (m : Member) → Beside m → (o : Option ℕ) (es : List Entry) → AllBeside (with_sent k m (send_unless o es m.site) w)
  send_beside m b (Some n) es = all
  send_beside m b None [] = all
  send_beside m b None (x ∷ es) =
      let s : Submission = record { base = m.site.seen; entries = parcels (x ∷ es); hints = hints (x ∷ es) } in
      let as_many : AsMany s = length-map (x ∷ es) (λ (e : Entry). e.takes_back) ∙ sym (length-map (x ∷ es) (λ (e : Entry). e.txs)) in
      put _ (record { submitted = all_one_more m.submissions s b.submitted as_many; undone = b.undone })

  serve_beside : (m : Member) → Beside m → (ss : List Submission) → ss ≡ m.submissions → AllBeside (after_turn w (serve_first k m ss w))
  serve_beside m b [] e = all
  serve_beside m b (s ∷ later) e =
      let queue : AsMany s × AllByRecursion AsMany later = subst (AllByRecursion AsMany) (sym e) b.submitted in
      let new = (accepted_of w.committed s).kept in
      let hints_more = length-append w.hints (take (length new) s.hints) in
      let entries_more = length-append w.committed new in
      let cut = length-take (length new) s.hints in
      let fewer : length new ≤ length s.entries = kept_fewer _ s.entries in
      let as_many = queue.0 in
      let so_far = all.committed in
      record {
        committed = (let sum : length (w.hints ++ take (length new) s.hints) ≡ length (w.committed ++ new) = omega arith in sum);
        members = fed_beside k 0 new (put_member k (record m { submissions = later }) w.members)
            (every_put Beside w.members k (record m { submissions = later }) all.members (record { submitted = queue.1; undone = b.undone }));
      }

  take_beside : (m : Member) → Beside m → (fs : List SiteFeed) → AllBeside (after_turn w (take_first k m fs w))
  take_beside m b [] = all
  take_beside m b (Foreign ps ∷ fs) = put (record m { site = take_foreign ps m.site; feeds = fs }) (record { submitted = b.submitted; undone = taken_foreign ps m.site })
  take_beside m b (Ack n ∷ fs) = put (record m { site = take_ack m.site; feeds = fs }) (record { submitted = b.submitted; undone = refl })

event_beside : (w : Session) (e : Event) → AllBeside w → AllBeside (happens w e)
event_beside w (Perform k ts) all = at_site w k all _ (λ m b. put_site w k all m (with_entry ts m.site) b refl)
event_beside w (Select k s) all = at_site w k all _ (λ m b. put_site w k all m (with_selection s m.site) b b.undone)
event_beside w (Tell k) all = at_site w k all _ (λ m b. put_site w k all m (with_told m.site) b b.undone)
event_beside w (Undo k) all = at_site w k all _ (λ m b. undo_beside w k all m b m.site.unsent)
event_beside w (Redo k) all = at_site w k all _ (λ m b. redo_beside w k all m b m.site.undone refl)
event_beside w (Revoke k i live) all = at_site w k all _ (λ m b. revoke_beside w k all i m b (revocation live (hinted_entries w.committed w.hints m.site) i))
event_beside w (Send k) all = at_site w k all _ (λ m b. send_beside w k all m b m.site.in_flight m.site.unsent)
event_beside w (Serve k) all = at_site w k all _ (λ m b. serve_beside w k all m b m.submissions refl)
event_beside w (Take k) all = at_site w k all _ (λ m b. take_beside w k all m b m.feeds)

run_beside : (es : List Event) (w : Session) → AllBeside w → AllBeside (run w es)
run_beside [] w all = all
run_beside (e ∷ es) w all = run_beside es (happens w e) (event_beside w e all)

start_beside : (base : Replica) (n : ℕ) → Every Beside (replicate n (joining base))
start_beside base zero = tt
start_beside base (suc n) = (record { submitted = tt; undone = refl }, start_beside base n)

known_beside : (hs : Hints) (ps : List Parcel) (s : Site) → length hs ≡ length ps → length (hints_of hs s) ≡ length (entries_of ps s)
known_beside hs ps s e =
    let hints_sum = length-append (take s.seen hs) (hints (pending s)) in
    let entries_sum = length-append (take s.seen ps) (parcels (pending s)) in
    let hints_cut = length-take s.seen hs in
    let entries_cut = length-take s.seen ps in
    let pending_hints = length-map (pending s) (λ (x : Entry). x.takes_back) in
    let pending_parcels = length-map (pending s) (λ (x : Entry). x.txs) in
    omega arith

pub hints_stand_beside : HintsStandBeside
hints_stand_beside base sites events k m opens may e =
    let w = run (started base sites) events in
    let all = run_beside events (started base sites) (record { committed = refl; members = start_beside base sites }) in
    let b = every_get Beside w.members k m all.members e in
    record { committed = all.committed; submitted = b.submitted; undone = b.undone; known = known_beside w.hints w.committed m.site all.committed }
