-- The server's turn keeps what always holds.
use Rattle.std.proofs.Common.{◌≡◌, ℕ, zero, suc, ◌+◌, ◌==◌, ◌<◌, Bool, true, false, List, [], ◌∷◌, ◌++◌, length, drop, replicate, slice_get, Option, Some, None, if◌then◌else◌, eqb-true, eq-eqb, refl, sym, ap, ◌∙◌, subst, arith}
use Rattle.std.proofs.lemmas.List.{append_assoc, append-nil}
use Rattle.std.proofs.Math.Seq.{drop-append_seam}
use Rattle.model_items.specs.declared.plain_item.PlainItem.{PlainItem}
use Rattle.model_change.specs.Replay.{AllRun, flattened, replay}
use Rattle.model_change.specs.Store.{cited}
use Rattle.model_site.specs.Entries.{Parcel, parcels}
use Rattle.model_site.specs.Events.{Event, Perform, Redo, Revoke, Select, Send, Serve, Take, Tell, Undo, after_turn, at_member, happens, run}
use Rattle.model_site.specs.Joined.{join_entries}
use Rattle.model_site.specs.Replica.{Replica}
use Rattle.model_site.specs.Session.{Ack, Foreign, Member, Session, accepted_of, all_fed, feed_for, foreign_feed, joining, put_member, serve_first, serve_next, started}
use Rattle.model_site.specs.Site.{Submission}
use Rattle.model_site_law.specs.Holds.{ground}
use Rattle.model_site_law.specs.MayHappen.{AllMayHappen, MayHappen}
use Rattle.model_site_law.specs.Protocol.{Answered, AtRest, Every, InStep, MemberHolds, NoAck, SessionHolds, Submitted, Turn, Waits}
use Rattle.model_site_law.specs.Sound.{AllIn, Sound}
use Rattle.model_site_law.proofs.AcceptLemmas.{kept-append}
use Rattle.model_site_law.proofs.JoinedLemmas.{entries_join}
use Rattle.model_site_law.proofs.MemberLemmas.{acknowledged, more_fed, no_ack_more, one_ack_from, one_ack_more}
use Rattle.model_site_law.proofs.ReplayLemmas.{AllRun-append, AllRun-parts, flattened-append, replay-append, sound_after}
use Rattle.model_site_law.proofs.SessionLemmas.{edit_in, every_get, redo_in, revoke_in, select_in, send_in, take_in, tell_in, undo_in}

-- ---- more is committed, and a site is fed with it

turn_more : (base : List PlainItem) (committed rest ps : List Parcel) (m : Member) → Turn base committed rest m →
    Turn base (committed ++ ps) (rest ++ ps) (record m { feeds = m.feeds ++ Foreign ps ∷ [] })
turn_more base committed rest ps m (AtRest a b c n) = AtRest a b c (no_ack_more ps m.feeds n)
turn_more base committed rest ps m (Submitted k s a b n w) =
    let sent = parcels m.site.sent in
    Submitted k s a b (no_ack_more ps m.feeds n) (record {
      old = w.old;
      new = w.new ++ ps;
      from = w.from;
      runs = w.runs;
      split = sym (append_assoc w.old w.new ps) ∙ ap (λ r. r ++ ps) w.split;
      as_kept = ap (λ r. (join_entries r sent).kept) (flattened-append rest ps) ∙ kept-append (flattened rest) (flattened ps) sent
          ∙ ap (λ r. (join_entries (flattened ps) r).kept) w.as_kept
          ∙ sym (kept-append (flattened w.new) (flattened ps) s.entries) ∙ ap (λ r. (join_entries r s.entries).kept) (sym (flattened-append w.new ps));
    })
turn_more base committed rest ps m (Answered k a b n) = Answered k a b (one_ack_more ps m.feeds n)

fed_holds : (base : List PlainItem) (committed ps : List Parcel) (m : Member) → MemberHolds base committed m →
    MemberHolds base (committed ++ ps) (record m { feeds = m.feeds ++ foreign_feed ps })
fed_holds base committed [] m h =
    subst (λ c. MemberHolds base c (record m { feeds = m.feeds ++ [] })) (sym (append-nil committed))
    (subst (λ fs. MemberHolds base committed (record m { feeds = fs })) (sym (append-nil m.feeds)) h)
fed_holds base committed (p ∷ ps) m h = record {
  before = h.before;
  rest = h.rest ++ p ∷ ps;
  site = h.site;
  split = sym (append_assoc h.before h.rest (p ∷ ps)) ∙ ap (λ r. r ++ p ∷ ps) h.split;
  in_step = more_fed h.rest (parcels m.site.sent) (p ∷ ps) m.feeds h.in_step;
  turn = turn_more base committed h.rest (p ∷ ps) m h.turn;
}

-- ---- the site whose submission is served

-- the submission that is served is the one that waits, and no other is there
record Serves (base : List PlainItem) (committed rest : List Parcel) (m : Member) (s : Submission) (later : List Submission) : Type 0 where
  count : ℕ
  in_flight : m.site.in_flight ≡ Some count
  alone : later ≡ []
  none : NoAck m.feeds
  waits : Waits base committed rest (parcels m.site.sent) s

abbrev head_of : Submission → List Submission → Submission
head_of s [] = s
head_of s (t ∷ ts) = t

abbrev tail_of : List Submission → List Submission
tail_of [] = []
tail_of (t ∷ ts) = ts

serves : (base : List PlainItem) (committed rest : List Parcel) (m : Member) (s : Submission) (later : List Submission) → m.submissions ≡ s ∷ later →
    Turn base committed rest m → Serves base committed rest m s later
serves base committed rest m s later e (AtRest a b c n) = cc
serves base committed rest m s later e (Submitted k t a b n w) =
    let same : t ∷ [] ≡ s ∷ later = sym b ∙ e in
    record { count = k; in_flight = a; alone = ap tail_of (sym same); none = n; waits = subst (Waits base committed rest (parcels m.site.sent)) (ap (head_of s) same) w }
serves base committed rest m s later e (Answered k a b n) = cc

served_holds : (base : List PlainItem) (committed : List Parcel) (m : Member) (s : Submission) (later : List Submission) → m.submissions ≡ s ∷ later → MemberHolds base committed m →
    let new = (accepted_of committed s).kept in
    MemberHolds base (committed ++ new) (record m { submissions = later; feeds = m.feeds ++ Ack (length new) ∷ [] })
served_holds base committed m s later e h =
    let d = serves base committed h.rest m s later e h.turn in
    let w = d.waits in
    let sent = parcels m.site.sent in
    let new = (accepted_of committed s).kept in
    let dropped : drop s.base committed ≡ w.new = ap (λ n. drop n committed) (sym w.from) ∙ ap (drop (length w.old)) (sym w.split) ∙ drop-append_seam w.old w.new in
    let same : (join_entries (flattened h.rest) sent).kept ≡ new = w.as_kept ∙ ap (λ r. (join_entries (flattened r) s.entries).kept) (sym dropped) in
    record {
      before = h.before;
      rest = h.rest ++ new;
      site = h.site;
      split = sym (append_assoc h.before h.rest new) ∙ ap (λ r. r ++ new) h.split;
      in_step = subst (λ a. InStep (h.rest ++ a) sent (m.feeds ++ Ack (length a) ∷ [])) same (acknowledged h.rest sent m.feeds d.none h.in_step);
      turn = Answered d.count d.in_flight d.alone (one_ack_from (length new) m.feeds d.none);
    }

new_runs : (base : List PlainItem) (committed rest sent : List Parcel) (s : Submission) → Sound base → AllRun (flattened committed) base → Waits base committed rest sent s →
    AllRun (flattened (committed ++ (accepted_of committed s).kept)) base
new_runs base committed rest sent s sound runs w =
    let new = (accepted_of committed s).kept in
    let dropped : drop s.base committed ≡ w.new = ap (λ n. drop n committed) (sym w.from) ∙ ap (drop (length w.old)) (sym w.split) ∙ drop-append_seam w.old w.new in
    let flat : flattened w.old ++ flattened w.new ≡ flattened committed = sym (flattened-append w.old w.new) ∙ ap flattened w.split in
    let parts = AllRun-parts (flattened w.old) (flattened w.new) base (subst (λ us. AllRun us base) (sym flat) runs) in
    let later = (entries_join (flattened w.new) s.entries (ground base w.old) (sound_after (flattened w.old) base sound parts.0) parts.1 w.runs).kept_run in
    let end : replay (flattened w.new) (ground base w.old) ≡ replay (flattened committed) base = sym (replay-append (flattened w.old) (flattened w.new) base) ∙ ap (λ us. replay us base) flat in
    let mine : (join_entries (flattened w.new) s.entries).kept ≡ new = ap (λ r. (join_entries (flattened r) s.entries).kept) (sym dropped) in
    subst (λ us. AllRun us base) (sym (flattened-append committed new))
    (AllRun-append (flattened committed) (flattened new) base runs
    (subst (λ l. AllRun (flattened new) l) end (subst (λ a. AllRun (flattened a) (replay (flattened w.new) (ground base w.old))) mine later)))

-- ---- all sites

module _ (base : List PlainItem) (committed new : List Parcel) where
  abbrev Now : Member → Type 0
  Now = MemberHolds base (committed ++ new)

  foreign_to : (sender k : ℕ) (m : Member) → (k == sender) ≡ false → MemberHolds base committed m → Now (record m { feeds = m.feeds ++ feed_for sender k new })
  foreign_to sender k m e h =
      subst (λ b. Now (record m { feeds = m.feeds ++ (if b then Ack (length new) ∷ [] else foreign_feed new) })) (sym e) (fed_holds base committed new m h)

  apart : (sender k : ℕ) → sender < k → (k == sender) ≡ false
  apart sender k h = by_test (k == sender) refl
    where
      by_test : (b : Bool) → (k == sender) ≡ b → b ≡ false
      by_test false e = refl
      by_test true e = let f = eqb-true k sender e in absurd (omega arith)

  fed_after : (sender k : ℕ) (ms : List Member) → sender < k → Every (MemberHolds base committed) ms → Every Now (all_fed sender k new ms)
  fed_after sender k [] h all = tt
  fed_after sender k (m ∷ ms) h all = (foreign_to sender k m (apart sender k h) all.0, fed_after sender (suc k) ms (omega arith) all.1)

  -- from the site at `k` on, of which the sender comes at `i` from there
  all_after : (sender k i : ℕ) (m next : Member) (ms : List Member) → k + i ≡ sender → Every (MemberHolds base committed) ms → slice_get ms i ≡ Some m →
      Now (record next { feeds = next.feeds ++ Ack (length new) ∷ [] }) → Every Now (all_fed sender k new (put_member i next ms))
  all_after sender k i m next [] e all h p = cc
  all_after sender k zero m next (n ∷ ms) e all h p =
      let here : (k == sender) ≡ true = eq-eqb k sender (omega arith) in (
        subst (λ b. Now (record next { feeds = next.feeds ++ (if b then Ack (length new) ∷ [] else foreign_feed new) })) (sym here) p,
        fed_after sender (suc k) ms (omega arith) all.1,
      )
  all_after sender k (suc i) m next (n ∷ ms) e all h p =
      (foreign_to sender k n (before (k == sender) refl) all.0, all_after sender (suc k) i m next ms (omega arith) all.1 h p)
    where
      before : (b : Bool) → (k == sender) ≡ b → b ≡ false
      before false f = refl
      before true f = let g = eqb-true k sender f in absurd (omega arith)

serve_in : (w : Session) (k : ℕ) → SessionHolds w → SessionHolds (happens w (Serve k))
serve_in w k h = by_site (slice_get w.members k) refl
  where
    by_queue : (m : Member) → slice_get w.members k ≡ Some m → (ss : List Submission) → m.submissions ≡ ss → SessionHolds (after_turn w (serve_first k m ss w))
    by_queue m e [] f = h
    by_queue m e (s ∷ later) f =
        let p = every_get _ w.members k m h.members e in
        let d = serves w.base.items w.committed p.rest m s later f p.turn in
        let next = served_holds w.base.items w.committed m s later f p in
        record {
          sound = h.sound;
          committed = new_runs w.base.items w.committed p.rest (parcels m.site.sent) s h.sound h.committed d.waits;
          members = all_after w.base.items w.committed (accepted_of w.committed s).kept k 0 k m (record m { submissions = later }) w.members (omega arith) h.members e next;
        }

    by_site : (o : Option Member) → slice_get w.members k ≡ o → SessionHolds (at_member w o (λ m. after_turn w (serve_next k m w)))
    by_site None e = h
    by_site (Some m) e = by_queue m e m.submissions refl

pub event_holds : (w : Session) (e : Event) → SessionHolds w → MayHappen w e → SessionHolds (happens w e)
event_holds w (Perform k ts) h may = edit_in w k ts h may
event_holds w (Select k s) h may = select_in w k s h
event_holds w (Tell k) h may = tell_in w k h
event_holds w (Undo k) h may = undo_in w k h
event_holds w (Redo k) h may = redo_in w k h
event_holds w (Revoke k i live) h may = revoke_in w k i live h may
event_holds w (Send k) h may = send_in w k h
event_holds w (Serve k) h may = serve_in w k h
event_holds w (Take k) h may = take_in w k h

pub run_holds : (es : List Event) (w : Session) → SessionHolds w → AllMayHappen w es → SessionHolds (run w es)
run_holds [] w h may = h
run_holds (e ∷ es) w h may = run_holds es (happens w e) (event_holds w e h may.0) may.1

-- as it is opened
pub start_holds : (base : Replica) (sites : ℕ) → Sound base.items → AllIn base.store (cited base.items) → SessionHolds (started base sites)
start_holds base sites sound held = record { sound = sound; committed = tt; members = all sites }
  where
    all : (n : ℕ) → Every (MemberHolds base.items []) (replicate n (joining base))
    all zero = tt
    all (suc n) = (
      record {
        before = [];
        rest = [];
        split = refl;
        in_step = refl;
        turn = AtRest refl refl refl tt;
        site = record { seen = refl; list = refl; runs = tt; undone = tt; chain = omega arith; held = held };
      },
      all n,
    )
