-- The invariant of a site with its queues is kept by what the site does.
use Rattle.std.proofs.Common.{◌≡◌, ℕ, suc, ◌+◌, List, [], ◌∷◌, ◌++◌, length, take, Option, Some, None, Ok, refl, sym, ap, ◌∙◌, subst}
use Rattle.std.proofs.lemmas.List.{append_assoc, append-nil, length-append}
use Rattle.model_items.specs.declared.plain_item.PlainItem.{PlainItem}
use Rattle.model_change.specs.Replay.{AllRun, flattened, replay}
use Rattle.model_change.specs.Store.{cited}
use Rattle.model_site.specs.Entries.{Entry, Parcel, hints, parcels}
use Rattle.model_site.specs.Joined.{join_entries}
use Rattle.model_site.specs.Replica.{Replica}
use Rattle.model_site.specs.Session.{Ack, SiteFeed, Foreign, Member}
use Rattle.model_site.specs.Site.{Site, Submission, pending, send, send_unless}
use Rattle.model_site.specs.Take.{parcel_entries, take_ack, take_entry, take_foreign}
use Rattle.model_site_law.specs.Chain.{Chain}
use Rattle.model_site_law.specs.Holds.{Holds, ground}
use Rattle.model_site_law.specs.Protocol.{Answered, AtRest, InStep, MemberHolds, NoAck, OneAck, Submitted, Turn}
use Rattle.model_site_law.specs.Sound.{AllIn, Sound}
use Rattle.model_site_law.proofs.AcceptLemmas.{kept-append, kept-nil}
use Rattle.model_site_law.proofs.ChainLemmas.{chain_rest}
use Rattle.model_site_law.proofs.JoinedLemmas.{first_part}
use Rattle.model_site_law.proofs.ReplayLemmas.{AllRun-parts, flattened-append, parcels-append, parcels-noted, parcels-take, replay-append, sound_after}
use Rattle.model_site_law.proofs.SiteLemmas.{foreign_holds}

length-parcels : (es : List Entry) → length (parcels es) ≡ length es
length-parcels [] = refl
length-parcels (e ∷ es) = ap (λ n. suc n) (length-parcels es)

-- ---- queues of feeds

-- without an acknowledgement, what is sent doesn't matter
no_ack_any : (rest sent other : List Parcel) (feeds : List SiteFeed) → NoAck feeds → InStep rest sent feeds → InStep rest other feeds
no_ack_any rest sent other [] n i = i
no_ack_any rest sent other (Foreign ps ∷ feeds) n i = (i.0, i.1, no_ack_any i.0 _ _ feeds n i.2)
no_ack_any rest sent other (Ack k ∷ feeds) n i = absurd n

-- more is committed, and is fed
pub more_fed : (rest sent ps : List Parcel) (feeds : List SiteFeed) → InStep rest sent feeds → InStep (rest ++ ps) sent (feeds ++ Foreign ps ∷ [])
more_fed rest sent ps [] i = ([], ap (λ r. r ++ ps) i ∙ sym (append-nil ps), refl)
more_fed rest sent ps (Foreign qs ∷ feeds) i =
    (i.0 ++ ps, ap (λ r. r ++ ps) i.1 ∙ append_assoc qs i.0 ps, more_fed i.0 _ ps feeds i.2)
more_fed rest sent ps (Ack n ∷ feeds) i =
    (i.0 ++ ps, ap (λ r. r ++ ps) i.1 ∙ append_assoc sent i.0 ps, i.2, more_fed i.0 [] ps feeds i.3)

pub no_ack_more : (ps : List Parcel) (feeds : List SiteFeed) → NoAck feeds → NoAck (feeds ++ Foreign ps ∷ [])
no_ack_more ps [] n = tt
no_ack_more ps (Foreign qs ∷ feeds) n = no_ack_more ps feeds n
no_ack_more ps (Ack k ∷ feeds) n = absurd n

pub one_ack_more : (ps : List Parcel) (feeds : List SiteFeed) → OneAck feeds → OneAck (feeds ++ Foreign ps ∷ [])
one_ack_more ps [] n = absurd n
one_ack_more ps (Foreign qs ∷ feeds) n = one_ack_more ps feeds n
one_ack_more ps (Ack k ∷ feeds) n = no_ack_more ps feeds n

pub one_ack_from : (k : ℕ) (feeds : List SiteFeed) → NoAck feeds → OneAck (feeds ++ Ack k ∷ [])
one_ack_from k [] n = tt
one_ack_from k (Foreign qs ∷ feeds) n = one_ack_from k feeds n
one_ack_from k (Ack j ∷ feeds) n = absurd n

-- what is accepted of what is sent is committed and acknowledged
pub acknowledged : (rest sent : List Parcel) (feeds : List SiteFeed) → NoAck feeds → InStep rest sent feeds →
    InStep (rest ++ (join_entries (flattened rest) sent).kept) sent (feeds ++ Ack (length (join_entries (flattened rest) sent).kept) ∷ [])
acknowledged rest sent [] n i =
    subst (λ r. InStep (r ++ (join_entries (flattened r) sent).kept) sent (Ack (length (join_entries (flattened r) sent).kept) ∷ [])) (sym i)
    ([], kept-nil sent ∙ sym (append-nil sent), ap length (kept-nil sent), refl)
acknowledged rest sent (Foreign ps ∷ feeds) n i =
    let sent1 = (join_entries (flattened ps) sent).kept in
    let later = acknowledged i.0 sent1 feeds n i.2 in
    let same : (join_entries (flattened rest) sent).kept ≡ (join_entries (flattened i.0) sent1).kept =
    ap (λ r. (join_entries r sent).kept) (ap flattened i.1 ∙ flattened-append ps i.0) ∙ kept-append (flattened ps) (flattened i.0) sent in
    subst (λ a. InStep (rest ++ a) sent (Foreign ps ∷ (feeds ++ Ack (length a) ∷ []))) (sym same)
    (i.0 ++ (join_entries (flattened i.0) sent1).kept, ap (λ r. r ++ (join_entries (flattened i.0) sent1).kept) i.1 ∙ append_assoc ps i.0 _, later)
acknowledged rest sent (Ack k ∷ feeds) n i = absurd n

-- ---- a feed of foreign entries

record TookForeign (base : List PlainItem) (before : List Parcel) (ps : List Parcel) (s next : Site) : Type 0 where
  holds : Holds base (before ++ ps) next
  sent : parcels next.sent ≡ (join_entries (flattened ps) (parcels s.sent)).kept
  in_flight : next.in_flight ≡ s.in_flight

sent_after : (p : Parcel) (s : Site) → parcels (take_entry p s).sent ≡ (join_entries p (parcels s.sent)).kept
sent_after p s =
    let j = join_entries p (parcels (pending s)) in
    let n = length (take_entry p s).replica.store in
    parcels-take (length s.sent) (parcel_entries n (hints (pending s)) j.kept) ∙ ap (take (length s.sent)) (parcels-noted n (hints (pending s)) j.kept)
    ∙ ap (λ r. take (length s.sent) (join_entries p r).kept) (parcels-append s.sent s.unsent)
    ∙ ap (λ r. take r (join_entries p (parcels s.sent ++ parcels s.unsent)).kept) (sym (length-parcels s.sent))
    ∙ first_part p (parcels s.sent) (parcels s.unsent)

foreign_taken : (base : List PlainItem) (before ps : List Parcel) (s : Site) → Sound (ground base before) → AllRun (flattened ps) (ground base before) → Holds base before s →
    TookForeign base before ps s (take_foreign ps s)
foreign_taken base before [] s sound runs h =
    record {
      holds = subst (λ b. Holds base b (take_foreign [] s)) (sym (append-nil before)) (record { seen = h.seen; list = h.list; runs = h.runs; undone = tt; chain = h.chain; held = h.held });
      sent = sym (kept-nil (parcels s.sent));
      in_flight = refl;
    }
foreign_taken base before (p ∷ ps) s sound runs h =
    let parts = AllRun-parts p (flattened ps) (ground base before) runs in
    let floor : ground base (before ++ p ∷ []) ≡ replay p (ground base before) =
    ap (λ us. replay us base) (flattened-append before (p ∷ []) ∙ ap (λ r. flattened before ++ r) (append-nil p)) ∙ replay-append (flattened before) p base in
    let one = foreign_holds base before p s sound h parts.0 in
    let rest = foreign_taken base (before ++ p ∷ []) ps (take_entry p s) (subst Sound (sym floor) (sound_after p (ground base before) sound parts.0))
    (subst (AllRun (flattened ps)) (sym floor) parts.1) one in
    record {
      holds = subst (λ b. Holds base b (take_foreign ps (take_entry p s))) (append_assoc before (p ∷ []) ps) rest.holds;
      sent = rest.sent ∙ ap (λ r. (join_entries (flattened ps) r).kept) (sent_after p s) ∙ sym (kept-append p (flattened ps) (parcels s.sent));
      in_flight = rest.in_flight;
    }

-- ---- taking

turn_after_foreign : (base : List PlainItem) (committed rest later ps : List Parcel) (m next : Member) (feeds : List SiteFeed) →
    m.feeds ≡ Foreign ps ∷ feeds → next.feeds ≡ feeds → next.submissions ≡ m.submissions → next.site.in_flight ≡ m.site.in_flight →
    parcels next.site.sent ≡ (join_entries (flattened ps) (parcels m.site.sent)).kept → rest ≡ ps ++ later →
    Turn base committed rest m → Turn base committed later next
turn_after_foreign base committed rest later ps m next feeds f f' q g e split (AtRest a b c n) =
    AtRest (g ∙ a) (q ∙ b) (e ∙ ap (λ r. (join_entries (flattened ps) r).kept) c) (subst NoAck (sym f') (subst NoAck f n))
turn_after_foreign base committed rest later ps m next feeds f f' q g e split (Submitted k s a b n w) =
    Submitted k s (g ∙ a) (q ∙ b) (subst NoAck (sym f') (subst NoAck f n)) (record {
      old = w.old;
      new = w.new;
      split = w.split;
      from = w.from;
      runs = w.runs;
      as_kept = ap (λ r. (join_entries (flattened later) r).kept) e
          ∙ sym (kept-append (flattened ps) (flattened later) (parcels m.site.sent))
          ∙ ap (λ r. (join_entries r (parcels m.site.sent)).kept) (sym (ap flattened split ∙ flattened-append ps later))
          ∙ w.as_kept;
    })
turn_after_foreign base committed rest later ps m next feeds f f' q g e split (Answered k a b n) =
    Answered k (g ∙ a) (q ∙ b) (subst OneAck (sym f') (subst OneAck f n))

-- the ground is sound, and what is fed runs from it
pub record Feeds (base : List PlainItem) (before ps : List Parcel) : Type 0 where
  pub sound : Sound (ground base before)
  pub runs : AllRun (flattened ps) (ground base before)

pub feeds_run : (base : List PlainItem) (committed : List Parcel) (ps : List Parcel) (feeds : List SiteFeed) (m : Member) → Sound base → AllRun (flattened committed) base →
    m.feeds ≡ Foreign ps ∷ feeds → (h : MemberHolds base committed m) → Feeds base h.before ps
feeds_run base committed ps feeds m sound runs f h =
    let step = subst (InStep h.rest (parcels m.site.sent)) f h.in_step in
    let later = step.0 in
    let whole : h.before ++ (ps ++ later) ≡ committed = ap (λ r. h.before ++ r) (sym step.1) ∙ h.split in
    let flat : flattened committed ≡ flattened h.before ++ (flattened ps ++ flattened later) =
    ap flattened (sym whole) ∙ flattened-append h.before (ps ++ later) ∙ ap (λ r. flattened h.before ++ r) (flattened-append ps later) in
    let first = AllRun-parts (flattened h.before) (flattened ps ++ flattened later) base (subst (λ us. AllRun us base) flat runs) in
    record {
      sound = sound_after (flattened h.before) base sound first.0;
      runs = (AllRun-parts (flattened ps) (flattened later) (ground base h.before) first.1).0;
    }

pub foreign_feed_holds : (base : List PlainItem) (committed : List Parcel) (ps : List Parcel) (feeds : List SiteFeed) (m : Member) →
    Sound base → AllRun (flattened committed) base → m.feeds ≡ Foreign ps ∷ feeds → MemberHolds base committed m →
    MemberHolds base committed (record m { site = take_foreign ps m.site; feeds = feeds })
foreign_feed_holds base committed ps feeds m sound runs f h =
    let step = subst (InStep h.rest (parcels m.site.sent)) f h.in_step in
    let later = step.0 in
    let fed = feeds_run base committed ps feeds m sound runs f h in
    let taken = foreign_taken base h.before ps m.site fed.sound fed.runs h.site in
    let next : Member = record m { site = take_foreign ps m.site; feeds = feeds } in
    record {
      before = h.before ++ ps;
      rest = later;
      split = append_assoc h.before ps later ∙ ap (λ r. h.before ++ r) (sym step.1) ∙ h.split;
      site = taken.holds;
      in_step = subst (λ r. InStep later r feeds) (sym taken.sent) step.2;
      turn = turn_after_foreign base committed h.rest later ps m next feeds f refl refl taken.in_flight taken.sent step.1 h.turn;
    }

ack_ends : (base : List PlainItem) (committed rest : List Parcel) (n : ℕ) (feeds : List SiteFeed) (m : Member) →
    m.feeds ≡ Ack n ∷ feeds → Turn base committed rest m → (m.submissions ≡ []) × NoAck feeds
ack_ends base committed rest n feeds m f (AtRest a b c none) = absurd (subst NoAck f none)
ack_ends base committed rest n feeds m f (Submitted k s a b none w) = absurd (subst NoAck f none)
ack_ends base committed rest n feeds m f (Answered k a b one) = (b, subst OneAck f one)

pub ack_holds : (base : List PlainItem) (committed : List Parcel) (n : ℕ) (feeds : List SiteFeed) (m : Member) →
    m.feeds ≡ Ack n ∷ feeds → MemberHolds base committed m →
    MemberHolds base committed (record m { site = take_ack m.site; feeds = feeds })
ack_holds base committed n feeds m f h =
    let step = subst (InStep h.rest (parcels m.site.sent)) f h.in_step in
    let s = m.site in
    let sent = parcels s.sent in
    let over : flattened (parcels (pending s)) ≡ flattened sent ++ flattened (parcels s.unsent) =
    ap flattened (parcels-append s.sent s.unsent) ∙ flattened-append sent (parcels s.unsent) in
    let floor : ground base (h.before ++ sent) ≡ replay (flattened sent) (ground base h.before) =
    ap (λ us. replay us base) (flattened-append h.before sent) ∙ replay-append (flattened h.before) (flattened sent) base in
    let parts = AllRun-parts (flattened sent) (flattened (parcels s.unsent)) (ground base h.before) (subst (λ us. AllRun us (ground base h.before)) over h.site.runs) in
    let end = ack_ends base committed h.rest n feeds m f h.turn in
    record {
      before = h.before ++ sent;
      rest = step.0;
      split = append_assoc h.before sent step.0 ∙ ap (λ r. h.before ++ r) (sym step.1) ∙ h.split;
      site = record {
        seen = length-append h.before sent ∙ ap (λ k. k + length sent) h.site.seen ∙ ap (λ k. s.seen + k) (length-parcels s.sent);
        list = h.site.list ∙ ap (λ us. replay us (ground base h.before)) over ∙ replay-append (flattened sent) (flattened (parcels s.unsent)) (ground base h.before)
            ∙ ap (replay (flattened (parcels s.unsent))) (sym floor);
        runs = subst (AllRun (flattened (parcels s.unsent))) (sym floor) parts.1;
        undone = tt;
        chain = subst (λ i. Chain s.replica.store 0 i s.unsent) (sym floor) (chain_rest s.replica.store 0 (ground base h.before) s.sent s.unsent h.site.chain);
        held = h.site.held;
      };
      in_step = step.3;
      turn = AtRest refl end.0 refl end.1;
    }

-- the number acknowledged is the number that the site still holds as sent
pub ack_counts : (base : List PlainItem) (committed : List Parcel) (n : ℕ) (feeds : List SiteFeed) (m : Member) →
    m.feeds ≡ Ack n ∷ feeds → MemberHolds base committed m → n ≡ length m.site.sent
ack_counts base committed n feeds m f h = (subst (InStep h.rest (parcels m.site.sent)) f h.in_step).2 ∙ length-parcels m.site.sent

-- ---- send_unless

nil_from_parcels : (es : List Entry) → parcels es ≡ [] → es ≡ []
nil_from_parcels [] h = refl
nil_from_parcels (e ∷ es) h = cc

-- the site after it sent, and its submission
pub record Sends (s : Site) (r : Site × Submission) : Type 0 where
  pub idle : s.in_flight ≡ None
  pub sent : r.0.sent ≡ s.sent ++ s.unsent
  pub unsent : r.0.unsent ≡ []
  pub replica : r.0.replica ≡ s.replica
  pub untold : r.0.untold ≡ s.untold
  pub seen : r.0.seen ≡ s.seen
  pub undone : r.0.undone ≡ s.undone
  pub count : ℕ
  pub in_flight : r.0.in_flight ≡ Some count
  pub base : r.1.base ≡ s.seen
  pub entries : r.1.entries ≡ parcels s.unsent

pub sends : (s : Site) (r : Site × Submission) → send s ≡ Ok r → Sends s r
sends s r done = by_state s.in_flight s.unsent refl refl done
  where
    by_state : (f : Option ℕ) (es : List Entry) → f ≡ s.in_flight → es ≡ s.unsent → send_unless f es s ≡ Ok r → Sends s r
    by_state (Some n) es f u done = cc
    by_state None [] f u done = cc
    by_state None (e ∷ es) f u done =
        let new : Site = record s { sent = s.sent ++ e ∷ es; unsent = []; shared = s.shared + length (e ∷ es); in_flight = Some (length (e ∷ es)) } in
        let sub : Submission = record { base = s.seen; entries = parcels (e ∷ es); hints = hints (e ∷ es) } in
        let same : ◌≡◌ {A = Site × Submission} (new, sub) r = cc in
        subst (Sends s) same (record {
          idle = sym f;
          sent = ap (λ us. s.sent ++ us) u;
          unsent = refl;
          replica = refl;
          untold = refl;
          seen = refl;
          undone = refl;
          count = length (e ∷ es);
          in_flight = refl;
          base = refl;
          entries = ap parcels u;
        })

idle_turn : (base : List PlainItem) (committed rest : List Parcel) (m : Member) → m.site.in_flight ≡ None → Turn base committed rest m →
    (m.submissions ≡ []) × (parcels m.site.sent ≡ []) × NoAck m.feeds
idle_turn base committed rest m f (AtRest a b c n) = (b, c, n)
idle_turn base committed rest m f (Submitted k s a b n w) = cc
idle_turn base committed rest m f (Answered k a b n) = cc

pub send_holds : (base : List PlainItem) (committed : List Parcel) (m : Member) (r : Site × Submission) → send m.site ≡ Ok r → MemberHolds base committed m →
    MemberHolds base committed (record { site = r.0; submissions = m.submissions ++ r.1 ∷ []; feeds = m.feeds })
send_holds base committed m r done h =
    let s = m.site in
    let d = sends s r done in
    let idle = idle_turn base committed h.rest m d.idle h.turn in
    let next : Member = record { site = r.0; submissions = m.submissions ++ r.1 ∷ []; feeds = m.feeds } in
    let same : pending r.0 ≡ pending s = ap (λ us. us ++ r.0.unsent) d.sent ∙ ap (λ us. (s.sent ++ s.unsent) ++ us) d.unsent ∙ append-nil (s.sent ++ s.unsent) in
    let mine : pending s ≡ s.unsent = ap (λ us. us ++ s.unsent) (nil_from_parcels s.sent idle.1) in
    let sent_is : parcels r.0.sent ≡ r.1.entries = ap parcels (d.sent ∙ mine) ∙ sym d.entries in
    record {
      before = h.before;
      rest = h.rest;
      split = h.split;
      site = record {
        seen = h.site.seen ∙ sym d.seen;
        list = ap (λ (t : Replica). t.items) d.replica ∙ h.site.list ∙ ap (λ es. replay (flattened (parcels es)) (ground base h.before)) (sym same);
        runs = subst (λ es. AllRun (flattened (parcels es)) (ground base h.before)) (sym same) h.site.runs;
        undone = subst (λ us. AllRun (flattened us) r.0.replica.items) (sym d.undone) (subst (λ (t : Replica). AllRun (flattened s.undone) t.items) (sym d.replica) h.site.undone);
        chain = subst (λ es. Chain r.0.replica.store 0 (ground base h.before) es) (sym same)
            (subst (λ (t : Replica). Chain t.store 0 (ground base h.before) (pending s)) (sym d.replica) h.site.chain);
        held = subst (λ (t : Replica). AllIn t.store (cited t.items)) (sym d.replica) h.site.held;
      };
      in_step = no_ack_any h.rest (parcels s.sent) (parcels r.0.sent) m.feeds idle.2 h.in_step;
      turn = Submitted d.count r.1 d.in_flight (ap (λ q. q ++ r.1 ∷ []) idle.0) idle.2 (record {
        old = h.before;
        new = h.rest;
        split = h.split;
        from = h.site.seen ∙ sym d.base;
        runs = subst (λ ps. AllRun (flattened ps) (ground base h.before)) (ap parcels mine ∙ sym d.entries) h.site.runs;
        as_kept = ap (λ ps. (join_entries (flattened h.rest) ps).kept) sent_is;
      });
    }
