-- What a site would tell leads from the list that it told last, whatever happened.
use Rattle.std.proofs.Common.{◌≡◌, ◌≤◌, ◌<◌, ℕ, zero, suc, ◌+◌, Bool, true, false, ◌==◌, nat_lt, if◌then◌else◌, eqb-true, List, [], ◌∷◌, ◌++◌, length, take, drop, replicate, slice_get, Option, Some, None, Result, Ok, Err, refl, sym, ap, ◌∙◌, subst, append-nil, arith}
use Rattle.std.proofs.lemmas.Bool.{eqb-false, ltb-false}
use Rattle.std.proofs.lemmas.List.{drop_all, length-append, length-take, take-append-drop, take_all}
use Rattle.model_items.specs.declared.plain_item.PlainItem.{PlainItem}
use Rattle.model_change.specs.Replay.{AllRun, flattened, replay, reversal}
use Rattle.model_change.specs.Transaction.{Transaction}
use Rattle.model_change.proofs.ReversalLaw.{reversal_undoes}
use Rattle.model_site.specs.Causes.{RedoCause, SendCause, UndoCause}
use Rattle.model_site.specs.Entries.{Entry, Parcel, all_reverted, parcels}
use Rattle.model_site.specs.Events.{Event, Perform, Redo, Revoke, Select, Send, Serve, Take, Tell, Undo, after_turn, at_member, happens, run, with_sent, with_site, with_site_of}
use Rattle.model_site.specs.Joined.{join_entries}
use Rattle.model_site.specs.Live.{RevokeCause, revocation}
use Rattle.model_site.specs.Replica.{Replica, all_performed}
use Rattle.model_site.specs.Session.{Ack, SiteFeed, Foreign, Member, Session, all_fed, feed_for, joining, put_member, serve_first, serve_next, started, take_first, take_next}
use Rattle.model_site.specs.Site.{Site, Submission, init_and_last, pending, redo, redo_first, revoke_by, revoke_entry, send, told, undo, undo_last, with_entry, with_selection, with_told, with_undone, with_entry_against, first_hint, hinted_entries}
use Rattle.model_site.specs.Take.{take_ack, take_entry, take_foreign}
use Rattle.model_site.specs.Untold.{Untold, max_patches, passed, patches_of, with_patches}
use Rattle.model_site.specs.Untold as untold
use Rattle.model_site_law.specs.Holds.{Holds, ground}
use Rattle.model_site_law.specs.MayHappen.{AllMayHappen, MayHappen}
use Rattle.model_site_law.specs.Protocol.{MemberHolds, SessionHolds}
use Rattle.model_site_law.specs.Sound.{AllMayRun, Sound}
use Rattle.model_site_law.specs.ViewLaws.{View, ViewHolds, list_of, patched, told_at, told_last, whole}
use Rattle.model_site_law.proofs.JoinedLemmas.{entries_join}
use Rattle.model_site_law.proofs.MemberLemmas.{feeds_run, sends}
use Rattle.model_site_law.proofs.ReplayLemmas.{AllMayRun_from_runs, AllRun-append, AllRun-parts, flattened-append, parcels-drop, replay-append, sound_after}
use Rattle.model_site_law.proofs.RevertLemmas.{items_all_reverted, items_performed, items_put_back}
use Rattle.model_site_law.proofs.ServeLemmas.{event_holds, start_holds}
use Rattle.model_site_law.proofs.SessionLemmas.{every_get, seen_runs, seen_sound}
use Rattle.model_site_law.proofs.ShownLemmas.{Shows, holes_show, length_shows, patched-append, transactions_lead, view_from_shows, whole_shows}
use Rattle.model_site_law.proofs.SiteLemmas.{foreign_holds, parted_is, pending_more, revoked_may, with_redone}

-- ---- one list

-- Unless they are too many, the patches lead from the list told last to this one.
pub record Leads (last : List PlainItem) (u : Untold) (items : List PlainItem) : Type 0 where
  pub was : u.was ≡ length last
  pub shows : length u.patches ≤ max_patches → Shows (patched u.patches (whole last)) items

-- with transactions that the list goes through
passed_leads : (ts : List Transaction) (last items : List PlainItem) (u : Untold) → AllMayRun ts items → Leads last u items →
    Leads last (passed ts u) (replay ts items)
passed_leads ts last items u may p = record { was = p.was; shows = shows }
  where
    shows : length (take (suc max_patches) (u.patches ++ patches_of ts)) ≤ max_patches →
        Shows (patched (take (suc max_patches) (u.patches ++ patches_of ts)) (whole last)) (replay ts items)
    shows few =
        let cut = length-take (suc max_patches) (u.patches ++ patches_of ts) in
        let sum = length-append u.patches (patches_of ts) in
        let within : length (u.patches ++ patches_of ts) ≤ suc max_patches = omega arith in
        let before : length u.patches ≤ max_patches = omega arith in
        subst (λ ps. Shows (patched ps (whole last)) (replay ts items)) (sym (take_all (suc max_patches) (u.patches ++ patches_of ts) within))
        (subst (λ v. Shows v (replay ts items)) (sym (patched-append u.patches (patches_of ts) (whole last)))
        (transactions_lead ts items (patched u.patches (whole last)) may (p.shows before)))

-- ---- one site

abbrev pub SiteLeads : List PlainItem → Site → Type 0
SiteLeads last s = Leads last s.untold s.replica.items

entry_leads : (taken : Option ℕ) (ts : List Transaction) (last : List PlainItem) (s : Site) → AllMayRun ts s.replica.items → SiteLeads last s →
    SiteLeads last (with_entry_against taken ts s)
entry_leads taken ts last s may p =
    subst (Leads last (passed ts s.untold)) (sym (items_performed ts s.replica)) (passed_leads ts last s.replica.items s.untold may p)

undo_leads : (base last : List PlainItem) (before : List Parcel) (s next : Site) → Sound (ground base before) → Holds base before s → undo s ≡ Ok next →
    SiteLeads last s → SiteLeads last next
undo_leads base last before s next sound h done p = by_last s.unsent refl done
  where
    by_last : (es : List Entry) → es ≡ s.unsent → undo_last es s ≡ Ok next → SiteLeads last next
    by_last [] e done = cc
    by_last (x ∷ es) e done =
        let q = init_and_last x es in
        let floor = ground base before in
        let old = flattened (parcels (s.sent ++ q.0)) in
        let split : flattened (parcels (pending s)) ≡ old ++ q.1.txs = ap (λ us. flattened (parcels (s.sent ++ us))) (sym (parted_is x es ∙ e)) ∙ pending_more s.sent q.0 q.1 in
        let parts = AllRun-parts old q.1.txs floor (subst (λ us. AllRun us floor) split h.runs) in
        let sound_old = sound_after old floor sound parts.0 in
        let list : s.replica.items ≡ replay q.1.txs (replay old floor) = h.list ∙ ap (λ us. replay us floor) split ∙ replay-append old q.1.txs floor in
        let back = subst (AllRun (reversal q.1.txs)) (sym list) (reversal_undoes q.1.txs (replay old floor) sound_old.lawful sound_old.apart parts.1).runs in
        let same : with_undone q.1 q.0 s ≡ next = cc in
        subst (SiteLeads last) same
        (subst (Leads last (passed (reversal q.1.txs) s.untold)) (sym (items_put_back (reversal q.1.txs) s.replica))
        (passed_leads (reversal q.1.txs) last s.replica.items s.untold (AllMayRun_from_runs (reversal q.1.txs) s.replica.items back) p))

redo_leads : (base last : List PlainItem) (before : List Parcel) (s next : Site) → Holds base before s → redo s ≡ Ok next → SiteLeads last s → SiteLeads last next
redo_leads base last before s next h done p = by_first s.undone refl done
  where
    by_first : (us : List Parcel) → us ≡ s.undone → redo_first us s ≡ Ok next → SiteLeads last next
    by_first [] e done = cc
    by_first (ts ∷ us) e done =
        let parts = AllRun-parts ts (flattened us) s.replica.items (subst (λ r. AllRun (flattened r) s.replica.items) (sym e) h.undone) in
        let same : with_redone ts us s ≡ next = cc in
        subst (SiteLeads last) same (entry_leads (first_hint s.undone_hints) ts last s (AllMayRun_from_runs ts s.replica.items parts.0) p)

take_entry_leads : (base last : List PlainItem) (before : List Parcel) (foreign : Parcel) (s : Site) → Sound (ground base before) → Holds base before s →
    AllRun foreign (ground base before) → SiteLeads last s → SiteLeads last (take_entry foreign s)
take_entry_leads base last before foreign s sound h run p =
    let floor = ground base before in
    let ps = parcels (pending s) in
    let j = join_entries foreign ps in
    let n = length j.kept in
    let dropped = drop n (pending s) in
    let stay = flattened (take n ps) in
    let gone = flattened (parcels dropped) in
    let split : flattened ps ≡ stay ++ gone =
    ap flattened (sym (take-append-drop n ps)) ∙ flattened-append (take n ps) (drop n ps) ∙ ap (λ r. stay ++ flattened r) (sym (parcels-drop n (pending s))) in
    let runs = AllRun-parts stay gone floor (subst (λ us. AllRun us floor) split h.runs) in
    let middle = replay stay floor in
    let middle_sound = sound_after stay floor sound runs.0 in
    let list : s.replica.items ≡ replay gone middle = h.list ∙ ap (λ us. replay us floor) split ∙ replay-append stay gone floor in
    let undoes = reversal_undoes gone middle middle_sound.lawful middle_sound.apart runs.1 in
    let back : replay (reversal gone) s.replica.items ≡ middle = ap (replay (reversal gone)) list ∙ undoes.back in
    let reverted = all_reverted dropped s.replica in
    let to_middle = items_all_reverted dropped s.replica middle middle_sound runs.1 list in
    let ts = reversal gone ++ j.committed in
    let all = AllRun-append (reversal gone) j.committed s.replica.items (subst (AllRun (reversal gone)) (sym list) undoes.runs)
    (subst (AllRun j.committed) (sym back) (entries_join foreign ps floor sound run h.runs).committed_run) in
    let now : (all_performed j.committed reverted).items ≡ replay ts s.replica.items =
    items_performed j.committed reverted ∙ ap (replay j.committed) (to_middle ∙ sym back) ∙ sym (replay-append (reversal gone) j.committed s.replica.items) in
    subst (Leads last (passed ts s.untold)) (sym now)
    (passed_leads ts last s.replica.items s.untold (AllMayRun_from_runs ts s.replica.items all) p)

take_foreign_leads : (base last : List PlainItem) (before ps : List Parcel) (s : Site) → Sound (ground base before) → AllRun (flattened ps) (ground base before) → Holds base before s →
    SiteLeads last s → SiteLeads last (take_foreign ps s)
take_foreign_leads base last before [] s sound runs h p = p
take_foreign_leads base last before (foreign ∷ ps) s sound runs h p =
    let parts = AllRun-parts foreign (flattened ps) (ground base before) runs in
    let floor : ground base (before ++ foreign ∷ []) ≡ replay foreign (ground base before) =
    ap (λ us. replay us base) (flattened-append before (foreign ∷ []) ∙ ap (λ r. flattened before ++ r) (append-nil foreign)) ∙ replay-append (flattened before) foreign base in
    take_foreign_leads base last (before ++ foreign ∷ []) ps (take_entry foreign s) (subst Sound (sym floor) (sound_after foreign (ground base before) sound parts.0))
    (subst (AllRun (flattened ps)) (sym floor) parts.1) (foreign_holds base before foreign s sound h parts.0)
    (take_entry_leads base last before foreign s sound h parts.0 p)

told_leads : (s : Site) → SiteLeads s.replica.items (with_told s)
told_leads s = record { was = refl; shows = λ few. whole_shows s.replica.items }

-- ---- the site at k among all

abbrev pub Of : (k : ℕ) → List PlainItem → List Member → Type 0
Of k last ms = (m : Member) → slice_get ms k ≡ Some m → SiteLeads last m.site

-- another member in the place of one: if it is the one at k, it leads from another list too
put_of : (j k : ℕ) (last next : List PlainItem) (n : Member) (ms : List Member) → Of k last ms → (j ≡ k → SiteLeads next n.site) → ((j ≡ k → ⊥) → last ≡ next) →
    Of k next (put_member j n ms)
put_of j k last next n [] all put other m e = cc
put_of zero zero last next n (o ∷ ms) all put other m e = let same : n ≡ m = cc in subst (λ (v : Member). SiteLeads next v.site) same (put refl)
put_of zero (suc k) last next n (o ∷ ms) all put other m e = subst (λ l. SiteLeads l m.site) (other (λ no. cc)) (all m e)
put_of (suc j) zero last next n (o ∷ ms) all put other m e = subst (λ l. SiteLeads l m.site) (other (λ no. cc)) (all m e)
put_of (suc j) (suc k) last next n (o ∷ ms) all put other m e =
    put_of j k last next n ms all (λ same. put (ap (λ i. suc i) same)) (λ no. other (λ same. no (let e : j ≡ k = cc in e))) m e

-- the list told last stays
keep_of : (j k : ℕ) (last : List PlainItem) (n : Member) (ms : List Member) → Of k last ms → (j ≡ k → SiteLeads last n.site) → Of k last (put_member j n ms)
keep_of j k last n ms all put = put_of j k last last n ms all put (λ no. refl)

fed_of : (sender from k : ℕ) (ps : List Parcel) (last : List PlainItem) (ms : List Member) → Of k last ms → Of k last (all_fed sender from ps ms)
fed_of sender from k ps last [] all m e = cc
fed_of sender from zero ps last (n ∷ ms) all m e =
    subst (λ (v : Member). SiteLeads last v.site) (let same : record n { feeds = n.feeds ++ feed_for sender from ps } ≡ m = cc in same) (all n refl)
fed_of sender from (suc k) ps last (n ∷ ms) all m e = fed_of sender (suc from) k ps last ms all m e

-- ---- events

module _ (w : Session) (h : SessionHolds w) (k : ℕ) (last : List PlainItem) (all : Of k last w.members) where
  holds_here : (j : ℕ) (m : Member) → slice_get w.members j ≡ Some m → MemberHolds w.base.items w.committed m
  holds_here j m e = every_get (MemberHolds w.base.items w.committed) w.members j m h.members e

  sound_here : (m : Member) (p : MemberHolds w.base.items w.committed m) → Sound (ground w.base.items p.before)
  sound_here m p = seen_sound w.base.items w.committed m h.sound h.committed p

  -- what is known of the member at j, if it is the one at k
  known : (j : ℕ) (m : Member) → slice_get w.members j ≡ Some m → j ≡ k → SiteLeads last m.site
  known j m e same = all m (subst (λ i. slice_get w.members i ≡ Some m) same e)

  keep : (j : ℕ) (m n : Member) → slice_get w.members j ≡ Some m → (SiteLeads last m.site → SiteLeads last n.site) → Of k last (put_member j n w.members)
  keep j m n e step = keep_of j k last n w.members all (λ same. step (known j m e same))

  event_leads : (e : Event) → MayHappen w e → Of k (told_at k w e last) (happens w e).members
  event_leads (Perform j ts) may = by_site (slice_get w.members j) refl
    where
      by_site : (o : Option Member) → slice_get w.members j ≡ o → Of k last (at_member w o (λ m. with_site j m (with_entry ts m.site) w)).members
      by_site None e = all
      by_site (Some m) e = keep j m (record m { site = with_entry ts m.site }) e (entry_leads None ts last m.site (may m e))
  event_leads (Select j s) may = by_site (slice_get w.members j) refl
    where
      by_site : (o : Option Member) → slice_get w.members j ≡ o → Of k last (at_member w o (λ m. with_site j m (with_selection s m.site) w)).members
      by_site None e = all
      by_site (Some m) e = keep j m (record m { site = with_selection s m.site }) e (λ p. p)
  event_leads (Tell j) may = by_number (j == k) refl
    where
      by_number : (b : Bool) → (j == k) ≡ b → Of k (if b then list_of (slice_get w.members k) else last) (happens w (Tell j)).members
      by_number true same = by_site (slice_get w.members j) refl
        where
          is_k : j ≡ k
          is_k = eqb-true j k same

          by_site : (o : Option Member) → slice_get w.members j ≡ o → Of k (list_of (slice_get w.members k)) (at_member w o (λ m. with_site j m (with_told m.site) w)).members
          by_site None e = λ m get. let none : None ≡ Some m = sym e ∙ ap (slice_get w.members) is_k ∙ get in cc
          by_site (Some m) e =
              let here : slice_get w.members k ≡ Some m = subst (λ i. slice_get w.members i ≡ Some m) is_k e in
              subst (λ o. Of k (list_of o) (put_member j (record m { site = with_told m.site }) w.members)) (sym here)
              (put_of j k last m.site.replica.items (record m { site = with_told m.site }) w.members all (λ it_is. told_leads m.site) (λ no. absurd (no is_k)))
      by_number false other = by_site (slice_get w.members j) refl
        where
          is_other : j ≡ k → ⊥
          is_other same = eqb-false j k other same

          by_site : (o : Option Member) → slice_get w.members j ≡ o → Of k last (at_member w o (λ m. with_site j m (with_told m.site) w)).members
          by_site None e = all
          by_site (Some m) e = keep_of j k last (record m { site = with_told m.site }) w.members all (λ same. absurd (is_other same))
  event_leads (Undo j) may = by_site (slice_get w.members j) refl
    where
      by_result : (m : Member) → slice_get w.members j ≡ Some m → (r : Result Site UndoCause) → undo m.site ≡ r → Of k last (with_site_of j m r w).members
      by_result m e (Err f) d = all
      by_result m e (Ok site) d =
          let p = holds_here j m e in keep j m (record m { site = site }) e (undo_leads w.base.items last p.before m.site site (sound_here m p) p.site d)

      by_site : (o : Option Member) → slice_get w.members j ≡ o → Of k last (at_member w o (λ m. with_site_of j m (undo m.site) w)).members
      by_site None e = all
      by_site (Some m) e = by_result m e (undo m.site) refl
  event_leads (Redo j) may = by_site (slice_get w.members j) refl
    where
      by_result : (m : Member) → slice_get w.members j ≡ Some m → (r : Result Site RedoCause) → redo m.site ≡ r → Of k last (with_site_of j m r w).members
      by_result m e (Err f) d = all
      by_result m e (Ok site) d =
          let p = holds_here j m e in keep j m (record m { site = site }) e (redo_leads w.base.items last p.before m.site site p.site d)

      by_site : (o : Option Member) → slice_get w.members j ≡ o → Of k last (at_member w o (λ m. with_site_of j m (redo m.site) w)).members
      by_site None e = all
      by_site (Some m) e = by_result m e (redo m.site) refl
  event_leads (Revoke j i live) may = by_site (slice_get w.members j) refl
    where
      by_result : (m : Member) → slice_get w.members j ≡ Some m → i < m.site.seen → (r : Result (List Transaction) RevokeCause) →
          revocation live (hinted_entries w.committed w.hints m.site) i ≡ r →
          Of k last (with_site_of j m (revoke_by i r m.site) w).members
      by_result m e below (Err cause) d = all
      by_result m e below (Ok back) d =
          let p = holds_here j m e in
          keep j m (record m { site = with_entry_against (Some i) back m.site }) e
          (entry_leads (Some i) back last m.site (revoked_may w.base.items p.before p.rest w.committed w.hints live i m.site back h.sound (seen_runs w.base.items w.committed m h.committed p) p.split p.site below d))

      by_site : (o : Option Member) → slice_get w.members j ≡ o → Of k last (at_member w o (λ m. with_site_of j m (revoke_entry w.committed w.hints live i m.site) w)).members
      by_site None e = all
      by_site (Some m) e = by_result m e (may m e) (revocation live (hinted_entries w.committed w.hints m.site) i) refl
  event_leads (Send j) may = by_site (slice_get w.members j) refl
    where
      by_result : (m : Member) → slice_get w.members j ≡ Some m → (r : Result (Site × Submission) SendCause) → send m.site ≡ r → Of k last (with_sent j m r w).members
      by_result m e (Err f) d = all
      by_result m e (Ok r) d =
          let s = sends m.site r d in
          keep j m (record { site = r.0; submissions = m.submissions ++ r.1 ∷ []; feeds = m.feeds }) e
          (λ p. subst (λ (u : Untold). Leads last u r.0.replica.items) (sym s.untold) (subst (λ (v : Replica). Leads last m.site.untold v.items) (sym s.replica) p))

      by_site : (o : Option Member) → slice_get w.members j ≡ o → Of k last (at_member w o (λ m. with_sent j m (send m.site) w)).members
      by_site None e = all
      by_site (Some m) e = by_result m e (send m.site) refl
  event_leads (Serve j) may = by_site (slice_get w.members j) refl
    where
      by_queue : (m : Member) → slice_get w.members j ≡ Some m → (ss : List Submission) → Of k last (after_turn w (serve_first j m ss w)).members
      by_queue m e [] = all
      by_queue m e (s ∷ later) = fed_of j 0 k _ last _ (keep j m (record m { submissions = later }) e (λ p. p))

      by_site : (o : Option Member) → slice_get w.members j ≡ o → Of k last (at_member w o (λ m. after_turn w (serve_next j m w))).members
      by_site None e = all
      by_site (Some m) e = by_queue m e m.submissions
  event_leads (Take j) may = by_site (slice_get w.members j) refl
    where
      by_feed : (m : Member) → slice_get w.members j ≡ Some m → (fs : List SiteFeed) → m.feeds ≡ fs → Of k last (after_turn w (take_first j m fs w)).members
      by_feed m e [] f = all
      by_feed m e (Foreign ps ∷ fs) f =
          let p = holds_here j m e in
          let fed = feeds_run w.base.items w.committed ps fs m h.sound h.committed f p in
          keep j m (record m { site = take_foreign ps m.site; feeds = fs }) e (take_foreign_leads w.base.items last p.before ps m.site fed.sound fed.runs p.site)
      by_feed m e (Ack n ∷ fs) f = keep j m (record m { site = take_ack m.site; feeds = fs }) e (λ p. p)

      by_site : (o : Option Member) → slice_get w.members j ≡ o → Of k last (at_member w o (λ m. after_turn w (take_next j m w))).members
      by_site None e = all
      by_site (Some m) e = by_feed m e m.feeds refl

pub run_leads : (k : ℕ) (es : List Event) (w : Session) (last : List PlainItem) → SessionHolds w → Of k last w.members → AllMayHappen w es →
    Of k (told_last k w es last) (run w es).members
run_leads k [] w last h all may = all
run_leads k (e ∷ es) w last h all may =
    run_leads k es (happens w e) (told_at k w e last) (event_holds w e h may.0) (event_leads w h k last all e may.0) may.1

pub starts_of : (k n : ℕ) (base : Replica) → Of k [] (replicate n (joining base))
starts_of k zero base m e = cc
starts_of zero (suc n) base m e =
    let same : joining base ≡ m = cc in
    subst (λ (v : Member). SiteLeads [] v.site) same (record { was = refl; shows = λ few. first })
  where
    first : Shows (take 0 [] ++ (replicate (length base.items) None ++ drop 0 [])) base.items
    first = subst (λ v. Shows v base.items) (sym (append-nil (replicate (length base.items) None))) (holes_show base.items)
starts_of (suc k) (suc n) base m e = starts_of k n base m e

-- what is told shows the list, many patches or few
pub told_shows : (last items : List PlainItem) (u : Untold) → Leads last u items → Shows (patched (untold.told (length items) u) (whole last)) items
told_shows last items u p = by_count (nat_lt max_patches (length u.patches)) refl
  where
    by_count : (b : Bool) → nat_lt max_patches (length u.patches) ≡ b →
        Shows (patched (if b then record { at = 0; removed = u.was; inserted = length items } ∷ [] else u.patches) (whole last)) items
    by_count false few = p.shows (ltb-false max_patches (length u.patches) few)
    by_count true many = subst (λ v. Shows v items) (sym one_for_all) (holes_show items)
      where
        holes : View
        holes = replicate (length items) None

        one_for_all : holes ++ drop (0 + u.was) (whole last) ≡ holes
        one_for_all =
            let long = length_shows (whole last) last (whole_shows last) in
            let told = p.was in
            ap (λ l. holes ++ l) (drop_all (0 + u.was) (whole last) (omega arith)) ∙ append-nil holes

pub view_holds : ViewHolds
view_holds base sites events k m opens may e =
    let last = told_last k (started base sites) events [] in
    let h = start_holds base sites opens.sound opens.stored in
    view_from_shows (patched (told m.site) (whole last)) m.site.replica.items
    (told_shows last m.site.replica.items m.site.untold (run_leads k events (started base sites) [] h (starts_of k sites base) may m e))
