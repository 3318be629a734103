-- The laws, from what always holds.
use Rattle.std.proofs.Common.{◌≡◌, ℕ, List, [], ◌∷◌, ◌++◌, take, slice_get, Some, Result, Ok, Err, Option, None, refl, sym, ap, ◌∙◌, subst, false, ◌<◌, length}
use Rattle.std.proofs.lemmas.List.{length-map}
use Rattle.model_items.specs.declared.plain_item.PlainItem.{PlainItem}
use Rattle.model_change.specs.Replay.{AllRun, flattened, made_before, replay, revoke, reversal}
use Rattle.model_change.specs.Store.{cited}
use Rattle.model_change.specs.Transaction.{Transaction}
use Rattle.model_change.proofs.ReversalLaw.{revoke_takes_back}
use Rattle.model_site.specs.Entries.{parcels, Parcel}
use Rattle.model_site.specs.Events.{Event, Perform, Redo, Revoke, Select, Send, Serve, Take, Tell, Undo, after_turn, at_member, happens, run, with_sent, with_site_of}
use Rattle.model_site.specs.Live.{Hinted, RevokeCause, revocation, unhinted, revoke_live}
use Rattle.model_site.specs.Replica.{Replica}
use Rattle.model_site.specs.Session.{SiteFeed, Member, Session, serve_first, started, take_first}
use Rattle.model_site.specs.Site.{Site, Submission, entries_of, redo, revoke_by, revoke_entry, send, undo, with_entry_against, hinted_entries}
use Rattle.model_site_law.specs.KeptLaws.{HoldsAtFirst}
use Rattle.model_site_law.specs.Laws.{AckCounts, CommittedRun, EntriesRun, FirstReplicaOpens, IsWithout, ListIsReplay, ListIsSound, OneList, RevokeLeavesOut, StoreHolds, IsWithoutAmong, LiveRevokeIsWithout, LiveRevokeGivesBack}
use Rattle.model_site_law.specs.LiveLaws.{RunFrom, list_after, own_of}
use Rattle.model_site_law.specs.MayHappen.{AllMayHappen}
use Rattle.model_site_law.specs.Protocol.{MemberHolds, SessionHolds}
use Rattle.model_site_law.specs.Sound.{Opens, Sound}
use Rattle.model_site_law.proofs.LiveLemmas.{in_conflict-ok, live_revoke_leaves_out, nothing_stands_above}
use Rattle.model_site_law.proofs.MemberLemmas.{ack_counts}
use Rattle.model_site_law.proofs.ReplayLemmas.{sound_after}
use Rattle.model_site_law.proofs.RevertLemmas.{items_performed}
use Rattle.model_site_law.proofs.ServeLemmas.{run_holds, start_holds}
use Rattle.model_site_law.proofs.SessionLemmas.{every_get, seen_runs}
use Rattle.model_site_law.proofs.SiteLemmas.{entries_run, list_is, hinted_are}
use Rattle.model_site_law.proofs.StoreLemmas.{fill_has}

-- ---- the base stays

base_at : (w : Session) (o : Option Member) (f : Member → Session) → ((m : Member) → (f m).base ≡ w.base) → (at_member w o f).base ≡ w.base
base_at w None f h = refl
base_at w (Some m) f h = h m

base_result : {F : Type 0} (w : Session) (k : ℕ) (m : Member) (r : Result Site F) → (with_site_of k m r w).base ≡ w.base
base_result w k m (Ok s) = refl
base_result w k m (Err f) = refl

base_sent : {F : Type 0} (w : Session) (k : ℕ) (m : Member) (r : Result (Site × Submission) F) → (with_sent k m r w).base ≡ w.base
base_sent w k m (Ok r) = refl
base_sent w k m (Err f) = refl

base_served : (w : Session) (k : ℕ) (m : Member) (ss : List Submission) → (after_turn w (serve_first k m ss w)).base ≡ w.base
base_served w k m [] = refl
base_served w k m (s ∷ later) = refl

base_taken : (w : Session) (k : ℕ) (m : Member) (fs : List SiteFeed) → (after_turn w (take_first k m fs w)).base ≡ w.base
base_taken w k m [] = refl
base_taken w k m (f ∷ later) = refl

pub base_stays : (w : Session) (e : Event) → (happens w e).base ≡ w.base
base_stays w (Perform k ts) = base_at w (slice_get w.members k) _ (λ m. refl)
base_stays w (Select k s) = base_at w (slice_get w.members k) _ (λ m. refl)
base_stays w (Tell k) = base_at w (slice_get w.members k) _ (λ m. refl)
base_stays w (Undo k) = base_at w (slice_get w.members k) _ (λ m. base_result w k m (undo m.site))
base_stays w (Redo k) = base_at w (slice_get w.members k) _ (λ m. base_result w k m (redo m.site))
base_stays w (Revoke k i live) = base_at w (slice_get w.members k) _ (λ m. base_result w k m (revoke_entry w.committed w.hints live i m.site))
base_stays w (Send k) = base_at w (slice_get w.members k) _ (λ m. base_sent w k m (send m.site))
base_stays w (Serve k) = base_at w (slice_get w.members k) _ (λ m. base_served w k m m.submissions)
base_stays w (Take k) = base_at w (slice_get w.members k) _ (λ m. base_taken w k m m.feeds)

pub run_base : (es : List Event) (w : Session) → (run w es).base ≡ w.base
run_base [] w = refl
run_base (e ∷ es) w = run_base es (happens w e) ∙ base_stays w e

-- ---- at the end

-- what holds in the end, over the base that was there first
pub record AtEnd (base : List PlainItem) (w : Session) (m : Member) : Type 0 where
  pub sound : Sound base
  pub committed : AllRun (flattened w.committed) base
  pub member : MemberHolds base w.committed m

pub holds_in_end : (base : Replica) (sites : ℕ) (events : List Event) → Opens base → AllMayHappen (started base sites) events → SessionHolds (run (started base sites) events)
holds_in_end base sites events opens may = run_holds events (started base sites) (start_holds base sites opens.sound opens.stored) may

pub committed_run : CommittedRun
committed_run base sites events opens may =
    subst (λ (b : Replica). AllRun (flattened (run (started base sites) events).committed) b.items) (run_base events (started base sites)) (holds_in_end base sites events opens may).committed

pub at_end : (base : Replica) (sites : ℕ) (events : List Event) (k : ℕ) (m : Member) → Opens base → AllMayHappen (started base sites) events →
    slice_get (run (started base sites) events).members k ≡ Some m → AtEnd base.items (run (started base sites) events) m
at_end base sites events k m opens may e =
    let w = run (started base sites) events in
    let all = holds_in_end base sites events opens may in
    record {
      sound = opens.sound;
      committed = committed_run base sites events opens may;
      member = subst (λ (b : Replica). MemberHolds b.items w.committed m) (run_base events (started base sites))
          (every_get (MemberHolds w.base.items w.committed) w.members k m all.members e);
    }

pub list_is_replay : ListIsReplay
list_is_replay base sites events k m opens may e =
    let h = (at_end base sites events k m opens may e).member in
    list_is base.items h.before h.rest (run (started base sites) events).committed m.site h.split h.site

pub all_entries_run : EntriesRun
all_entries_run base sites events k m opens may e =
    let end = at_end base sites events k m opens may e in
    let h = end.member in
    let w = run (started base sites) events in
    entries_run base.items h.before h.rest w.committed m.site h.split (seen_runs base.items w.committed m end.committed h) h.site

pub list_is_sound : ListIsSound
list_is_sound base sites events k m opens may e =
    let w = run (started base sites) events in
    subst Sound (sym (list_is_replay base sites events k m opens may e))
    (sound_after (flattened (entries_of w.committed m.site)) base.items opens.sound (all_entries_run base sites events k m opens may e))

pub acks_count : AckCounts
acks_count base sites events k m opens may e n later f =
    ack_counts base.items (run (started base sites) events).committed n later m f (at_end base sites events k m opens may e).member

pub sites_meet : OneList
sites_meet base sites events k l m n opens may e f same none none' =
    let w = run (started base sites) events in
    list_is_replay base sites events k m opens may e
    ∙ ap (λ r. replay (flattened (take m.site.seen w.committed ++ parcels r)) base.items) none
    ∙ ap (λ i. replay (flattened (take i w.committed ++ [])) base.items) same
    ∙ ap (λ r. replay (flattened (take n.site.seen w.committed ++ parcels r)) base.items) (sym none')
    ∙ sym (list_is_replay base sites events l n opens may f)

pub store_holds : StoreHolds
store_holds base sites events k m opens may e = (at_end base sites events k m opens may e).member.site.held

-- ---- an entry taken back

pub revoke_leaves_out : RevokeLeavesOut
revoke_leaves_out base sites events k m opens may e i next inside done =
    by_result (revocation false known i) refl done
  where
    w : Session
    w = run (started base sites) events

    known : List Hinted
    known = hinted_entries w.committed w.hints m.site

    by_result : (r : Result (List Transaction) RevokeCause) → revocation false known i ≡ r → revoke_by i r m.site ≡ Ok next →
        IsWithout (entries_of w.committed m.site) i base.items next.replica.items
    by_result (Err cause) g done = cc
    by_result (Ok back) g done =
        let entries = entries_of w.committed m.site in
        let taken_back : revoke entries i ≡ Ok back = ap (λ ps. revoke ps i) (sym (hinted_are w.committed w.hints m.site)) ∙ in_conflict-ok (revoke (unhinted known) i) back g in
        let taken = revoke_takes_back entries i back base.items inside opens.sound.lawful opens.sound.apart (all_entries_run base sites events k m opens may e) taken_back in
        let same : with_entry_against (Some i) back m.site ≡ next = cc in
        let list : (with_entry_against (Some i) back m.site).replica.items ≡ replay taken.without (replay (made_before entries i) base.items) =
        items_performed back m.site.replica ∙ ap (replay back) (list_is_replay base sites events k m opens may e) ∙ taken.one_list in
        record { later = taken.without; back = back; joined = taken.joined; run = taken.without_runs; list = ap (λ (s : Site). s.replica.items) (sym same) ∙ list }

-- what a site knows runs from the base
known_runs : (base : Replica) (sites : ℕ) (events : List Event) (k : ℕ) (m : Member) → Opens base → AllMayHappen (started base sites) events →
    slice_get (run (started base sites) events).members k ≡ Some m → (i : ℕ) → i < length (entries_of (run (started base sites) events).committed m.site) →
    RunFrom (hinted_entries (run (started base sites) events).committed (run (started base sites) events).hints m.site) i base.items
known_runs base sites events k m opens may e i inside =
    let w = run (started base sites) events in
    let same = hinted_are w.committed w.hints m.site in
    record {
      within = subst (λ n. i < n) (ap (λ (ps : List Parcel). length ps) (sym same) ∙ length-map (hinted_entries w.committed w.hints m.site) (λ (e : Hinted). e.txs)) inside;
      sound = opens.sound;
      runs = subst (λ ps. AllRun (flattened ps) base.items) (sym same) (all_entries_run base sites events k m opens may e);
    }

known_list : (base : Replica) (sites : ℕ) (events : List Event) (k : ℕ) (m : Member) → Opens base → AllMayHappen (started base sites) events →
    slice_get (run (started base sites) events).members k ≡ Some m →
    m.site.replica.items ≡ list_after (hinted_entries (run (started base sites) events).committed (run (started base sites) events).hints m.site) base.items
known_list base sites events k m opens may e =
    let w = run (started base sites) events in
    list_is_replay base sites events k m opens may e ∙ ap (λ ps. replay (flattened ps) base.items) (sym (hinted_are w.committed w.hints m.site))

pub live_revoke_is_without : LiveRevokeIsWithout
live_revoke_is_without base sites events k m opens may e i next inside done = by_result (revoke_live known i) refl done
  where
    w : Session
    w = run (started base sites) events

    known : List Hinted
    known = hinted_entries w.committed w.hints m.site

    by_result : (r : Result (List Transaction) RevokeCause) → revoke_live known i ≡ r → revoke_by i r m.site ≡ Ok next → IsWithoutAmong known i base.items next.replica.items
    by_result (Err cause) g done = cc
    by_result (Ok back) g done =
        let left = live_revoke_leaves_out known i back base.items (known_runs base sites events k m opens may e i inside) g in
        let same : with_entry_against (Some i) back m.site ≡ next = cc in
        record {
          back = back;
          left = left;
          list = ap (λ (s : Site). s.replica.items) (sym same) ∙ items_performed back m.site.replica ∙ ap (replay back) (known_list base sites events k m opens may e) ∙ left.one_list;
        }

pub live_revoke_gives_back : LiveRevokeGivesBack
live_revoke_gives_back base sites events k m opens may e i inside none =
    let w = run (started base sites) events in
    let known = hinted_entries w.committed w.hints m.site in
    let back = reversal (own_of known i) in
    let before = nothing_stands_above known i base.items (known_runs base sites events k m opens may e i inside) none in
    record {
      next = with_entry_against (Some i) back m.site;
      taken = ap (λ r. revoke_by i r m.site) before.back;
      list = items_performed back m.site.replica ∙ ap (replay back) (known_list base sites events k m opens may e) ∙ before.list;
    }

pub holds_at_first : HoldsAtFirst
holds_at_first base sites opens = start_holds base sites opens.sound opens.stored

pub first_replica_opens : FirstReplicaOpens
first_replica_opens items sound = record { sound = sound; stored = fill_has [] (cited items) }
