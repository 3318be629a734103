-- Undo and redo keep what a site's pending and undone entries make together.
use Rattle.std.proofs.Common.{◌≡◌, ℕ, zero, suc, Bool, true, false, List, [], ◌∷◌, ◌++◌, slice_get, Some, Result, Ok, Err, refl, sym, ap, ◌∙◌, subst}
use Rattle.std.proofs.lemmas.List.{append_assoc, append-nil}
use Rattle.model_change.specs.Replay.{AllRun, flattened, replay}
use Rattle.model_change.specs.Store.{cited}
use Rattle.model_change.specs.Transaction.{Transaction}
use Rattle.model_site.specs.Entries.{Entry, Parcel, parcels, entry_against}
use Rattle.model_site.specs.Events.{Event, Redo, Undo, at_member, happens, run, with_site_of}
use Rattle.model_site.specs.Replica.{Replica, all_filled}
use Rattle.model_site.specs.Session.{Member, Session, put_member, started}
use Rattle.model_site.specs.Site.{Site, init_and_last, with_undone, pending, redo, redo_first, undo, undo_last, first_hint}
use Rattle.model_site.specs.Causes.{RedoCause, UndoCause}
use Rattle.model_site_law.specs.Chain.{Fresh, store_after_all}
use Rattle.model_site_law.specs.Laws.{RedoneIsAsBefore, turns}
use Rattle.model_site_law.specs.MayHappen.{MayHappen}
use Rattle.model_site_law.specs.Protocol.{Every, MemberHolds, SessionHolds}
use Rattle.model_site_law.specs.Sound.{AllIn}
use Rattle.model_site_law.proofs.FreshLemmas.{stored-append, stored-filled}
use Rattle.model_site_law.proofs.FreshSessionLemmas.{IfFresh, on_it, run_fresh, start_fresh}
use Rattle.model_site_law.proofs.LawLemmas.{base_stays}
use Rattle.model_site_law.proofs.ReplayLemmas.{AllMayRun_from_runs, AllRun-parts, replay-append, replay-filled}
use Rattle.model_site_law.proofs.ServeLemmas.{event_holds, run_holds, start_holds}
use Rattle.model_site_law.proofs.SessionLemmas.{every_get}
use Rattle.model_site_law.proofs.SiteLemmas.{parted_is, pending_more, with_redone}

-- all that a site did and may do again
abbrev whole : Site → List Transaction
whole s = flattened (parcels (pending s)) ++ flattened s.undone

-- both make one list and one store, and neither site has seen anything
record Alike (base : Replica) (s t : Site) : Type 0 where
  items : replay (whole t) base.items ≡ replay (whole s) base.items
  store : store_after_all (whole t) base.items base.store ≡ store_after_all (whole s) base.items base.store
  seen : t.seen ≡ s.seen

alike_itself : (base : Replica) (s : Site) → Alike base s s
alike_itself base s = record { items = refl; store = refl; seen = refl }

alike_then : (base : Replica) (s t u : Site) → Alike base s t → Alike base t u → Alike base s u
alike_then base s t u a b = record { items = b.items ∙ a.items; store = b.store ∙ a.store; seen = b.seen ∙ a.seen }

undo_alike : (base : Replica) (s t : Site) → undo s ≡ Ok t → Alike base s t
undo_alike base s t done = by_last s.unsent refl done
  where
    by_last : (es : List Entry) → es ≡ s.unsent → undo_last es s ≡ Ok t → Alike base s t
    by_last [] e done = cc
    by_last (x ∷ es) e done =
        let p = init_and_last x es in
        let new : Site = with_undone p.1 p.0 s in
        let same : new ≡ t = cc in
        let old = flattened (parcels (s.sent ++ p.0)) in
        let one : whole new ≡ whole s =
        sym (append_assoc old p.1.txs (flattened s.undone)) ∙ ap (λ r. r ++ flattened s.undone) (sym (pending_more s.sent p.0 p.1))
        ∙ ap (λ us. flattened (parcels (s.sent ++ us)) ++ flattened s.undone) (parted_is x es ∙ e) in
        let both = ap whole (sym same) ∙ one in
        record { items = ap (λ us. replay us base.items) both; store = ap (λ us. store_after_all us base.items base.store) both; seen = ap (λ (r : Site). r.seen) (sym same) }

redo_alike : (base : Replica) (s t : Site) → s.replica.items ≡ replay (flattened (parcels (pending s))) base.items → AllRun (flattened s.undone) s.replica.items → redo s ≡ Ok t → Alike base s t
redo_alike base s t list runs done = by_first s.undone refl done
  where
    by_first : (us : List Parcel) → us ≡ s.undone → redo_first us s ≡ Ok t → Alike base s t
    by_first [] e done = cc
    by_first (ts ∷ us) e done =
        let new : Site = with_redone ts us s in
        let same : new ≡ t = cc in
        let now = s.replica.items in
        let old = flattened (parcels (pending s)) in
        let floor = replay old base.items in
        let first = store_after_all old base.items base.store in
        let rest = flattened us in
        let full = all_filled ts now in
        let parts = AllRun-parts ts rest now (subst (λ r. AllRun (flattened r) now) (sym e) runs) in
        let may = AllMayRun_from_runs ts now parts.0 in
        let new_is : whole new ≡ old ++ (full ++ rest) = ap (λ r. r ++ rest) (pending_more s.sent s.unsent (entry_against (first_hint s.undone_hints) ts s.replica)) ∙ append_assoc old full rest in
        let old_is : old ++ (ts ++ rest) ≡ whole s = ap (λ r. old ++ flattened r) e in
        let list_same : replay full floor ≡ replay ts floor = ap (replay full) (sym list) ∙ replay-filled ts now may ∙ ap (replay ts) list in
        let store_same : store_after_all full floor first ≡ store_after_all ts floor first =
        ap (λ l. store_after_all full l first) (sym list) ∙ stored-filled ts now first may ∙ ap (λ l. store_after_all ts l first) list in
        let swap_items : replay (full ++ rest) floor ≡ replay (ts ++ rest) floor = replay-append full rest floor ∙ ap (replay rest) list_same ∙ sym (replay-append ts rest floor) in
        let swap_store : store_after_all (full ++ rest) floor first ≡ store_after_all (ts ++ rest) floor first =
        stored-append full rest floor first ∙ ap (λ l. store_after_all rest l (store_after_all full floor first)) list_same ∙ ap (store_after_all rest (replay ts floor)) store_same ∙ sym (stored-append ts rest floor first) in
        record {
          items = ap (λ (r : Site). replay (whole r) base.items) (sym same) ∙ ap (λ us. replay us base.items) new_is ∙ replay-append old (full ++ rest) base.items
              ∙ swap_items ∙ sym (replay-append old (ts ++ rest) base.items) ∙ ap (λ us. replay us base.items) old_is;
          store = ap (λ (r : Site). store_after_all (whole r) base.items base.store) (sym same) ∙ ap (λ us. store_after_all us base.items base.store) new_is ∙ stored-append old (full ++ rest) base.items base.store
              ∙ swap_store ∙ sym (stored-append old (ts ++ rest) base.items base.store) ∙ ap (λ us. store_after_all us base.items base.store) old_is;
          seen = ap (λ (r : Site). r.seen) (sym same);
        }

-- ---- over turns

get_put : (k : ℕ) (m n : Member) (ms : List Member) → slice_get ms k ≡ Some n → slice_get (put_member k m ms) k ≡ Some m
get_put k m n [] h = cc
get_put zero m n (x ∷ ms) h = refl
get_put (suc k) m n (x ∷ ms) h = get_put k m n ms h

-- the site at k, after an event, and that it is alike
record Next (base : Replica) (k : ℕ) (m : Member) (w : Session) : Type 0 where
  member : Member
  there : slice_get w.members k ≡ Some member
  alike : Alike base m.site member.site

undo_next : (w : Session) (k : ℕ) (m : Member) → slice_get w.members k ≡ Some m → Next w.base k m (happens w (Undo k))
undo_next w k m e = subst (λ o. Next w.base k m (at_member w o (λ n. with_site_of k n (undo n.site) w))) (sym e) (by_result (undo m.site) refl)
  where
    by_result : (r : Result Site UndoCause) → undo m.site ≡ r → Next w.base k m (with_site_of k m r w)
    by_result (Err f) d = record { member = m; there = e; alike = alike_itself w.base m.site }
    by_result (Ok s) d = record { member = record m { site = s }; there = get_put k (record m { site = s }) m w.members e; alike = undo_alike w.base m.site s d }

redo_next : (w : Session) (k : ℕ) (m : Member) → SessionHolds w → m.site.seen ≡ 0 → slice_get w.members k ≡ Some m → Next w.base k m (happens w (Redo k))
redo_next w k m h z e = subst (λ o. Next w.base k m (at_member w o (λ n. with_site_of k n (redo n.site) w))) (sym e) (by_result (redo m.site) refl)
  where
    by_result : (r : Result Site RedoCause) → redo m.site ≡ r → Next w.base k m (with_site_of k m r w)
    by_result (Err f) d = record { member = m; there = e; alike = alike_itself w.base m.site }
    by_result (Ok s) d =
        let p = every_get (MemberHolds w.base.items w.committed) w.members k m h.members e in
        record {
          member = record m { site = s };
          there = get_put k (record m { site = s }) m w.members e;
          alike = redo_alike w.base m.site s (on_it w.base w.committed m p z).list p.site.undone d;
        }

-- as it ends
record Ended (base : Replica) (k : ℕ) (m : Member) (w : Session) : Type 0 where
  next : Next base k m w
  fresh : Fresh base next.member.site
  list : next.member.site.replica.items ≡ replay (flattened (parcels (pending next.member.site))) base.items

combined : (base : Replica) (k : ℕ) (m n : Member) (w : Session) → Alike base m.site n.site → Ended base k n w → Ended base k m w
combined base k m n w alike rest = record {
  next = record { member = rest.next.member; there = rest.next.there; alike = alike_then base m.site n.site rest.next.member.site alike rest.next.alike };
  fresh = rest.fresh;
  list = rest.list;
}

fresh_next : (w : Session) (v : Event) (base : Replica) → w.base ≡ base → SessionHolds w → AllIn base.store (cited base.items) → Every (IfFresh base) w.members → MayHappen w v →
    Every (IfFresh base) (happens w v).members
fresh_next w v base b h held fresh may =
    subst (λ c. Every (IfFresh c) (happens w v).members) b
    (run_fresh (v ∷ []) w h (subst (λ (c : Replica). AllIn c.store (cited c.items)) (sym b) held) (subst (λ c. Every (IfFresh c) w.members) (sym b) fresh) (may, tt)).fresh

ended : (base : Replica) (k : ℕ) (order : List Bool) (w : Session) (m : Member) → w.base ≡ base → SessionHolds w → AllIn base.store (cited base.items) → Every (IfFresh base) w.members →
    slice_get w.members k ≡ Some m → m.site.seen ≡ 0 → Ended base k m (run w (turns k order))
ended base k [] w m b h held fresh e z =
    let p = every_get (MemberHolds w.base.items w.committed) w.members k m h.members e in
    record {
      next = record { member = m; there = e; alike = alike_itself base m.site };
      fresh = every_get (IfFresh base) w.members k m fresh e z;
      list = (on_it w.base w.committed m p z).list ∙ ap (λ (c : Replica). replay (flattened (parcels (pending m.site))) c.items) b;
    }
ended base k (true ∷ order) w m b h held fresh e z =
    let n = undo_next w k m e in
    let alike = subst (λ c. Alike c m.site n.member.site) b n.alike in
    combined base k m n.member (run (happens w (Undo k)) (turns k order)) alike
    (ended base k order (happens w (Undo k)) n.member (base_stays w (Undo k) ∙ b) (event_holds w (Undo k) h tt) held (fresh_next w (Undo k) base b h held fresh tt) n.there (alike.seen ∙ z))
ended base k (false ∷ order) w m b h held fresh e z =
    let n = redo_next w k m h z e in
    let alike = subst (λ c. Alike c m.site n.member.site) b n.alike in
    combined base k m n.member (run (happens w (Redo k)) (turns k order)) alike
    (ended base k order (happens w (Redo k)) n.member (base_stays w (Redo k) ∙ b) (event_holds w (Redo k) h tt) held (fresh_next w (Redo k) base b h held fresh tt) n.there (alike.seen ∙ z))

pub redone_is_as_before : RedoneIsAsBefore
redone_is_as_before base sites events k m n order opens may e z none f none' =
    let start = started base sites in
    let w = run start events in
    let first = run_fresh events start (start_holds base sites opens.sound opens.stored) opens.stored (start_fresh base sites) may in
    let all = run_holds events start (start_holds base sites opens.sound opens.stored) may in
    let p = every_get (MemberHolds w.base.items w.committed) w.members k m all.members e in
    let list = (on_it w.base w.committed m p z).list ∙ ap (λ (c : Replica). replay (flattened (parcels (pending m.site))) c.items) first.same in
    let store = (every_get (IfFresh base) w.members k m first.fresh e z).store in
    let end = ended base k order w m first.same all opens.stored first.fresh e z in
    let is_n : end.next.member ≡ n = (let g : Some end.next.member ≡ Some n = sym end.next.there ∙ f in cc) in
    let alike = subst (λ (x : Member). Alike base m.site x.site) is_n end.next.alike in
    let alone : (s : Site) → s.undone ≡ [] → whole s ≡ flattened (parcels (pending s)) = λ s u. ap (λ us. flattened (parcels (pending s)) ++ flattened us) u ∙ append-nil (flattened (parcels (pending s))) in (
      subst (λ (x : Member). x.site.replica.items ≡ replay (flattened (parcels (pending x.site))) base.items) is_n end.list
          ∙ ap (λ us. replay us base.items) (sym (alone n.site none')) ∙ alike.items ∙ ap (λ us. replay us base.items) (alone m.site none) ∙ sym list,
      subst (λ (x : Member). x.site.replica.store ≡ store_after_all (flattened (parcels (pending x.site))) base.items base.store) is_n end.fresh.store
          ∙ ap (λ us. store_after_all us base.items base.store) (sym (alone n.site none')) ∙ alike.store ∙ ap (λ us. store_after_all us base.items base.store) (alone m.site none) ∙ sym store,
    )
