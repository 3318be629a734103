-- A property that each change of a replica and each cut of its store keeps, is kept by every event.
use Rattle.std.proofs.Common.{◌≡◌, ℕ, suc, Bool, true, false, ◌&&◌, ◌==◌, nat_lt, if◌then◌else◌, List, [], ◌∷◌, ◌++◌, length, take, drop, slice_get, Some, Ok, refl, sym, ap, ◌∙◌, subst, append-nil}
use Rattle.std.proofs.lemmas.List.{take-append-drop}
use Rattle.ve_base.specs.declared.value.Value.{Value}
use Rattle.model_items.specs.Law.{Lawful}
use Rattle.model_items.specs.declared.plain_item.PlainItem.{PlainItem}
use Rattle.model_change.specs.Fault.{Applies}
use Rattle.model_change.specs.Replay.{AllRun, flattened, replay, reversal}
use Rattle.model_change.specs.Store.{brought, changed_heads}
use Rattle.model_change.specs.Transaction.{Transaction, edited}
use Rattle.model_change.proofs.ReversalLaw.{reversal_undoes}
use Rattle.model_site.specs.Entries.{Entry, Parcel, all_reverted, parcels, reverted}
use Rattle.model_site.specs.Events.{Event, Select, happens}
use Rattle.model_site.specs.Joined.{join_entries}
use Rattle.model_site.specs.Replica.{Replica, all_performed, all_put_back, changed_by, performed, put_back}
use Rattle.model_site.specs.Session.{Member, Session, all_fed}
use Rattle.model_site.specs.Site.{Site, Submission, init_and_last, with_undone, pending, redo, redo_first, send, undo, undo_last, with_selection}
use Rattle.model_site.specs.Take.{take_entry, take_foreign}
use Rattle.model_site_law.specs.Holds.{Holds, ground}
use Rattle.model_site_law.specs.Protocol.{Every}
use Rattle.model_site_law.specs.Sound.{AllMayRun, Sound}
use Rattle.model_site_law.proofs.JoinedLemmas.{entries_join}
use Rattle.model_site_law.proofs.MemberLemmas.{sends}
use Rattle.model_site_law.proofs.ReplayLemmas.{AllMayRun_from_runs, AllRun-parts, flattened-append, parcels-drop, replay-append, sound_after}
use Rattle.model_site_law.proofs.RevertLemmas.{items_all_reverted}
use Rattle.model_site_law.proofs.SiteLemmas.{foreign_holds, parted_is, pending_more, with_redone}

-- what of a replica is kept
pub record IsKept (P : Replica → Type 0) : Type 0 where
  pub changes : (t : Transaction) (vs : List Value) (r : Replica) → Applies t r.items → Lawful (edited t r.items) → P r → P (changed_by t vs r)
  pub cuts : (n : ℕ) (r : Replica) → P r → P (record r { store = take n r.store })

-- a selection that is made keeps it
abbrev pub SelectKeeps : (Replica → Type 0) → Session → Event → Type 0
SelectKeeps P w (Select k s) = (m : Member) → slice_get w.members k ≡ Some m → P m.site.replica → P (with_selection s m.site).replica
SelectKeeps P w _ = Unit {0}

abbrev pub AllSelectKeep : (Replica → Type 0) → Session → List Event → Type 0
AllSelectKeep P w [] = Unit {0}
AllSelectKeep P w (e ∷ es) = SelectKeeps P w e × AllSelectKeep P (happens w e) es

module _ (P : Replica → Type 0) (is_kept : IsKept P) where
  -- ---- one replica

  pub performed_keep : (ts : List Transaction) (r : Replica) → AllMayRun ts r.items → P r → P (all_performed ts r)
  performed_keep [] r may p = p
  performed_keep (t ∷ ts) r may p =
      performed_keep ts (performed t r) may.1 (is_kept.changes t (brought t r.items) r may.0.applies may.0.lawful p)

  put_back_keep : (ts : List Transaction) (r : Replica) → AllRun ts r.items → P r → P (all_put_back ts r)
  put_back_keep [] r runs p = p
  put_back_keep (t ∷ ts) r runs p =
      put_back_keep ts (put_back t r) runs.1 (is_kept.changes t (changed_heads t r.items) r runs.0.applies runs.0.lawful p)

  reverted_keep : (e : Entry) (r : Replica) → AllRun (reversal e.txs) r.items → P r → P (reverted e r)
  reverted_keep e r runs p = by_cut ((length r.store == e.store_after) && nat_lt e.store_before e.store_after)
    where
      by_cut : (b : Bool) → P (record {
        items = (all_put_back (reversal e.txs) r).items;
        store = if b then take e.store_before (all_put_back (reversal e.txs) r).store else (all_put_back (reversal e.txs) r).store;
        selection = (all_put_back (reversal e.txs) r).selection;
      })
      by_cut true = is_kept.cuts e.store_before (all_put_back (reversal e.txs) r) (put_back_keep (reversal e.txs) r runs p)
      by_cut false = put_back_keep (reversal e.txs) r runs p

  -- an entry that was performed on a list
  undone_keep : (e : Entry) (r : Replica) (items : List PlainItem) → Sound items → AllRun e.txs items → r.items ≡ replay e.txs items → P r → P (reverted e r)
  undone_keep e r items sound runs list p =
      reverted_keep e r (subst (AllRun (reversal e.txs)) (sym list) (reversal_undoes e.txs items sound.lawful sound.apart runs).runs) p

  all_reverted_keep : (es : List Entry) (r : Replica) (items : List PlainItem) → Sound items → AllRun (flattened (parcels es)) items →
      r.items ≡ replay (flattened (parcels es)) items → P r → P (all_reverted es r)
  all_reverted_keep [] r items sound runs list p = p
  all_reverted_keep (e ∷ es) r items sound runs list p =
      let parts = AllRun-parts e.txs (flattened (parcels es)) items runs in
      let next = replay e.txs items in
      let sound_next = sound_after e.txs items sound parts.0 in
      let list_next = list ∙ replay-append e.txs (flattened (parcels es)) items in
      undone_keep e (all_reverted es r) items sound parts.0 (items_all_reverted es r next sound_next parts.1 list_next) (all_reverted_keep es r next sound_next parts.1 list_next p)

  -- ---- one site

  take_entry_keep : (base : List PlainItem) (before : List Parcel) (foreign : Parcel) (s : Site) → Sound (ground base before) → Holds base before s → AllRun foreign (ground base before) →
      P s.replica → P (take_entry foreign s).replica
  take_entry_keep base before foreign s sound h run p =
      let floor = ground base before in
      let ps = parcels (pending s) in
      let j = join_entries foreign ps in
      let n = length j.kept in
      let dropped = drop n (pending s) in
      let stay = flattened (take n ps) in
      let split : flattened ps ≡ stay ++ flattened (parcels dropped) =
      ap flattened (sym (take-append-drop n ps)) ∙ flattened-append (take n ps) (drop n ps) ∙ ap (λ r. stay ++ flattened r) (sym (parcels-drop n (pending s))) in
      let runs = AllRun-parts stay (flattened (parcels dropped)) floor (subst (λ us. AllRun us floor) split h.runs) in
      let middle_sound = sound_after stay floor sound runs.0 in
      let list = h.list ∙ ap (λ us. replay us floor) split ∙ replay-append stay (flattened (parcels dropped)) floor in
      let middle = all_reverted dropped s.replica in
      let back = items_all_reverted dropped s.replica (replay stay floor) middle_sound runs.1 list in
      performed_keep j.committed middle
      (AllMayRun_from_runs j.committed middle.items (subst (AllRun j.committed) (sym back) (entries_join foreign ps floor sound run h.runs).committed_run))
      (all_reverted_keep dropped s.replica (replay stay floor) middle_sound runs.1 list p)

  pub take_foreign_keep : (base : List PlainItem) (before ps : List Parcel) (s : Site) → Sound (ground base before) → AllRun (flattened ps) (ground base before) → Holds base before s →
      P s.replica → P (take_foreign ps s).replica
  take_foreign_keep base before [] s sound runs h p = p
  take_foreign_keep base before (foreign ∷ ps) s sound runs h p =
      let parts = AllRun-parts foreign (flattened ps) (ground base before) runs in
      let floor : ground base (before ++ foreign ∷ []) ≡ replay foreign (ground base before) =
      ap (λ us. replay us base) (flattened-append before (foreign ∷ []) ∙ ap (λ r. flattened before ++ r) (append-nil foreign)) ∙ replay-append (flattened before) foreign base in
      take_foreign_keep base (before ++ foreign ∷ []) ps (take_entry foreign s) (subst Sound (sym floor) (sound_after foreign (ground base before) sound parts.0))
      (subst (AllRun (flattened ps)) (sym floor) parts.1) (foreign_holds base before foreign s sound h parts.0)
      (take_entry_keep base before foreign s sound h parts.0 p)

  pub undo_keep : (base : List PlainItem) (before : List Parcel) (s next : Site) → Sound (ground base before) → Holds base before s → undo s ≡ Ok next → P s.replica → P next.replica
  undo_keep base before s next sound h done p = by_last s.unsent refl done
    where
      by_last : (es : List Entry) → es ≡ s.unsent → undo_last es s ≡ Ok next → P next.replica
      by_last [] e done = cc
      by_last (x ∷ es) e done =
          let q = init_and_last x es in
          let floor = ground base before in
          let old = flattened (parcels (s.sent ++ q.0)) in
          let split : flattened (parcels (pending s)) ≡ old ++ q.1.txs = ap (λ us. flattened (parcels (s.sent ++ us))) (sym (parted_is x es ∙ e)) ∙ pending_more s.sent q.0 q.1 in
          let parts = AllRun-parts old q.1.txs floor (subst (λ us. AllRun us floor) split h.runs) in
          let same : with_undone q.1 q.0 s ≡ next = cc in
          subst P (ap (λ (t : Site). t.replica) same)
          (undone_keep q.1 s.replica (replay old floor) (sound_after old floor sound parts.0) parts.1 (h.list ∙ ap (λ us. replay us floor) split ∙ replay-append old q.1.txs floor) p)

  pub redo_keep : (base : List PlainItem) (before : List Parcel) (s next : Site) → Holds base before s → redo s ≡ Ok next → P s.replica → P next.replica
  redo_keep base before s next h done p = by_first s.undone refl done
    where
      by_first : (us : List Parcel) → us ≡ s.undone → redo_first us s ≡ Ok next → P next.replica
      by_first [] e done = cc
      by_first (ts ∷ us) e done =
          let parts = AllRun-parts ts (flattened us) s.replica.items (subst (λ r. AllRun (flattened r) s.replica.items) (sym e) h.undone) in
          let same : with_redone ts us s ≡ next = cc in
          subst P (ap (λ (t : Site). t.replica) same) (performed_keep ts s.replica (AllMayRun_from_runs ts s.replica.items parts.0) p)

  pub send_keep : (s : Site) (r : Site × Submission) → send s ≡ Ok r → P s.replica → P r.0.replica
  send_keep s r done p = subst P (sym (sends s r done).replica) p

-- ---- all sites

abbrev pub OfMember : (Replica → Type 0) → Member → Type 0
OfMember P m = P m.site.replica

pub fed_keep : (P : Replica → Type 0) (sender k : ℕ) (ps : List Parcel) (ms : List Member) → Every (OfMember P) ms → Every (OfMember P) (all_fed sender k ps ms)
fed_keep P sender k ps [] all = tt
fed_keep P sender k ps (m ∷ ms) all = (all.0, fed_keep P sender (suc k) ps ms all.1)
