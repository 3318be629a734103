-- Entries of other sites that are in conflict with no pending one: taking them one after the other
-- is to perform all of them as they are over the pending ones, and to write these once.
use Rattle.std.proofs.Common.{◌≡◌, ◌<◌, ◌+◌, ℕ, suc, List, [], ◌∷◌, ◌++◌, length, take, drop, None, refl, sym, ap, ◌∙◌, subst, arith}
use Rattle.std.proofs.lemmas.List.{append-nil, drop_all, length-append, length-map, length-take, take-append-drop}
use Rattle.model_change.specs.Replay.{AllRun, flattened, replay, reversal}
use Rattle.model_change.specs.Transaction.{Transaction}
use Rattle.model_site.specs.Entries.{Entry, Hints, Parcel, all_reverted, hints, parcels}
use Rattle.model_site.specs.Joined.{Joined, join_entries}
use Rattle.model_site.specs.Replica.{Replica, all_performed}
use Rattle.model_site.specs.Site.{Site, pending}
use Rattle.model_site.specs.Take.{parcel_entries, take_entry, take_foreign}
use Rattle.model_site.specs.Untold.{Untold, passed}
use Rattle.model_site_law.specs.Laws.{IsNextInConflict}
use Rattle.model_site_law.proofs.ReplayLemmas.{AllRun-append, parcels-noted}
use Rattle.model_site_law.proofs.RevertLemmas.{items_performed}
use Rattle.model_site_law.proofs.UntilConflictLemmas.{joined_until_conflict}
use Rattle.ve_rebase.specs.Under.{AreAllJoined}
use Rattle.ve_site.specs.Ground.{Stands, ground_of}
use Rattle.model_site.specs.Made.{taking_all, taking_one}
use Rattle.ve_site.proofs.MakingLemmas.{all_performed-append}
use Rattle.ve_site.proofs.PatchLemmas.{passed_both}
use Rattle.ve_site.proofs.TakenLemmas.{committed_runs, has_taken, may_take_next}

-- ---- one entry that is in conflict with none

-- a site with this replica, told so, which has these pending entries, of which so many are sent, and
-- which take these back
abbrev pub with_pending : Replica → Untold → (seen sent : ℕ) → Hints → List Parcel → Site → Site
with_pending replica untold seen sent taken kept s = record s {
  replica = replica;
  untold = untold;
  seen = seen;
  sent = take sent (parcel_entries (length replica.store) taken kept);
  unsent = drop sent (parcel_entries (length replica.store) taken kept);
  undone = [];
  undone_hints = [];
}

-- a site once it took so many such entries: their transactions as they are over the pending ones,
-- and the pending ones as they are then
abbrev pub with_front : List Transaction → List Parcel → ℕ → Site → Site
with_front ts kept count s = with_pending (all_performed ts s.replica) (passed ts s.untold) (s.seen + count) (length s.sent) (hints (pending s)) kept s

module _ (foreign : Parcel) (s : Site) (none : (join_entries foreign (parcels (pending s))).clash ≡ None) where
  abbrev j : Joined
  j = join_entries foreign (parcels (pending s))

  -- all are kept
  pub all_kept : length j.kept ≡ length (pending s)
  all_kept =
      subst (IsNextInConflict foreign (parcels (pending s)) (length j.kept)) none (joined_until_conflict foreign (parcels (pending s))).next
      ∙ length-map (pending s) (λ (e : Entry). e.txs)

  pub none_dropped : drop (length j.kept) (pending s) ≡ []
  none_dropped = drop_all (length j.kept) (pending s) (omega (arith, all_kept))

  pub makes : taking_one foreign s ≡ j.committed
  makes = ap (λ (es : List Entry). reversal (flattened (parcels es)) ++ j.committed) none_dropped

  pub one_taken : take_entry foreign s ≡ with_front j.committed j.kept 1 s
  one_taken =
      let made : List Entry → ℕ → Site = λ es seen.
      with_pending (all_performed j.committed (all_reverted es s.replica)) (passed (reversal (flattened (parcels es)) ++ j.committed) s.untold) seen (length s.sent) (hints (pending s)) j.kept s in
      ap (λ es. made es (suc s.seen)) none_dropped ∙ ap (made []) (let e : suc s.seen ≡ s.seen + 1 = omega arith in e)

  pub runs : Stands s → AllRun foreign (ground_of s) → AllRun j.committed s.replica.items
  runs stands run = subst (λ es. AllRun j.committed (all_reverted es s.replica).items) none_dropped (committed_runs foreign s stands run)

  pub list_after : (take_entry foreign s).replica.items ≡ replay j.committed s.replica.items
  list_after = ap (λ (t : Site). t.replica.items) one_taken ∙ items_performed j.committed s.replica

-- what is pending then
pub pending_after : (foreign : Parcel) (s : Site) → parcels (pending (take_entry foreign s)) ≡ (join_entries foreign (parcels (pending s))).kept
pending_after foreign s = ap parcels (take-append-drop (length s.sent) _) ∙ parcels-noted _ (hints (pending s)) (join_entries foreign (parcels (pending s))).kept

-- ---- one after the other

-- as many entries are noted as there are parcels
noted_count : (n : ℕ) (taken : Hints) (ps : List Parcel) → length (parcel_entries n taken ps) ≡ length ps
noted_count n taken [] = refl
noted_count n taken (p ∷ ps) = ap suc (noted_count n (drop 1 taken) ps)

-- and they take the same back
noted_hints : (n : ℕ) (taken : Hints) (ps : List Parcel) → length ps ≡ length taken → hints (parcel_entries n taken ps) ≡ taken
noted_hints n [] [] as_many = refl
noted_hints n (t ∷ taken) [] as_many = absurd (omega (arith, as_many))
noted_hints n [] (p ∷ ps) as_many = absurd (omega (arith, as_many))
noted_hints n (t ∷ taken) (p ∷ ps) as_many = ap (λ ts. t ∷ ts) (noted_hints n taken ps (omega (arith, as_many)))

-- as many are sent as before
sent_stay : (n : ℕ) (s : Site) (kept : List Parcel) → length kept ≡ length (pending s) → length (take (length s.sent) (parcel_entries n (hints (pending s)) kept)) ≡ length s.sent
sent_stay n s kept as_many =
    let cut = length-take (length s.sent) (parcel_entries n (hints (pending s)) kept) in
    let noted = noted_count n (hints (pending s)) kept in
    let whole = length-append s.sent s.unsent in
    omega (arith, cut, noted, whole, as_many)

-- and what the pending ones take back
hints_stay : (n : ℕ) (s : Site) (kept : List Parcel) → length kept ≡ length (pending s) →
    hints (take (length s.sent) (parcel_entries n (hints (pending s)) kept) ++ drop (length s.sent) (parcel_entries n (hints (pending s)) kept)) ≡ hints (pending s)
hints_stay n s kept as_many =
    ap hints (take-append-drop (length s.sent) (parcel_entries n (hints (pending s)) kept))
    ∙ noted_hints n (hints (pending s)) kept (as_many ∙ sym (length-map (pending s) (λ (e : Entry). e.takes_back)))

two_fronts : (ts us : List Transaction) (kept later : List Parcel) (m n : ℕ) (s : Site) → length kept ≡ length (pending s) →
    with_front us later n (with_front ts kept m s) ≡ with_front (ts ++ us) later (m + n) s
two_fronts ts us kept later m n s as_many =
    let first = with_front ts kept m s in
    let sent = length first.sent in
    let both = all_performed (ts ++ us) s.replica in
    ap (λ r. with_pending r (passed us first.untold) (first.seen + n) sent (hints (pending first)) later s) (all_performed-append ts us s.replica)
    ∙ (ap (λ u. with_pending both u (first.seen + n) sent (hints (pending first)) later s) (passed_both ts us s.untold)
    ∙ (ap (λ k. with_pending both (passed (ts ++ us) s.untold) k sent (hints (pending first)) later s) (let e : s.seen + m + n ≡ s.seen + (m + n) = omega arith in e)
    ∙ (ap (λ k. with_pending both (passed (ts ++ us) s.untold) (s.seen + (m + n)) k (hints (pending first)) later s) (sent_stay (length (all_performed ts s.replica).store) s kept as_many)
    ∙ ap (λ hs. with_pending both (passed (ts ++ us) s.untold) (s.seen + (m + n)) (length s.sent) hs later s) (hints_stay (length (all_performed ts s.replica).store) s kept as_many))))

-- the entries after the first are in conflict with none as they are once it is taken
rest_joined : (f : Parcel) (fs : List Parcel) (s : Site) (cs kept : List Parcel) → AreAllJoined fs (join_entries f (parcels (pending s))).kept cs kept →
    AreAllJoined fs (parcels (pending (take_entry f s))) cs kept
rest_joined f fs s cs kept h = subst (λ mine. AreAllJoined fs mine cs kept) (sym (pending_after f s)) h

front_taken : (f : Parcel) (fs : List Parcel) (s : Site) (cs kept : List Parcel) → AreAllJoined (f ∷ fs) (parcels (pending s)) cs kept →
    take_foreign (f ∷ fs) s ≡ with_front (flattened cs) kept (length (f ∷ fs)) s
front_taken f fs s [] kept joined = absurd joined
front_taken f [] s (c ∷ d ∷ cs) kept joined = absurd joined.2
front_taken f [] s (c ∷ []) kept joined =
    one_taken f s joined.0
    ∙ (ap (λ ts. with_front ts (join_entries f (parcels (pending s))).kept 1 s) (joined.1 ∙ sym (append-nil c)) ∙ ap (λ ks. with_front (c ++ []) ks 1 s) (sym joined.2))
front_taken f (g ∷ gs) s (c ∷ cs) kept joined =
    let j = join_entries f (parcels (pending s)) in
    front_taken g gs (take_entry f s) cs kept (rest_joined f (g ∷ gs) s cs kept joined.2)
    ∙ (ap (with_front (flattened cs) kept (length (g ∷ gs))) (one_taken f s joined.0)
    ∙ (two_fronts j.committed (flattened cs) j.kept kept 1 (length (g ∷ gs)) s (all_kept f s joined.0)
    ∙ (ap (λ ts. with_front (ts ++ flattened cs) kept (1 + length (g ∷ gs)) s) joined.1
    ∙ ap (λ n. with_front (c ++ flattened cs) kept n s) (let e : 1 + length (g ∷ gs) ≡ length (f ∷ g ∷ gs) = omega arith in e))))

pub front_is : (fs : List Parcel) (s : Site) (cs kept : List Parcel) → 0 < length fs → AreAllJoined fs (parcels (pending s)) cs kept →
    take_foreign fs s ≡ with_front (flattened cs) kept (length fs) s
front_is [] s cs kept some joined = absurd (omega (arith, some))
front_is (f ∷ fs) s cs kept some joined = front_taken f fs s cs kept joined

-- the transactions that it makes
pub front_makes : (fs : List Parcel) (s : Site) (cs kept : List Parcel) → AreAllJoined fs (parcels (pending s)) cs kept → taking_all fs s ≡ flattened cs
front_makes [] s [] kept joined = refl
front_makes [] s (c ∷ cs) kept joined = absurd joined
front_makes (f ∷ fs) s [] kept joined = absurd joined
front_makes (f ∷ fs) s (c ∷ cs) kept joined =
    ap (λ ts. ts ++ taking_all fs (take_entry f s)) (makes f s joined.0 ∙ joined.1)
    ∙ ap (λ ts. c ++ ts) (front_makes fs (take_entry f s) cs kept (rest_joined f fs s cs kept joined.2))

-- they run on the list
pub front_runs : (fs : List Parcel) (s : Site) (cs kept : List Parcel) → Stands s → AllRun (flattened fs) (ground_of s) → AreAllJoined fs (parcels (pending s)) cs kept →
    AllRun (flattened cs) s.replica.items
front_runs [] s [] kept stands run joined = tt
front_runs [] s (c ∷ cs) kept stands run joined = absurd joined
front_runs (f ∷ fs) s [] kept stands run joined = absurd joined
front_runs (f ∷ fs) s (c ∷ cs) kept stands run joined =
    let may = may_take_next f fs s stands run in
    let next = take_entry f s in
    let later = front_runs fs next cs kept (has_taken f s stands may.run).stands may.others_run (rest_joined f fs s cs kept joined.2) in
    let list : next.replica.items ≡ replay c s.replica.items = list_after f s joined.0 ∙ ap (λ ts. replay ts s.replica.items) joined.1 in
    AllRun-append c (flattened cs) s.replica.items (subst (λ ts. AllRun ts s.replica.items) joined.1 (runs f s joined.0 stands may.run)) (subst (AllRun (flattened cs)) list later)
