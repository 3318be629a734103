-- The invariant of a site is kept by each thing that it does.
use Rattle.std.proofs.Common.{◌≡◌, suc, ◌+◌, List, [], ◌∷◌, ◌++◌, length, take, drop, Bool, Option, Some, Result, Ok, Err, ◌≤◌, ◌<◌, ℕ, refl, sym, ap, ◌∙◌, subst, arith}
use Rattle.std.proofs.lemmas.List.{append_assoc, append-nil, length-append, length-map, take-append-drop}
use Rattle.std.proofs.Math.Seq.{take-append_seam}
use Rattle.ve_base.specs.declared.value.Value.{Value}
use Rattle.model_items.specs.declared.plain_item.PlainItem.{PlainItem}
use Rattle.model_change.specs.Replay.{AllRun, flattened, replay}
use Rattle.model_change.specs.Store.{cited}
use Rattle.model_change.specs.Transaction.{Transaction}
use Rattle.model_site.specs.Entries.{Entry, Hints, Parcel, all_reverted, entry_against, hints, parcels, reverted}
use Rattle.model_site.specs.Joined.{join_entries}
use Rattle.model_site.specs.Live.{Hinted, RevokeCause, revocation, unhinted}
use Rattle.model_site.specs.Replica.{all_performed}
use Rattle.model_site.specs.Site.{Site, entries_of, first_hint, hinted_entries, hints_of, init_and_last, with_undone, pending, redo, redo_first, revoke_by, revoke_entry, undo, undo_last, with_entry_against}
use Rattle.model_site.specs.Take.{parcel_entries, take_entry}
use Rattle.model_site_law.specs.Chain.{Chain, needed_values}
use Rattle.model_site_law.specs.Holds.{Holds, ground}
use Rattle.model_site_law.specs.LiveLaws.{RunFrom}
use Rattle.model_site_law.specs.Sound.{AllIn, AllMayRun, Sound}
use Rattle.model_site_law.proofs.ChainLemmas.{all_reverted_kept, chain_more, chain_needed, chain_noted, last_reverted, performed_needed}
use Rattle.model_site_law.proofs.JoinedLemmas.{entries_join}
use Rattle.model_site_law.proofs.LiveLemmas.{revocation_runs, unhinted-hinted}
use Rattle.model_site_law.proofs.NeedLemmas.{AllNeeded, over_needed}
use Rattle.model_site_law.proofs.PerformLemmas.{all_performed_grows, all_performed_held}
use Rattle.model_site_law.proofs.ReplayLemmas.{AllMayRun_from_runs, AllRun-append, AllRun-filled, AllRun-parts, flattened-append, parcels-append, parcels-drop, parcels-noted, parcels-take, replay-append, replay-filled, sound_after}
use Rattle.model_site_law.proofs.RevertLemmas.{items_all_reverted, items_performed, items_reverted}
use Rattle.model_site_law.proofs.StoreLemmas.{Grown, in_grown}

-- transactions of pending entries and one more
pub pending_more : (sent unsent : List Entry) (e : Entry) → flattened (parcels (sent ++ (unsent ++ e ∷ []))) ≡ flattened (parcels (sent ++ unsent)) ++ e.txs
pending_more sent unsent e =
    ap (λ es. flattened (parcels es)) (sym (append_assoc sent unsent (e ∷ [])))
    ∙ ap flattened (parcels-append (sent ++ unsent) (e ∷ []))
    ∙ flattened-append (parcels (sent ++ unsent)) (e.txs ∷ [])
    ∙ ap (λ r. flattened (parcels (sent ++ unsent)) ++ r) (append-nil e.txs)

-- what is kept of a site after an entry, but for what was undone
record WithEntry (base : List PlainItem) (before : List Parcel) (taken : Option ℕ) (ts : List Transaction) (s : Site) : Type 0 where
  list : (with_entry_against taken ts s).replica.items ≡ replay (flattened (parcels (pending (with_entry_against taken ts s)))) (ground base before)
  runs : AllRun (flattened (parcels (pending (with_entry_against taken ts s)))) (ground base before)
  chain : Chain (with_entry_against taken ts s).replica.store 0 (ground base before) (pending (with_entry_against taken ts s))
  held : AllIn (with_entry_against taken ts s).replica.store (cited (with_entry_against taken ts s).replica.items)

entry_holds : (base : List PlainItem) (before : List Parcel) (taken : Option ℕ) (ts : List Transaction) (s : Site) → Holds base before s → AllMayRun ts s.replica.items → WithEntry base before taken ts s
entry_holds base before taken ts s h may =
    let now = s.replica.items in
    let e = entry_against taken ts s.replica in
    let old = flattened (parcels (pending s)) in
    let more = pending_more s.sent s.unsent e in
    let runs_now = AllRun-filled ts now may in
    record {
      list = items_performed ts s.replica ∙ sym (replay-filled ts now may) ∙ ap (replay e.txs) h.list
          ∙ sym (replay-append old e.txs (ground base before)) ∙ ap (λ us. replay us (ground base before)) (sym more);
      runs = subst (λ us. AllRun us (ground base before)) (sym more)
          (AllRun-append old e.txs (ground base before) h.runs (subst (AllRun e.txs) h.list runs_now));
      chain = subst (Chain (all_performed ts s.replica).store 0 (ground base before)) (append_assoc s.sent s.unsent (e ∷ []))
          (chain_more s.replica.store (all_performed ts s.replica).store 0 (ground base before) (pending s) e (all_performed_grows ts s.replica) h.chain refl refl
          (subst (λ i. AllIn s.replica.store (cited i)) h.list h.held) (performed_needed ts s.replica may h.held));
      held = all_performed_held ts s.replica h.held;
    }

pub edit_holds : (base : List PlainItem) (before : List Parcel) (taken : Option ℕ) (ts : List Transaction) (s : Site) → Holds base before s → AllMayRun ts s.replica.items → Holds base before (with_entry_against taken ts s)
edit_holds base before taken ts s h may =
    let w = entry_holds base before taken ts s h may in
    record { seen = h.seen; list = w.list; runs = w.runs; undone = tt; chain = w.chain; held = w.held }

-- ---- undo and redo

-- the undone transactions performed again, so that these are left
abbrev pub with_redone : List Transaction → List Parcel → Site → Site
with_redone ts left s = record (with_entry_against (first_hint s.undone_hints) ts s) { undone = left; undone_hints = drop 1 s.undone_hints }

pub parted_is : (e : Entry) (es : List Entry) → (init_and_last e es).0 ++ (init_and_last e es).1 ∷ [] ≡ e ∷ es
parted_is e [] = refl
parted_is e (f ∷ es) = ap (λ r. e ∷ r) (parted_is f es)

-- a site whose last unsent entry is e, and the site that takes it back
record Undone (base : List PlainItem) (before : List Parcel) (s : Site) (unsent : List Entry) (e : Entry) : Type 0 where
  items : (reverted e s.replica).items ≡ replay (flattened (parcels (s.sent ++ unsent))) (ground base before)
  runs : AllRun (flattened (parcels (s.sent ++ unsent))) (ground base before)
  again : AllRun (e.txs ++ flattened s.undone) (reverted e s.replica).items
  chain : Chain (reverted e s.replica).store 0 (ground base before) (s.sent ++ unsent)
  held : AllIn (reverted e s.replica).store (cited (reverted e s.replica).items)

undone_entry : (base : List PlainItem) (before : List Parcel) (s : Site) (unsent : List Entry) (e : Entry) →
    Sound (ground base before) → unsent ++ e ∷ [] ≡ s.unsent → Holds base before s → Undone base before s unsent e
undone_entry base before s unsent e sound part h =
    let floor = ground base before in
    let old = flattened (parcels (s.sent ++ unsent)) in
    let split : old ++ e.txs ≡ flattened (parcels (pending s)) = sym (pending_more s.sent unsent e) ∙ ap (λ us. flattened (parcels (s.sent ++ us))) part in
    let runs = AllRun-parts old e.txs floor (subst (λ us. AllRun us floor) (sym split) h.runs) in
    let list : s.replica.items ≡ replay e.txs (replay old floor) = h.list ∙ ap (λ us. replay us floor) (sym split) ∙ replay-append old e.txs floor in
    let back = items_reverted e s.replica (replay old floor) (sound_after old floor sound runs.0) runs.1 list in
    let chained : Chain s.replica.store 0 floor ((s.sent ++ unsent) ++ e ∷ []) =
    subst (Chain s.replica.store 0 floor) (ap (λ us. s.sent ++ us) (sym part) ∙ sym (append_assoc s.sent unsent (e ∷ []))) h.chain in
    let kept = last_reverted s.replica floor (s.sent ++ unsent) e chained h.held back in
    record {
      items = back;
      runs = runs.0;
      again = subst (AllRun (e.txs ++ flattened s.undone)) (sym back)
          (AllRun-append e.txs (flattened s.undone) (replay old floor) runs.1 (subst (AllRun (flattened s.undone)) list h.undone));
      chain = kept.chain;
      held = kept.held;
    }

pub undo_holds : (base : List PlainItem) (before : List Parcel) (s next : Site) → Sound (ground base before) → Holds base before s → undo s ≡ Ok next → Holds base before next
undo_holds base before s next sound h done = by_last s.unsent refl done
  where
    by_last : (es : List Entry) → es ≡ s.unsent → undo_last es s ≡ Ok next → Holds base before next
    by_last [] e done = cc
    by_last (x ∷ es) e done =
        let p = init_and_last x es in
        let u = undone_entry base before s p.0 p.1 sound (parted_is x es ∙ e) h in
        let new : Site = with_undone p.1 p.0 s in
        let same : new ≡ next = cc in
        subst (Holds base before) same (record { seen = h.seen; list = u.items; runs = u.runs; undone = u.again; chain = u.chain; held = u.held })

pub redo_holds : (base : List PlainItem) (before : List Parcel) (s next : Site) → Holds base before s → redo s ≡ Ok next → Holds base before next
redo_holds base before s next h done = by_first s.undone refl done
  where
    by_first : (us : List Parcel) → us ≡ s.undone → redo_first us s ≡ Ok next → Holds base before next
    by_first [] e done = cc
    by_first (ts ∷ us) e done =
        let parts = AllRun-parts ts (flattened us) s.replica.items (subst (λ r. AllRun (flattened r) s.replica.items) (sym e) h.undone) in
        let w = entry_holds base before (first_hint s.undone_hints) ts s h (AllMayRun_from_runs ts s.replica.items parts.0) in
        let new : Site = with_redone ts us s in
        let same : new ≡ next = cc in
        subst (Holds base before) same (record { seen = h.seen; list = w.list; runs = w.runs; undone = subst (AllRun (flattened us)) (sym (items_performed ts s.replica)) parts.1; chain = w.chain; held = w.held })

-- ---- an entry taken back under later ones

seen_is : (base : List PlainItem) (before rest committed : List Parcel) (s : Site) → before ++ rest ≡ committed → Holds base before s → take s.seen committed ≡ before
seen_is base before rest committed s split h =
    ap (λ n. take n committed) (sym h.seen) ∙ ap (take (length before)) (sym split) ∙ take-append_seam before rest

-- the entries whose replay is the site's list
pub entries_are : (base : List PlainItem) (before rest committed : List Parcel) (s : Site) → before ++ rest ≡ committed → Holds base before s →
    flattened (entries_of committed s) ≡ flattened before ++ flattened (parcels (pending s))
entries_are base before rest committed s split h =
    ap (λ r. flattened (r ++ parcels (pending s))) (seen_is base before rest committed s split h) ∙ flattened-append before (parcels (pending s))

pub list_is : (base : List PlainItem) (before rest committed : List Parcel) (s : Site) → before ++ rest ≡ committed → Holds base before s →
    s.replica.items ≡ replay (flattened (entries_of committed s)) base
list_is base before rest committed s split h =
    h.list ∙ sym (ap (λ us. replay us base) (entries_are base before rest committed s split h) ∙ replay-append (flattened before) (flattened (parcels (pending s))) base)

pub entries_run : (base : List PlainItem) (before rest committed : List Parcel) (s : Site) → before ++ rest ≡ committed → AllRun (flattened before) base → Holds base before s →
    AllRun (flattened (entries_of committed s)) base
entries_run base before rest committed s split runs h =
    subst (λ us. AllRun us base) (sym (entries_are base before rest committed s split h))
    (AllRun-append (flattened before) (flattened (parcels (pending s))) base runs h.runs)

-- what a site has seen is no more than the entries that it knows
pub seen_within : (base : List PlainItem) (before rest committed : List Parcel) (s : Site) → before ++ rest ≡ committed → Holds base before s →
    s.seen ≤ length (entries_of committed s)
seen_within base before rest committed s split h =
    let lengths = ap (λ (r : List Parcel). length r) (seen_is base before rest committed s split h) in
    let whole = length-append (take s.seen committed) (parcels (pending s)) in
    let seen = h.seen in
    omega arith

pub hinted_are : (committed : List Parcel) (hints : Hints) (s : Site) → unhinted (hinted_entries committed hints s) ≡ entries_of committed s
hinted_are committed hints s = unhinted-hinted (entries_of committed s) (hints_of hints s)

-- they run from the base, each with what it takes back
pub known_run : (base : List PlainItem) (before rest committed : List Parcel) (hints : Hints) (i : ℕ) (s : Site) → Sound base → AllRun (flattened before) base → before ++ rest ≡ committed →
    Holds base before s → i < s.seen → RunFrom (hinted_entries committed hints s) i base
known_run base before rest committed hints i s sound runs split h below =
    let within = seen_within base before rest committed s split h in
    let same = hinted_are committed hints s in
    let long : length (hinted_entries committed hints s) ≡ length (entries_of committed s) =
    sym (length-map (hinted_entries committed hints s) (λ (e : Hinted). e.txs)) ∙ ap (λ (ps : List Parcel). length ps) same in
    record {
      within = omega arith;
      sound = sound;
      runs = subst (λ ps. AllRun (flattened ps) base) (sym same) (entries_run base before rest committed s split runs h);
    }

-- what takes a seen entry back may be performed on the site's list
pub revoked_may : (base : List PlainItem) (before rest committed : List Parcel) (hints : Hints) (live : Bool) (i : ℕ) (s : Site) (back : List Transaction) → Sound base → AllRun (flattened before) base →
    before ++ rest ≡ committed → Holds base before s → i < s.seen → revocation live (hinted_entries committed hints s) i ≡ Ok back → AllMayRun back s.replica.items
revoked_may base before rest committed hints live i s back sound runs split h below e =
    let known = known_run base before rest committed hints i s sound runs split h below in
    let list = list_is base before rest committed s split h ∙ ap (λ ps. replay (flattened ps) base) (sym (hinted_are committed hints s)) in
    AllMayRun_from_runs back s.replica.items (subst (AllRun back) (sym list) (revocation_runs live (hinted_entries committed hints s) i back base known e))

pub revoke_holds : (base : List PlainItem) (before rest committed : List Parcel) (hints : Hints) (live : Bool) (i : ℕ) (s next : Site) → Sound base → AllRun (flattened before) base →
    before ++ rest ≡ committed → Holds base before s → i < s.seen → revoke_entry committed hints live i s ≡ Ok next → Holds base before next
revoke_holds base before rest committed hints live i s next sound runs split h below done = by_result (revocation live (hinted_entries committed hints s) i) refl done
  where
    by_result : (r : Result (List Transaction) RevokeCause) → revocation live (hinted_entries committed hints s) i ≡ r → revoke_by i r s ≡ Ok next → Holds base before next
    by_result (Err cause) e done = cc
    by_result (Ok back) e done =
        let same : with_entry_against (Some i) back s ≡ next = cc in
        subst (Holds base before) same (edit_holds base before (Some i) back s h (revoked_may base before rest committed hints live i s back sound runs split h below e))

-- ---- a foreign entry

needed_grown : {S T : List Value} (ps : List Parcel) → Grown S T → AllNeeded S ps → AllNeeded T ps
needed_grown [] g n = tt
needed_grown {S = S} {T = T} (p ∷ ps) g n = (in_grown S T (needed_values p) g n.0, needed_grown ps g n.1)

pub foreign_holds : (base : List PlainItem) (before : List Parcel) (foreign : Parcel) (s : Site) → Sound (ground base before) → Holds base before s → AllRun foreign (ground base before) →
    Holds base (before ++ foreign ∷ []) (take_entry foreign s)
foreign_holds base before foreign s sound h run =
    let floor = ground base before in
    let ps = parcels (pending s) in
    let j = join_entries foreign ps in
    let law = entries_join foreign ps floor sound run h.runs in
    let n = length j.kept in
    let dropped = drop n (pending s) in
    let stay = flattened (take n ps) in
    let split : flattened ps ≡ stay ++ flattened (parcels dropped) =
    ap flattened (sym (take-append-drop n ps)) ∙ flattened-append (take n ps) (drop n ps) ∙ ap (λ r. stay ++ flattened r) (sym (parcels-drop n (pending s))) in
    let runs = AllRun-parts stay (flattened (parcels dropped)) floor (subst (λ us. AllRun us floor) split h.runs) in
    let back = items_all_reverted dropped s.replica (replay stay floor) (sound_after stay floor sound runs.0) runs.1
    (h.list ∙ ap (λ us. replay us floor) split ∙ replay-append stay (flattened (parcels dropped)) floor) in
    let new = take_entry foreign s in
    let floor_on : ground base (before ++ foreign ∷ []) ≡ replay foreign floor =
    ap (λ us. replay us base) (flattened-append before (foreign ∷ []) ∙ ap (λ r. flattened before ++ r) (append-nil foreign)) ∙ replay-append (flattened before) foreign base in
    let kept_is : parcels (pending new) ≡ j.kept =
    ap parcels (take-append-drop (length s.sent) (parcel_entries (length new.replica.store) (hints (pending s)) j.kept)) ∙ parcels-noted (length new.replica.store) (hints (pending s)) j.kept in
    let list : new.replica.items ≡ replay (flattened j.kept) (replay foreign floor) =
    items_performed j.committed (all_reverted dropped s.replica) ∙ ap (replay j.committed) back ∙ law.one_list in
    let together = take-append-drop n (pending s) in
    let kept = all_reverted_kept (take n (pending s)) dropped s.replica floor sound
    (subst (λ r. AllRun (flattened (parcels r)) floor) (sym together) h.runs) (h.list ∙ ap (λ r. replay (flattened (parcels r)) floor) (sym together))
    (subst (Chain s.replica.store 0 floor) (sym together) h.chain) h.held in
    let middle = all_reverted dropped s.replica in
    let grown = all_performed_grows j.committed middle in
    let needs = over_needed middle.store foreign ps (subst (AllNeeded middle.store) (parcels-take n (pending s)) (chain_needed middle.store 0 floor (take n (pending s)) kept.chain)) in
    let end = (all_performed j.committed middle).store in
    record {
      chain = subst (Chain end 0 (ground base (before ++ foreign ∷ []))) (sym (take-append-drop (length s.sent) (parcel_entries (length end) (hints (pending s)) j.kept)))
          (chain_noted end 0 (ground base (before ++ foreign ∷ [])) (hints (pending s)) j.kept (omega arith) (needed_grown j.kept grown needs));
      held = all_performed_held j.committed middle kept.held;
      seen = length-append before (foreign ∷ []) ∙ (let e : length before + 1 ≡ suc s.seen = (let f = h.seen in omega arith) in e);
      list = list ∙ ap (replay (flattened j.kept)) (sym floor_on) ∙ ap (λ r. replay (flattened r) (ground base (before ++ foreign ∷ []))) (sym kept_is);
      runs = subst (λ r. AllRun (flattened r) (ground base (before ++ foreign ∷ []))) (sym kept_is) (subst (AllRun (flattened j.kept)) (sym floor_on) law.kept_run);
      undone = tt;
    }
