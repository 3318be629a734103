-- Changes that were performed so far, and one more.
use Rattle.std.proofs.Common.{◌≡◌, ◌≤◌, ◌<◌, ℕ, suc, ◌+◌, List, [], ◌∷◌, ◌++◌, length, map, drop, None, Result, Ok, Err, refl, sym, ap, ◌∙◌, subst, append-nil, append_assoc, arith, get_or}
use Rattle.std.proofs.lemmas.List.{map-append, drop_more}
use Rattle.std.proofs.lemmas.List.Elements.{All-nil, All-append}
use Rattle.ve_base.specs.declared.value.Value.{Value}
use Rattle.model_items.specs.declared.plain_item.PlainItem.{PlainItem}
use Rattle.model_change.specs.Inverse.{filled}
use Rattle.model_change.specs.Store.{brought}
use Rattle.model_change.specs.Transaction.{Transaction}
use Rattle.model_change.proofs.FilledLemmas.{names_stay_apart}
use Rattle.model_site.specs.Entries.{Entry, entry_of}
use Rattle.model_site.specs.Refused.{edit_cause}
use Rattle.model_site.specs.Replica.{Replica, all_filled, all_performed, performed}
use Rattle.model_site_law.specs.MayHappen.{EditMayRun}
use Rattle.model_site_law.specs.Sound.{AllMayRun, MayRun, Sound}
use Rattle.model_world.specs.declared.edit_command.EditCommand.{EditCommand}
use Rattle.model_world.specs.declared.refusal.Refusal.{Refusal}
use Rattle.model_world.specs.Edits.{BatchRefusal, checked_transaction, batch_from, batch_on, change_of, change_on, unless_faulty}
use Rattle.model_change.specs.Cost.{cost_of_transaction, cost_of_transactions}
use Rattle.model_world.specs.Cost.{made_in_turn, made_of}
use Rattle.model_world_law.specs.Fit.{AllWritten, ChangesFit, IsWritten}
use Rattle.ve_tx.specs.declared.draft.Draft.{Draft}
use Rattle.ve_tx.specs.declared.entry.Entry.{Entry as KeptEntry}
use Rattle.ve_tx.specs.Cites.{TxCites}
use Rattle.ve_tx.specs.Entry.{entry_with}
use Rattle.ve_tx.specs.Making.{Extends}
use Rattle.ve_tx.specs.Operation.{by_value}
use Rattle.ve_tx.proofs.ValuesLemmas.{extends_by_fill}
use Rattle.ve_editor.specs.Edited.{EntryCites, entry_by_value}
use Rattle.ve_editor.specs.Page.{LinkedPage, replica_of}
use Rattle.ve_editor.proofs.OtherLemmas.{all_by_value-extended, all_cites-extended}
use Rattle.ve_editor.proofs.StayLemmas.{StaySoFar, stay_first, stay_more}
use Rattle.ve_changes.specs.declared.faults.ChangeStop.{ChangeStop}
use Rattle.ve_changes.specs.declared.faults.ChangeStop.TheVariants as one
use Rattle.ve_changes.specs.Drafts.{IsDrafted}
use Rattle.ve_changes.specs.Stops.{IsRefused}
use Rattle.ve_changes.specs.Batches.{IsBatch, IsBatchRefused, IsPerformed, no_entry, stop_at}

-- ---- transactions one after the other

performed-append : (ts us : List Transaction) (r : Replica) → all_performed (ts ++ us) r ≡ all_performed us (all_performed ts r)
performed-append [] us r = refl
performed-append (t ∷ ts) us r = performed-append ts us (performed t r)

filled-append : (ts us : List Transaction) (r : Replica) → all_filled (ts ++ us) r.items ≡ all_filled ts r.items ++ all_filled us (all_performed ts r).items
filled-append [] us r = refl
filled-append (t ∷ ts) us r = ap (λ l. filled t r.items ∷ l) (filled-append ts us (performed t r))

may-append : (ts us : List Transaction) (r : Replica) → AllMayRun ts r.items → AllMayRun us (all_performed ts r).items → AllMayRun (ts ++ us) r.items
may-append [] us r p q = q
may-append (t ∷ ts) us r p q = (p.0, may-append ts us (performed t r) p.1 q)

-- ---- one change

-- the transaction that a draft is, over the page that lent its list and its store
pub drafted_on : (r : Replica) (store : List Value) (items : List PlainItem) (c : EditCommand) (d : Draft) → store ≡ r.store → items ≡ r.items →
    IsDrafted store (change_of items c) d → IsDrafted r.store (change_of r.items c) d
drafted_on r store items c d s i h = subst (λ v. IsDrafted v (change_of r.items c) d) s (subst (λ l. IsDrafted store (change_of l c) d) i h)

pub undrafted : (r : Replica) (items : List PlainItem) (c : EditCommand) (why : ChangeStop) → items ≡ r.items → IsRefused why (change_of items c) → IsRefused why (change_on r c)
undrafted r items c (one.Refused why) i h = ap (checked_transaction r) (ap (λ l. change_of l c) (sym i) ∙ h)
undrafted r items c one.Memory i h = tt

pub allowed_is : (r : Replica) (c : EditCommand) (t : Transaction) → change_of r.items c ≡ Ok t → edit_cause t r ≡ None → change_on r c ≡ Ok t
allowed_is r c t e n = ap (checked_transaction r) e ∙ ap (λ o. unless_faulty o t) n

pub not_allowed : (r : Replica) (c : EditCommand) (t : Transaction) (why : ChangeStop) → change_of r.items c ≡ Ok t → IsRefused why (unless_faulty (edit_cause t r) t) → IsRefused why (change_on r c)
not_allowed r c t (one.Refused why) e h = ap (checked_transaction r) e ∙ h
not_allowed r c t one.Memory e h = tt

pub may_run : (fit : ChangesFit) (law : EditMayRun) (r : Replica) (c : EditCommand) (t : Transaction) → IsWritten c → Sound r.items → change_of r.items c ≡ Ok t → edit_cause t r ≡ None →
    MayRun t r.items
may_run fit law r c t written sound e n = let f = fit r.items c t written sound e in law t r f.reduced f.apart n

-- what a change that is performed may take; one that is refused takes nothing
pub cost_of_one : (r : Replica) (c : EditCommand) (t : Transaction) (old new : ℕ) → change_on r c ≡ Ok t → new ≤ old + cost_of_transaction t r.items →
    new ≤ old + cost_of_transactions (made_of (change_on r c)) r.items
cost_of_one r c t old new e h =
    let one : new ≤ old + cost_of_transactions (t ∷ []) r.items = omega (arith, h) in
    subst (λ (m : Result Transaction Refusal). new ≤ old + cost_of_transactions (made_of m) r.items) (sym e) one

-- ---- changes in turn

-- what they may take
abbrev pub cost_of_changes : Replica → List EditCommand → ℕ
cost_of_changes r cs = cost_of_transactions (made_in_turn r cs) r.items

made_next : (r : Replica) (c : EditCommand) (cs : List EditCommand) (t : Transaction) → change_on r c ≡ Ok t → made_in_turn r (c ∷ cs) ≡ t ∷ made_in_turn (performed t r) cs
made_next r c cs t e = ap (λ (m : Result Transaction Refusal). elim m as (λ _. List Transaction) [ Err refusal ↦ [] | Ok u ↦ u ∷ made_in_turn (performed u r) cs ]) e

-- the first of them is one of all
first_of_all : (r : Replica) (c : EditCommand) (cs : List EditCommand) → cost_of_transactions (made_of (change_on r c)) r.items ≤ cost_of_changes r (c ∷ cs)
first_of_all r c cs = by (change_on r c)
  where
    by : (m : Result Transaction Refusal) → cost_of_transactions (made_of m) r.items
        ≤ cost_of_transactions (elim m as (λ _. List Transaction) [ Err refusal ↦ [] | Ok t ↦ t ∷ made_in_turn (performed t r) cs ]) r.items
    by (Ok t) = omega arith
    by (Err refusal) = omega arith

-- what is meant after transactions that were performed
abbrev after : List Transaction → Result (List Transaction) BatchRefusal → Result (List Transaction) BatchRefusal
after ts (Ok us) = Ok (ts ++ us)
after ts (Err e) = Err e

-- Of the changes those before `rest` are performed, so many.
pub record SoFar (old : LinkedPage) (changes rest : List EditCommand) (i : ℕ) (now : LinkedPage) (e : KeptEntry) : Type 0 where
  pub ts : List Transaction
  pub meant : batch_on (replica_of old) changes ≡ after ts (batch_from i rest (replica_of now))
  pub may : AllMayRun ts old.items
  pub page : replica_of now ≡ all_performed ts (replica_of old)
  pub entry : entry_by_value now.store e ≡ entry_of ts (replica_of old)
  pub cites : EntryCites now.store e
  pub sound : Sound now.items
  pub written : AllWritten rest
  pub stays : StaySoFar ts old now

after_none : (m : Result (List Transaction) BatchRefusal) → m ≡ after [] m
after_none (Ok us) = refl
after_none (Err e) = refl

pub first_so_far : (r : LinkedPage) (changes : List EditCommand) (e : KeptEntry) → Sound r.items → AllWritten changes → e ≡ no_entry (length r.store) → SoFar r changes changes 0 r e
first_so_far r changes e sound written none =
    subst (SoFar r changes changes 0 r) (sym none)
    (record {
      ts = [];
      meant = after_none (batch_on (replica_of r) changes);
      may = tt;
      page = refl;
      entry = refl;
      cites = All-nil (TxCites r.store);
      sound = sound;
      written = written;
      stays = stay_first r;
    })

-- a batch that goes on after a change
batch_next : (i : ℕ) (c : EditCommand) (cs : List EditCommand) (r : Replica) (t : Transaction) → change_on r c ≡ Ok t →
    batch_from i (c ∷ cs) r ≡ after (t ∷ []) (batch_from (suc i) cs (performed t r))
batch_next i c cs r t e = by (change_on r c) e
  where
    rest : (m : Result (List Transaction) BatchRefusal) → (elim m as (λ _. Result (List Transaction) BatchRefusal) [ Err refused ↦ Err refused | Ok ts ↦ Ok (t ∷ ts) ]) ≡ after (t ∷ []) m
    rest (Ok ts) = refl
    rest (Err e) = refl

    by : (m : Result Transaction Refusal) → m ≡ Ok t → (elim m as (λ _. Result (List Transaction) BatchRefusal) [
      | Err refusal ↦ Err (record { at = i; refusal = refusal })
      | Ok t ↦ elim (batch_from (suc i) cs (performed t r)) [
        | Err refused ↦ Err refused
        | Ok ts ↦ Ok (t ∷ ts)
      ]
    ]) ≡ after (t ∷ []) (batch_from (suc i) cs (performed t r))
    by (Ok u) e = let same : u ≡ t = cc in
        subst (λ v. (elim (batch_from (suc i) cs (performed v r)) as (λ _. Result (List Transaction) BatchRefusal) [ Err refused ↦ Err refused | Ok ts ↦ Ok (v ∷ ts) ]) ≡ after (t ∷ []) (batch_from (suc i) cs (performed t r)))
        (sym same) (rest (batch_from (suc i) cs (performed t r)))
    by (Err refusal) e = cc

-- and one that ends with it
batch_ends : (i : ℕ) (c : EditCommand) (cs : List EditCommand) (r : Replica) (why : Refusal) → change_on r c ≡ Err why → batch_from i (c ∷ cs) r ≡ Err (record { at = i; refusal = why })
batch_ends i c cs r why e = by (change_on r c) e
  where
    by : (m : Result Transaction Refusal) → m ≡ Err why → (elim m as (λ _. Result (List Transaction) BatchRefusal) [
      | Err refusal ↦ Err (record { at = i; refusal = refusal })
      | Ok t ↦ elim (batch_from (suc i) cs (performed t r)) [
        | Err refused ↦ Err refused
        | Ok ts ↦ Ok (t ∷ ts)
      ]
    ]) ≡ Err (record { at = i; refusal = why })
    by (Ok u) e = cc
    by (Err refusal) e = let same : refusal ≡ why = cc in ap (λ w. Err (record { at = i; refusal = w })) same

after-append : (ts us : List Transaction) (m : Result (List Transaction) BatchRefusal) → after ts (after us m) ≡ after (ts ++ us) m
after-append ts us (Ok vs) = ap Ok (sym (append_assoc ts us vs))
after-append ts us (Err e) = refl

module _ (was at made : LinkedPage) (changes rest : List EditCommand) (c : EditCommand) (i : ℕ) (e later : KeptEntry) (s : SoFar was changes (c ∷ rest) i at e) (p : IsPerformed at (change_on (replica_of at) c) made later) where
  abbrev pub r : Replica
  r = replica_of was

  abbrev pub now : Replica
  now = replica_of at

  abbrev pub new : Replica
  new = replica_of made

  extends : Extends now.store new.store
  extends = extends_by_fill now.store new.store (brought p.t now.items) (ap (λ (x : Replica). x.store) p.page)

  ends : all_performed (s.ts ++ p.t ∷ []) r ≡ new
  ends = performed-append s.ts (p.t ∷ []) r ∙ ap (performed p.t) (sym s.page) ∙ sym p.page

  txs : map (by_value new.store) (entry_with e later).txs ≡ all_filled (s.ts ++ p.t ∷ []) r.items
  txs =
      map-append (by_value new.store) e.txs later.txs
      ∙ ap (λ l. l ++ map (by_value new.store) later.txs) (all_by_value-extended now.store new.store extends e.txs s.cites ∙ ap (λ (x : Entry). x.txs) s.entry)
      ∙ ap (λ l. all_filled s.ts r.items ++ l) (ap (λ (x : Entry). x.txs) p.entry)
      ∙ ap (λ (x : Replica). all_filled s.ts r.items ++ all_filled (p.t ∷ []) x.items) s.page
      ∙ sym (filled-append s.ts (p.t ∷ []) r)

  last : later.store_after ≡ length (all_performed (s.ts ++ p.t ∷ []) r).store
  last = ap (λ (x : Entry). x.store_after) p.entry ∙ ap (λ (x : Replica). length x.store) (sym p.page ∙ sym ends)

  as_one : entry_by_value new.store (entry_with e later) ≡ entry_of (s.ts ++ p.t ∷ []) r
  as_one = λ j. record { txs = txs j; store_before = (ap (λ (x : Entry). x.store_before) s.entry) j; store_after = last j; takes_back = (ap (λ (x : Entry). x.takes_back) s.entry) j }

  pub next_so_far : SoFar was changes rest (suc i) made (entry_with e later)
  next_so_far = record {
    ts = s.ts ++ p.t ∷ [];
    meant =
        s.meant ∙ ap (after s.ts) (batch_next i c rest now p.t p.same) ∙ after-append s.ts (p.t ∷ []) (batch_from (suc i) rest (performed p.t now))
        ∙ ap (λ x. after (s.ts ++ p.t ∷ []) (batch_from (suc i) rest x)) (sym p.page);
    may = may-append s.ts (p.t ∷ []) r s.may (subst (λ (x : Replica). AllMayRun (p.t ∷ []) x.items) s.page (p.may, tt));
    page = sym ends;
    entry = as_one;
    cites = All-append (TxCites new.store) e.txs later.txs (all_cites-extended now.store new.store extends e.txs s.cites) p.cites;
    sound = subst (λ (x : Replica). Sound x.items) (sym p.page) (record { lawful = p.may.lawful; apart = names_stay_apart p.t now.items p.may.applies p.may.apart s.sound.apart });
    written = s.written.1;
    stays = stay_more s.ts p.t was at made s.stays (ap (λ (x : Replica). x.items) p.page) p.tree p.numbers;
  }

  -- what is left may take what it could, but for this one
  pub cost_left : (old mid end : ℕ) → mid + cost_of_changes now (c ∷ rest) ≤ old + cost_of_changes r changes →
      end ≤ mid + cost_of_transactions (made_of (change_on now c)) now.items → end + cost_of_changes new rest ≤ old + cost_of_changes r changes
  cost_left old mid end h k =
      let whole : cost_of_changes now (c ∷ rest) ≡ cost_of_transaction p.t now.items + cost_of_changes (performed p.t now) rest =
      ap (λ ts. cost_of_transactions ts now.items) (made_next now c rest p.t p.same) in
      let one : cost_of_transactions (made_of (change_on now c)) now.items ≡ cost_of_transaction p.t now.items + 0 =
      ap (λ (m : Result Transaction Refusal). cost_of_transactions (made_of m) now.items) p.same in
      let later : cost_of_changes new rest ≡ cost_of_changes (performed p.t now) rest = ap (λ (x : Replica). cost_of_changes x rest) p.page in
      omega (arith, h, k, whole, one, later)

pub all_made : (r now : LinkedPage) (changes rest : List EditCommand) (i : ℕ) (e : KeptEntry) → SoFar r changes rest i now e → rest ≡ [] → IsBatch r (batch_on (replica_of r) changes) now e
all_made r now changes rest i e s none = record {
  ts = s.ts;
  asked = s.meant ∙ ap (λ l. after s.ts (batch_from i l (replica_of now))) none ∙ ap Ok (append-nil s.ts);
  may = s.may;
  page = s.page;
  entry = s.entry;
  cites = s.cites;
  numbers = s.stays.numbers;
}

pub one_refused : (r now : LinkedPage) (changes rest : List EditCommand) (c : EditCommand) (i : ℕ) (e : KeptEntry) (why : ChangeStop) → SoFar r changes (c ∷ rest) i now e →
    IsRefused why (change_on (replica_of now) c) → IsBatchRefused (batch_on (replica_of r) changes) (stop_at i why)
one_refused r now changes rest c i e (one.Refused why) s h = s.meant ∙ ap (after s.ts) (batch_ends i c rest (replica_of now) why h)
one_refused r now changes rest c i e one.Memory s h = tt

-- ---- changes by their positions

drop_next : (changes : List EditCommand) (i : ℕ) (c : EditCommand) → i < length changes → c ≡ get_or changes i c → drop i changes ≡ c ∷ drop (i + 1) changes
drop_next changes i c inside is = drop_more changes i c inside ∙ ap (λ x. x ∷ drop (i + 1) changes) (sym is)

module _ (r now : LinkedPage) (changes : List EditCommand) (c : EditCommand) (i : ℕ) (e : KeptEntry) (inside : i < length changes) (is : c ≡ get_or changes i c) (s : SoFar r changes (drop i changes) i now e) where
  at_place : SoFar r changes (c ∷ drop (i + 1) changes) i now e
  at_place = subst (λ l. SoFar r changes l i now e) (drop_next changes i c inside is) s

  within_at : (old mid : ℕ) → mid + cost_of_changes (replica_of now) (drop i changes) ≤ old + cost_of_changes (replica_of r) changes →
      mid + cost_of_changes (replica_of now) (c ∷ drop (i + 1) changes) ≤ old + cost_of_changes (replica_of r) changes
  within_at old mid h = subst (λ l. mid + cost_of_changes (replica_of now) l ≤ old + cost_of_changes (replica_of r) changes) (drop_next changes i c inside is) h

  pub written_at : IsWritten c
  written_at = at_place.written.0

  pub performed_at : (new : LinkedPage) (later next : KeptEntry) → IsPerformed now (change_on (replica_of now) c) new later → next ≡ entry_with e later →
      SoFar r changes (drop (i + 1) changes) (i + 1) new next
  performed_at new later next p same =
      let one : suc i ≡ i + 1 = omega arith in
      subst (SoFar r changes (drop (i + 1) changes) (i + 1) new) (sym same)
      (subst (λ n. SoFar r changes (drop (i + 1) changes) n new (entry_with e later)) one (next_so_far r now new changes (drop (i + 1) changes) c i e later at_place p))

  pub cost_at : (new : LinkedPage) (later : KeptEntry) (old mid end : ℕ) → IsPerformed now (change_on (replica_of now) c) new later →
      mid + cost_of_changes (replica_of now) (drop i changes) ≤ old + cost_of_changes (replica_of r) changes →
      end ≤ mid + cost_of_transactions (made_of (change_on (replica_of now) c)) now.items → end + cost_of_changes (replica_of new) (drop (i + 1) changes) ≤ old + cost_of_changes (replica_of r) changes
  cost_at new later old mid end p h k = cost_left r now new changes (drop (i + 1) changes) c i e later at_place p old mid end (within_at old mid h) k

  pub refused_at : (why : ChangeStop) → IsRefused why (change_on (replica_of now) c) → IsBatchRefused (batch_on (replica_of r) changes) (stop_at i why)
  refused_at why h = one_refused r now changes (drop (i + 1) changes) c i e why at_place h

  -- where it ends with this one
  pub cost_stopped_at : (old mid end : ℕ) → mid + cost_of_changes (replica_of now) (drop i changes) ≤ old + cost_of_changes (replica_of r) changes →
      end ≤ mid + cost_of_transactions (made_of (change_on (replica_of now) c)) now.items → end ≤ old + cost_of_changes (replica_of r) changes
  cost_stopped_at old mid end h k =
      let whole = within_at old mid h in
      let first = first_of_all (replica_of now) c (drop (i + 1) changes) in omega (arith, whole, k, first)

-- ---- one change alone, as several

pub lone_batch : (r : Replica) (c : EditCommand) (t : Transaction) → change_on r c ≡ Ok t → batch_on r (c ∷ []) ≡ Ok (t ∷ [])
lone_batch r c t e = batch_next 0 c [] r t e

pub lone_refused : (r : Replica) (c : EditCommand) (why : Refusal) → change_on r c ≡ Err why → batch_on r (c ∷ []) ≡ Err (record { at = 0; refusal = why })
lone_refused r c why e = batch_ends 0 c [] r why e

pub cost_of_lone : (r : Replica) (c : EditCommand) (t : Transaction) (old new : ℕ) → change_on r c ≡ Ok t → new ≤ old + cost_of_transaction t r.items → new ≤ old + cost_of_changes r (c ∷ [])
cost_of_lone r c t old new e h = let own = cost_of_one r c t old new e h in let all = first_of_all r c [] in omega (arith, own, all)
