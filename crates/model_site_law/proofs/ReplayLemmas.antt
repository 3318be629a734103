-- Replays of lists of transactions, one part after the other.
use Rattle.std.proofs.Common.{◌≡◌, ◌<◌, ℕ, zero, suc, List, [], ◌∷◌, ◌++◌, length, take, drop, refl, sym, ap, ◌∙◌, subst, append_assoc, arith}
use Rattle.model_items.specs.Law.{Lawful}
use Rattle.model_items.specs.declared.plain_item.PlainItem.{PlainItem}
use Rattle.model_change.specs.Inverse.{filled}
use Rattle.model_change.specs.Replay.{AllRun, entry_at, flattened, made_after, made_before, replay}
use Rattle.model_change.specs.Transaction.{Attribute, InsertedApart, Replace, Retain, Transaction, all_inserted, all_removed}
use Rattle.model_change.proofs.FilledLemmas.{filling_is_neutral, names_stay_apart}
use Rattle.model_site.specs.Entries.{Entry, Hints, Parcel, parcels}
use Rattle.model_site.specs.Replica.{all_filled}
use Rattle.model_site.specs.Take.{parcel_entries}
use Rattle.model_site_law.specs.Sound.{AllMayRun, Sound}

pub replay-append : (ts us : List Transaction) (items : List PlainItem) → replay (ts ++ us) items ≡ replay us (replay ts items)
replay-append [] us items = refl
replay-append (t ∷ ts) us items = replay-append ts us _

pub AllRun-append : (ts us : List Transaction) (items : List PlainItem) → AllRun ts items → AllRun us (replay ts items) → AllRun (ts ++ us) items
AllRun-append [] us items p q = q
AllRun-append (t ∷ ts) us items p q = (p.0, AllRun-append ts us _ p.1 q)

pub AllRun-parts : (ts us : List Transaction) (items : List PlainItem) → AllRun (ts ++ us) items → AllRun ts items × AllRun us (replay ts items)
AllRun-parts [] us items p = (tt, p)
AllRun-parts (t ∷ ts) us items p = let q = AllRun-parts ts us _ p.1 in ((p.0, q.0), q.1)

pub sound_after : (ts : List Transaction) (items : List PlainItem) → Sound items → AllRun ts items → Sound (replay ts items)
sound_after [] items s p = s
sound_after (t ∷ ts) items s p =
    sound_after ts _ (record { lawful = p.0.lawful; apart = names_stay_apart t items p.0.applies p.0.apart s.apart }) p.1

-- ---- filled transactions

InsertedApart-filled : (t : Transaction) (items : List PlainItem) → InsertedApart t → InsertedApart (filled t items)
InsertedApart-filled [] items p = tt
InsertedApart-filled (Retain count ∷ ops) items p = InsertedApart-filled ops _ p
InsertedApart-filled (Replace all_removed all_inserted ∷ ops) items p = (p.0, InsertedApart-filled ops _ p.1)
InsertedApart-filled (Attribute change ∷ ops) items p = InsertedApart-filled ops _ p

pub replay-filled : (ts : List Transaction) (items : List PlainItem) → AllMayRun ts items → replay (all_filled ts items) items ≡ replay ts items
replay-filled [] items p = refl
replay-filled (t ∷ ts) items p =
    ap (replay (all_filled ts _)) (filling_is_neutral t items p.0.applies).same ∙ replay-filled ts _ p.1

pub AllRun-filled : (ts : List Transaction) (items : List PlainItem) → AllMayRun ts items → AllRun (all_filled ts items) items
AllRun-filled [] items p = tt
AllRun-filled (t ∷ ts) items p =
    let f = filling_is_neutral t items p.0.applies in (
      record {
        reduced = f.reduced ∙ p.0.reduced;
        applies = f.applies;
        lawful = subst Lawful (sym f.same) p.0.lawful;
        restorable = f.restorable;
        apart = InsertedApart-filled t items p.0.apart;
      },
      subst (AllRun (all_filled ts _)) (sym f.same) (AllRun-filled ts _ p.1),
    )

pub AllMayRun_from_runs : (ts : List Transaction) (items : List PlainItem) → AllRun ts items → AllMayRun ts items
AllMayRun_from_runs [] items p = tt
AllMayRun_from_runs (t ∷ ts) items p =
    (record { reduced = p.0.reduced; applies = p.0.applies; lawful = p.0.lawful; apart = p.0.apart }, AllMayRun_from_runs ts _ p.1)

-- ---- entries and their transactions

pub flattened-append : (ps qs : List Parcel) → flattened (ps ++ qs) ≡ flattened ps ++ flattened qs
flattened-append [] qs = refl
flattened-append (p ∷ ps) qs = ap (λ r. p ++ r) (flattened-append ps qs) ∙ sym (assoc p (flattened ps) (flattened qs))
  where
    assoc : (xs ys zs : List Transaction) → (xs ++ ys) ++ zs ≡ xs ++ (ys ++ zs)
    assoc [] ys zs = refl
    assoc (x ∷ xs) ys zs = ap (λ r. x ∷ r) (assoc xs ys zs)

-- the transactions before an entry, its own, and those after it
pub flattened-at : (entries : List Parcel) (i : ℕ) → i < length entries → flattened entries ≡ made_before entries i ++ (entry_at entries i ++ made_after entries i)
flattened-at [] i l = absurd (omega (arith, l))
flattened-at (entry ∷ entries) zero l = refl
flattened-at (entry ∷ entries) (suc i) l = ap (λ ts. entry ++ ts) (flattened-at entries i (omega (arith, l))) ∙ sym (append_assoc entry (made_before entries i) (entry_at entries i ++ made_after entries i))

pub parcels-append : (es fs : List Entry) → parcels (es ++ fs) ≡ parcels es ++ parcels fs
parcels-append [] fs = refl
parcels-append (e ∷ es) fs = ap (λ r. e.txs ∷ r) (parcels-append es fs)

pub parcels-drop : (n : ℕ) (es : List Entry) → parcels (drop n es) ≡ drop n (parcels es)
parcels-drop zero es = refl
parcels-drop (suc n) [] = refl
parcels-drop (suc n) (e ∷ es) = parcels-drop n es

pub parcels-take : (n : ℕ) (es : List Entry) → parcels (take n es) ≡ take n (parcels es)
parcels-take zero es = refl
parcels-take (suc n) [] = refl
parcels-take (suc n) (e ∷ es) = ap (λ r. e.txs ∷ r) (parcels-take n es)

pub parcels-noted : (n : ℕ) (taken : Hints) (ps : List Parcel) → parcels (parcel_entries n taken ps) ≡ ps
parcels-noted n taken [] = refl
parcels-noted n taken (p ∷ ps) = ap (λ r. p ∷ r) (parcels-noted n (drop 1 taken) ps)
