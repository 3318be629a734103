-- Entries noted as taken back, the last one first; and parcels noted, the first one first.
use Rattle.std.proofs.Common.{◌≡◌, ◌-◌, ℕ, zero, suc, List, [], ◌∷◌, ◌++◌, length, map, drop, min, sym, ap, ◌∙◌, arith}
use Rattle.std.proofs.lemmas.List.{append_assoc, append-nil, drop_min, map-append}
use Rattle.ve_base.specs.declared.value.Value.{Value}
use Rattle.model_change.specs.Inverse.{inverse}
use Rattle.model_change.specs.Replay.{flattened, reversal}
use Rattle.model_change.specs.Transaction.{Transaction}
use Rattle.model_site.specs.Entries.{parcels}
use Rattle.model_site.specs.Untold.{Untold, passed}
use Rattle.model_site_law.proofs.ReplayLemmas.{flattened-append, parcels-append}
use Rattle.ve_tx.specs.declared.entry.Entry.{Entry}
use Rattle.ve_tx.specs.declared.parcel.Parcel.{Parcel}
use Rattle.ve_tx.specs.ByValue.{parcel_by_value}
use Rattle.ve_tx.specs.Operation.{by_value}
use Rattle.ve_editor.specs.Edited.{entry_by_value}
use Rattle.ve_site.specs.Dropped.{back_over}
use Rattle.ve_site.proofs.PatchLemmas.{passed_both}

pub reversal-append : (ts us : List Transaction) → reversal (ts ++ us) ≡ reversal us ++ reversal ts
reversal-append [] us = sym (append-nil (reversal us))
reversal-append (t ∷ ts) us = ap (λ l. l ++ inverse t ∷ []) (reversal-append ts us) ∙ append_assoc (reversal us) (reversal ts) (inverse t ∷ [])

-- one more is taken back
pub entry_undone : (values : List Value) (e : Entry) (l rest : List Entry) (old u v : Untold) → l ≡ e ∷ rest → u ≡ passed (back_over values rest) old →
    v ≡ passed (reversal (map (by_value values) e.txs)) u → v ≡ passed (back_over values l) old
entry_undone values e l rest old u v split before noted =
    let ts = map (by_value values) e.txs in
    noted
    ∙ (ap (passed (reversal ts)) before
    ∙ (passed_both (back_over values rest) (reversal ts) old
    ∙ (ap (λ us. passed us old) (sym (reversal-append ts (flattened (parcels (map (entry_by_value values) rest)))))
    ∙ ap (λ es. passed (back_over values es) old) (sym split))))

pub back-append : (values : List Value) (xs ys : List Entry) → back_over values (xs ++ ys) ≡ back_over values ys ++ back_over values xs
back-append values xs ys =
    let first = map (entry_by_value values) xs in
    let second = map (entry_by_value values) ys in
    ap (λ es. reversal (flattened (parcels es))) (map-append (entry_by_value values) xs ys)
    ∙ (ap (λ ps. reversal (flattened ps)) (parcels-append first second)
    ∙ (ap reversal (flattened-append (parcels first) (parcels second)) ∙ reversal-append (flattened (parcels first)) (flattened (parcels second))))

dropped_of_both : {A : Type 0} (n : ℕ) (xs ys : List A) → drop n xs ++ drop (n - length xs) ys ≡ drop n (xs ++ ys)
dropped_of_both zero xs ys = ap (λ k. xs ++ drop k ys) (let e : 0 - length xs ≡ 0 = omega arith in e)
dropped_of_both (suc n) [] ys = ap (λ k. drop k ys) (let e : suc n - 0 ≡ suc n = omega arith in e)
dropped_of_both (suc n) (x ∷ xs) ys =
    ap (λ k. drop n xs ++ drop k ys) (let e : suc n - suc (length xs) ≡ n - length xs = omega arith in e) ∙ dropped_of_both n xs ys

-- first those of the second list that are past so many of both, and then those of the first
pub both_undone : (values : List Value) (n : ℕ) (xs ys first second : List Entry) (old u v : Untold) → first ≡ drop (min n (length xs)) xs → second ≡ drop (n - length xs) ys →
    u ≡ passed (back_over values second) old → v ≡ passed (back_over values first) u → v ≡ passed (back_over values (drop n (xs ++ ys))) old
both_undone values n xs ys first second old u v a b before after =
    let all : first ++ second ≡ drop n (xs ++ ys) =
    ap (λ l. l ++ second) (a ∙ drop_min n xs) ∙ (ap (λ l. drop n xs ++ l) b ∙ dropped_of_both n xs ys) in
    after
    ∙ (ap (passed (back_over values first)) before
    ∙ (passed_both (back_over values second) (back_over values first) old
    ∙ (ap (λ us. passed us old) (sym (back-append values first second)) ∙ ap (λ es. passed (back_over values es) old) all)))

-- one more parcel is performed
pub parcel_noted : (p : Parcel) (l rest : List Parcel) (u v all : Untold) → l ≡ p ∷ rest → passed (flattened (map parcel_by_value l)) u ≡ all → v ≡ passed (parcel_by_value p) u →
    passed (flattened (map parcel_by_value rest)) v ≡ all
parcel_noted p l rest u v all split before noted =
    let later = flattened (map parcel_by_value rest) in
    ap (passed later) noted
    ∙ (passed_both (parcel_by_value p) later u ∙ (sym (ap (λ ps. passed (flattened (map parcel_by_value ps)) u) split) ∙ before))
