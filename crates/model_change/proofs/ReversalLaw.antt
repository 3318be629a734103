-- Reversals of lists of transactions, and an entry taken back under later ones.
use Rattle.std.proofs.Common.{◌≡◌, ℕ, zero, suc, ◌+◌, ◌<◌, List, [], ◌∷◌, ◌++◌, length, Result, Ok, Err, refl, sym, ap, ◌∙◌, subst, append_assoc, arith}
use Rattle.model_items.specs.declared.plain_item.PlainItem.{PlainItem}
use Rattle.model_items.specs.Law.{Lawful}
use Rattle.model_change.specs.Attributes.{AllNamesApart}
use Rattle.model_change.specs.Transaction.{Transaction, all_inserted, all_removed, edited}
use Rattle.model_change.specs.Inverse.{inverse}
use Rattle.model_change.specs.Join.{RangeConflict, list_with, join_list}
use Rattle.model_change.specs.Replay.{replay, Runs, AllRun, reversal, ReversalUndoes, flattened, mine_of, entry_at, made_before, made_after, RevokeTakesBack, RevokeOfLast, inserted_by, removed_by, RevokeIsWithin}
use Rattle.model_change.proofs.InverseLemmas.{inverse_undoes}
use Rattle.model_change.proofs.InverseNormal.{inverse_is_reduced, inverse_inserts}
use Rattle.model_change.proofs.FilledLemmas.{names_stay_apart, InsertedApart-inverse}
use Rattle.model_change.proofs.JoinListLaw.{lists_agree, lists_within, AllWithin-more, replay_within}

replay-append : (ts us : List Transaction) (items : List PlainItem) → replay (ts ++ us) items ≡ replay us (replay ts items)
replay-append [] us items = refl
replay-append (t ∷ ts) us items = replay-append ts us (edited t items)

AllRun-append : (ts us : List Transaction) (items : List PlainItem) → AllRun ts items → AllRun us (replay ts items) → AllRun (ts ++ us) items
AllRun-append [] us items p q = q
AllRun-append (t ∷ ts) us items p q = (p.0, AllRun-append ts us (edited t items) p.1 q)

pub reversal_undoes : ReversalUndoes
reversal_undoes [] items lawful apart runs = record { runs = tt; back = refl }
reversal_undoes (t ∷ ts) items lawful apart runs =
    let new = edited t items in
    let run = runs.0 in
    let rest = reversal_undoes ts new run.lawful (names_stay_apart t items run.applies run.apart apart) runs.1 in
    let undone = inverse_undoes t items run.reduced apart run.applies run.restorable in
    let one : Runs (inverse t) new = record {
      reduced = inverse_is_reduced t run.reduced;
      applies = undone.applies;
      lawful = subst Lawful (sym undone.undone) lawful;
      restorable = undone.restorable;
      apart = InsertedApart-inverse t items run.applies apart;
    } in
    record {
      runs = AllRun-append (reversal ts) (inverse t ∷ []) (replay ts new) rest.runs (subst (AllRun (inverse t ∷ [])) (sym rest.back) (one, tt));
      back = replay-append (reversal ts) (inverse t ∷ []) (replay ts new) ∙ ap (edited (inverse t)) rest.back ∙ undone.undone;
    }

pub join_list-none : (mine : List Transaction) → join_list [] mine ≡ Ok ([], mine)
join_list-none [] = refl
join_list-none (one ∷ mine) = ap (list_with one) (join_list-none mine)

pub revoke_of_last : RevokeOfLast
revoke_of_last entries i none = ap (λ ts. mine_of (join_list ts (reversal (entry_at entries i)))) none ∙ ap mine_of (join_list-none (reversal (entry_at entries i)))

-- entries before one, it, and those after it
flattened-parts : (entries : List (List Transaction)) (i : ℕ) → i < length entries → flattened entries ≡ made_before entries i ++ (entry_at entries i ++ made_after entries i)
flattened-parts [] i h = absurd (omega arith)
flattened-parts (entry ∷ entries) zero h = refl
flattened-parts (entry ∷ entries) (suc i) h =
    ap (λ ts. entry ++ ts) (flattened-parts entries i (omega arith))
    ∙ sym (append_assoc entry (made_before entries i) (entry_at entries i ++ made_after entries i))

AllRun_prefix : (ts us : List Transaction) (items : List PlainItem) → AllRun (ts ++ us) items → AllRun ts items × AllRun us (replay ts items)
AllRun_prefix [] us items runs = (tt, runs)
AllRun_prefix (t ∷ ts) us items runs = let rest = AllRun_prefix ts us (edited t items) runs.1 in ((runs.0, rest.0), rest.1)

replay_lawful : (ts : List Transaction) (items : List PlainItem) → Lawful items → AllRun ts items → Lawful (replay ts items)
replay_lawful [] items lawful runs = lawful
replay_lawful (t ∷ ts) items lawful runs = replay_lawful ts (edited t items) runs.0.lawful runs.1

replay_apart : (ts : List Transaction) (items : List PlainItem) → AllNamesApart items → AllRun ts items → AllNamesApart (replay ts items)
replay_apart [] items apart runs = apart
replay_apart (t ∷ ts) items apart runs = replay_apart ts (edited t items) (names_stay_apart t items runs.0.applies runs.0.apart apart) runs.1

mine_of-ok : (r : Result (List Transaction × List Transaction) RangeConflict) (back : List Transaction) → mine_of r ≡ Ok back →
    (without : List Transaction) × (r ≡ Ok (without, back))
mine_of-ok (Err clash) back h = cc
mine_of-ok (Ok joined) back h = let e : joined.1 ≡ back = cc in (joined.0, λ i. Ok (joined.0, e i))

pub revoke_takes_back : RevokeTakesBack
revoke_takes_back entries i back base inside lawful apart runs h =
    let entry = entry_at entries i in
    let j = mine_of-ok (join_list (made_after entries i) (reversal entry)) back h in
    let parts = flattened-parts entries i inside in
    let first = AllRun_prefix (made_before entries i) (entry ++ made_after entries i) base (subst (λ ts. AllRun ts base) parts runs) in
    let L = replay (made_before entries i) base in
    let second = AllRun_prefix entry (made_after entries i) L first.1 in
    let lawful_there = replay_lawful (made_before entries i) base lawful first.0 in
    let undone = reversal_undoes entry L lawful_there (replay_apart (made_before entries i) base apart first.0) second.0 in
    let agree = lists_agree (made_after entries i) (reversal entry) (j.0, back) (replay entry L) (replay_lawful entry L lawful_there second.0) second.1 undone.runs j.1 in
    let whole : replay (flattened entries) base ≡ replay (made_after entries i) (replay entry L) =
    ap (λ ts. replay ts base) parts ∙ replay-append (made_before entries i) (entry ++ made_after entries i) base ∙ replay-append entry (made_after entries i) L in
    record {
      without = j.0;
      joined = j.1;
      runs = subst (AllRun back) (sym whole) agree.mine_after;
      without_runs = subst (AllRun j.0) undone.back agree.committed_after;
      one_list = ap (replay back) whole ∙ agree.one_list ∙ ap (replay j.0) undone.back;
    }

-- how long it may be

inserted_by-append : (ts us : List Transaction) → inserted_by (ts ++ us) ≡ inserted_by ts + inserted_by us
inserted_by-append [] us = omega arith
inserted_by-append (t ∷ ts) us = let rest = inserted_by-append ts us in omega arith

inserted_by-reversal : (ts : List Transaction) → inserted_by (reversal ts) ≡ removed_by ts
inserted_by-reversal [] = refl
inserted_by-reversal (t ∷ ts) =
    let one : length (all_inserted (inverse t)) ≡ length (all_removed t) = ap (λ (l : List PlainItem). length l) (inverse_inserts t) in
    let rest = inserted_by-reversal ts in
    let both = inserted_by-append (reversal ts) (inverse t ∷ []) in
    omega arith

pub revoke_is_within : RevokeIsWithin
revoke_is_within entries i back base inside lawful apart runs h =
    let entry = entry_at entries i in
    let later = made_after entries i in
    let j = mine_of-ok (join_list later (reversal entry)) back h in
    let parts = flattened-parts entries i inside in
    let first = AllRun_prefix (made_before entries i) (entry ++ later) base (subst (λ ts. AllRun ts base) parts runs) in
    let L = replay (made_before entries i) base in
    let second = AllRun_prefix entry later L first.1 in
    let lawful_there = replay_lawful (made_before entries i) base lawful first.0 in
    let undone = reversal_undoes entry L lawful_there (replay_apart (made_before entries i) base apart first.0) second.0 in
    let within = lists_within later (reversal entry) (j.0, back) (replay entry L) (replay_lawful entry L lawful_there second.0) second.1 undone.runs j.1 in
    let one = replay_within (made_before entries i) base first.0 in
    let two = replay_within entry L second.0 in
    let removed = inserted_by-reversal entry in
    let whole : inserted_by (flattened entries) ≡ inserted_by (made_before entries i) + (inserted_by entry + inserted_by later) =
    ap inserted_by parts ∙ inserted_by-append (made_before entries i) (entry ++ later)
    ∙ ap (λ n. inserted_by (made_before entries i) + n) (inserted_by-append entry later) in
    AllWithin-more
    (length (replay entry L) + (inserted_by later + inserted_by (reversal entry)))
    (length base + (inserted_by (flattened entries) + removed_by entry))
    back
    (omega arith)
    within.1
