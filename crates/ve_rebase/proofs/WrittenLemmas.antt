-- Transactions and what they are written as.
use Rattle.std.proofs.Common.{◌≡◌, ◌≤◌, ◌<◌, ℕ, zero, suc, ◌+◌, true, List, [], ◌∷◌, ◌++◌, length, map, take, get_or, replicate, All, Result, Ok, refl, sym, ap, subst, ◌∙◌, arith}
use Rattle.std.proofs.lemmas.List.Elements.{All-nil, All-cons, All-head, All-tail, All-push}
use Rattle.std.proofs.lemmas.List.{map-append, take_more}
use Rattle.ve_base.specs.declared.value.Value.{Value}
use Rattle.model_change.specs.Transaction.{Transaction, is_normal, old_length, new_length}
use Rattle.model_change.specs.Join.{join_list, RangeConflict}
use Rattle.ve_tx.specs.Cites.{TxCites}
use Rattle.ve_tx.specs.Operation.{Operation, by_value}
use Rattle.ve_rebase.specs.declared.fault.RebaseFault.{RebaseFault}
use Rattle.ve_rebase.specs.declared.span.ActiveSpan.{ActiveSpan}
use Rattle.ve_rebase.specs.declared.shifted.Shifted.{Shifted}
use Rattle.ve_rebase.specs.Span.{span_of, old_size, new_size}
use Rattle.ve_rebase.specs.Pair.{between}
use Rattle.ve_rebase.specs.Lists.{RunOnLength, RunFromOneLength, IsRefusedAs, each_by_value}
use Rattle.ve_rebase.specs.Shifted.{MayMove, IsShifted, shifted_by_value, all_by_value, operations, FollowFrom, StartTogether, AreRows, AreWritten}
use Rattle.ve_rebase.proofs.PairLemmas.{span_fits, is_within}
use Rattle.ve_rebase.proofs.ShiftedLemmas.{begun_stands, begun_is, old_stands, new_stands}
use Rattle.ve_rebase.proofs.RowLemmas.{length-map-same}

-- a transaction with its own span
pub begun_moves : (tx : List Operation) (s : ActiveSpan) → ((values : List Value) → s ≡ span_of (by_value values tx)) → ((values : List Value) → is_normal (by_value values tx) ≡ true) → MayMove s tx
begun_moves tx s e h = record {
  fits = span_fits (by_value [] tx) s (e []) (h []);
  stands = λ values. let w = is_within (by_value values tx) (h values) in begun_stands (by_value values tx) s (e values) w.reduced;
}

pub begun_by_value : (tx : List Operation) (s : ActiveSpan) → ((values : List Value) → s ≡ span_of (by_value values tx)) → ((values : List Value) → is_normal (by_value values tx) ≡ true) →
    (values : List Value) → by_value values tx ≡ between s (by_value values tx)
begun_by_value tx s e h values = let w = is_within (by_value values tx) (h values) in begun_is (by_value values tx) s (e values) w.reduced

pub written_more : (txs : List (List Operation)) (all : List Shifted) (tx : List Operation) (one : Shifted) → AreWritten txs all →
    ((values : List Value) → by_value values tx ≡ shifted_by_value values one) → AreWritten (txs ++ tx ∷ []) (all ++ one ∷ [])
written_more [] [] tx one h e = (e, tt)
written_more (t ∷ txs) (a ∷ all) tx one h e = (h.0, written_more txs all tx one h.1 e)
written_more [] (a ∷ all) tx one h e = absurd h
written_more (t ∷ txs) [] tx one h e = absurd h

-- one transaction more
pub record BegunSoFar (txs : List (List Operation)) (all : List Shifted) : Type 0 where
  pub shifted : All IsShifted all
  pub written : AreWritten txs all
  pub kept : map operations all ≡ txs

pub begun_next : (txs : List (List Operation)) (i : ℕ) (tx : List Operation) (all more : List Shifted) (one : Shifted) → i < length txs → tx ≡ get_or txs i tx → more ≡ all ++ one ∷ [] →
    IsShifted one → ((values : List Value) → by_value values tx ≡ shifted_by_value values one) → operations one ≡ tx →
    All IsShifted all → AreWritten (take i txs) all → map operations all ≡ take i txs → BegunSoFar (take (i + 1) txs) more
begun_next txs i tx all more one lt is e moves by same shifted written kept =
    let next : take (i + 1) txs ≡ take i txs ++ tx ∷ [] = take_more txs i tx lt ∙ ap (λ t. take i txs ++ t ∷ []) (sym is) in
    subst (λ l. BegunSoFar l more) (sym next) (subst (BegunSoFar (take i txs ++ tx ∷ [])) (sym e) (record {
      shifted = All-push IsShifted all one shifted moves;
      written = written_more (take i txs) all tx one written by;
      kept = map-append operations all (one ∷ []) ∙ (ap (λ l. l ++ operations one ∷ []) kept ∙ ap (λ t. take i txs ++ t ∷ []) same);
    }))

-- by value, each with its own values
pub written_by_value : (values : List (List Value)) (txs : List (List Operation)) (all : List Shifted) → AreWritten txs all → each_by_value values txs ≡ all_by_value values all
written_by_value values [] [] h = refl
written_by_value [] (t ∷ txs) (a ∷ all) h = ap (λ x. x ∷ each_by_value [] txs) (h.0 []) ∙ ap (λ l. shifted_by_value [] a ∷ l) (written_by_value [] txs all h.1)
written_by_value (v ∷ values) (t ∷ txs) (a ∷ all) h = ap (λ x. x ∷ each_by_value values txs) (h.0 v) ∙ ap (λ l. shifted_by_value v a ∷ l) (written_by_value values txs all h.1)
written_by_value values [] (a ∷ all) h = absurd h
written_by_value values (t ∷ txs) [] h = absurd h

-- and all with the same ones
pub written_alike : (v : List Value) (n : ℕ) (txs : List (List Operation)) (all : List Shifted) → AreWritten txs all → length all ≤ n → map (by_value v) txs ≡ all_by_value (replicate n v) all
written_alike v n [] [] h le = refl
written_alike v zero (t ∷ txs) (a ∷ all) h le = absurd (omega arith)
written_alike v (suc n) (t ∷ txs) (a ∷ all) h le =
    ap (λ x. x ∷ map (by_value v) txs) (h.0 v) ∙ ap (λ l. shifted_by_value v a ∷ l) (written_alike v n txs all h.1 (omega arith))
written_alike v n [] (a ∷ all) h le = absurd h
written_alike v n (t ∷ txs) [] h le = absurd h

pub written_mine : (v : List Value) (txs : List (List Operation)) (all : List Shifted) → AreWritten txs all → map (by_value v) txs ≡ map (shifted_by_value v) all
written_mine v [] [] h = refl
written_mine v (t ∷ txs) (a ∷ all) h = ap (λ x. x ∷ map (by_value v) txs) (h.0 v) ∙ ap (λ l. shifted_by_value v a ∷ l) (written_mine v txs all h.1)
written_mine v [] (a ∷ all) h = absurd h
written_mine v (t ∷ txs) [] h = absurd h

-- lengths chain by spans
old_is : (v : List Value) (tx : List Operation) (one : Shifted) → by_value v tx ≡ shifted_by_value v one → IsShifted one → old_size one.span ≡ old_length (by_value v tx)
old_is v tx one e h = sym (ap old_length e ∙ old_stands one.span (by_value v one.tx.now) (h.stands v))

pub new_is : (v : List Value) (tx : List Operation) (one : Shifted) → by_value v tx ≡ shifted_by_value v one → IsShifted one → new_length (by_value v tx) ≡ new_size one.span
new_is v tx one e h = ap new_length e ∙ new_stands one.span (by_value v one.tx.now) (h.stands v)

pub follows : (v : List Value) (n : ℕ) (txs : List (List Operation)) (all : List Shifted) → AreWritten txs all → All IsShifted all → RunOnLength n (map (by_value v) txs) → FollowFrom n all
follows v n [] [] h k run = tt
follows v n (t ∷ txs) (a ∷ all) h k run =
    (old_is v t a (h.0 v) (All-head IsShifted a all k) ∙ run.0, follows v (new_size a.span) txs all h.1 (All-tail IsShifted a all k) (subst (λ m. RunOnLength m (map (by_value v) txs)) (new_is v t a (h.0 v) (All-head IsShifted a all k)) run.1))
follows v n [] (a ∷ all) h k run = absurd h
follows v n (t ∷ txs) [] h k run = absurd h

pub each_follows : (values : List (List Value)) (n : ℕ) (txs : List (List Operation)) (all : List Shifted) → AreWritten txs all → All IsShifted all → RunOnLength n (each_by_value values txs) → FollowFrom n all
each_follows values n [] [] h k run = tt
each_follows [] n (t ∷ txs) (a ∷ all) h k run =
    (old_is [] t a (h.0 []) (All-head IsShifted a all k) ∙ run.0, each_follows [] (new_size a.span) txs all h.1 (All-tail IsShifted a all k) (subst (λ m. RunOnLength m (each_by_value [] txs)) (new_is [] t a (h.0 []) (All-head IsShifted a all k)) run.1))
each_follows (v ∷ values) n (t ∷ txs) (a ∷ all) h k run =
    (old_is v t a (h.0 v) (All-head IsShifted a all k) ∙ run.0, each_follows values (new_size a.span) txs all h.1 (All-tail IsShifted a all k) (subst (λ m. RunOnLength m (each_by_value values txs)) (new_is v t a (h.0 v) (All-head IsShifted a all k)) run.1))
each_follows values n [] (a ∷ all) h k run = absurd h
each_follows values n (t ∷ txs) [] h k run = absurd h

pub start_together : (txs others : List (List Operation)) (all more : List Shifted) → AreWritten txs all → AreWritten others more → All IsShifted all → All IsShifted more →
    RunFromOneLength (map (by_value []) txs) (map (by_value []) others) → StartTogether all more
start_together txs others all more h k g i run = record {
  length = run.length;
  committed_follow = follows [] run.length txs all h g run.committed_run;
  mine_follow = follows [] run.length others more k i run.mine_run;
}

-- both lists by value
abbrev both_lists : List Transaction → List Transaction → Result (List Transaction × List Transaction) RangeConflict
both_lists xs ys = Ok (xs, ys)

pub lists_joined : (txs others : List (List Operation)) (all more over more_over : List Shifted) (made made_too : List (List Operation)) → AreWritten txs all → AreWritten others more →
    AreRows all more over more_over → AreWritten made over → AreWritten made_too more_over → (values more_values : List Value) →
    join_list (map (by_value values) txs) (map (by_value more_values) others) ≡ Ok (map (by_value values) made, map (by_value more_values) made_too)
lists_joined txs others all more over more_over made made_too h k rows p q values more_values =
    let n = length all in
    let same : length over ≡ n = length-map-same operations over all rows.kept in
    ap (λ l. join_list l (map (by_value more_values) others)) (written_alike values n txs all h (omega arith))
    ∙ (ap (λ l. join_list (all_by_value (replicate n values) all) l) (written_mine more_values others more k)
    ∙ (rows.joined (replicate n values) more_values
    ∙ (ap (λ l. both_lists l (map (shifted_by_value more_values) more_over)) (sym (written_alike values n made over p (omega arith)))
    ∙ ap (λ l. both_lists (map (by_value values) made) l) (sym (written_mine more_values made_too more_over q)))))

pub lists_refused : (txs others : List (List Operation)) (all more : List Shifted) (why : RebaseFault) → AreWritten txs all → AreWritten others more →
    ((values : List (List Value)) (more_values : List Value) → IsRefusedAs (join_list (all_by_value values all) (map (shifted_by_value more_values) more)) why) →
    (values more_values : List Value) → IsRefusedAs (join_list (map (by_value values) txs) (map (by_value more_values) others)) why
lists_refused txs others all more why h k refused values more_values =
    let n = length all in
    subst (λ l. IsRefusedAs (join_list l (map (by_value more_values) others)) why) (sym (written_alike values n txs all h (omega arith)))
    (subst (λ l. IsRefusedAs (join_list (all_by_value (replicate n values) all) l) why) (sym (written_mine more_values others more k)) (refused (replicate n values) more_values))

pub cite_kept : (v : List Value) (txs : List (List Operation)) (all over : List Shifted) (made : List (List Operation)) → map operations all ≡ txs → map operations over ≡ map operations all →
    (All (TxCites v) (map operations over) → All (TxCites v) made) → All (TxCites v) txs → All (TxCites v) made
cite_kept v txs all over made e f made_cite cites = made_cite (subst (All (TxCites v)) (sym (f ∙ e)) cites)

-- what is written cites no more, however many are written
pub cite_more : (v : List Value) (txs : List (List Operation)) (done : List Shifted) (tx : List Operation) (one : Shifted) → (All (TxCites v) (map operations done) → All (TxCites v) txs) →
    (TxCites v (operations one) → TxCites v tx) → All (TxCites v) (map operations (done ++ one ∷ [])) → All (TxCites v) (txs ++ tx ∷ [])
cite_more v txs done tx one h e all =
    let both : All (TxCites v) (map operations done ++ operations one ∷ []) = subst (All (TxCites v)) (map-append operations done (one ∷ [])) all in
    let p = All-parts (TxCites v) (map operations done) (operations one ∷ []) both in
    All-push (TxCites v) txs tx (h p.0) (e (All-head (TxCites v) (operations one) [] p.1))
  where
    All-parts : {A : Type 0} (P : A → Type 0) (xs ys : List A) → All P (xs ++ ys) → All P xs × All P ys
    All-parts P [] ys h = (All-nil P, h)
    All-parts P (x ∷ xs) ys h =
        let r = All-parts P xs ys (All-tail P x (xs ++ ys) h) in
        (All-cons P x xs (All-head P x (xs ++ ys) h) r.0, r.1)
