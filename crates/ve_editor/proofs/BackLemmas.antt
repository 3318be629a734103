-- Transactions taken back one after the other, the last one first.
use Rattle.std.proofs.Common.{◌≡◌, ◌<◌, ℕ, zero, suc, ◌+◌, List, [], ◌∷◌, ◌++◌, length, map, take, drop, get_or, refl, sym, ap, ◌∙◌, arith}
use Rattle.ve_base.specs.declared.value.Value.{Value}
use Rattle.model_items.specs.Plain.{AreDistinct}
use Rattle.model_change.specs.Inverse.{inverse}
use Rattle.model_change.specs.Replay.{reversal}
use Rattle.model_change.specs.Store.{changed_heads}
use Rattle.model_change.specs.Transaction.{Transaction}
use Rattle.model_change.proofs.StoreLemmas.{fill_appends}
use Rattle.model_site.specs.Entries.{Entry, cut_back, reverted}
use Rattle.model_site.specs.Replica.{Replica, put_back, all_put_back}
use Rattle.ve_tx.specs.Making.{Extends}
use Rattle.ve_tx.specs.Operation.{Operation, by_value}
use Rattle.ve_tx.proofs.ValuesLemmas.{extends_by_fill}
use Rattle.ve_editor.specs.Edited.{reversal_over}
use Rattle.ve_editor.specs.Page.{LinkedPage, replica_of}

put_back-append : (ts us : List Transaction) (r : Replica) → all_put_back (ts ++ us) r ≡ all_put_back us (all_put_back ts r)
put_back-append [] us r = refl
put_back-append (t ∷ ts) us r = put_back-append ts us (put_back t r)

reversal-push : (ts : List Transaction) (t : Transaction) → reversal (ts ++ t ∷ []) ≡ inverse t ∷ reversal ts
reversal-push [] t = refl
reversal-push (u ∷ ts) t = ap (λ l. l ++ inverse u ∷ []) (reversal-push ts t)

taken_one : {A : Type 0} (k : ℕ) (xs : List A) (x : A) → k < length xs → x ≡ get_or xs k x → take (k + 1) xs ≡ take k xs ++ x ∷ []
taken_one k [] x below is = absurd (omega (arith, below))
taken_one zero (y ∷ xs) x below is = ap (λ z. z ∷ []) (sym is)
taken_one (suc k) (y ∷ xs) x below is =
    let next : suc k + 1 ≡ suc (k + 1) = omega arith in ap (λ n. take n (y ∷ xs)) next ∙ ap (λ l. y ∷ l) (taken_one k xs x (omega (arith, below)) is)

dropped_one : {A : Type 0} (k : ℕ) (xs : List A) (x : A) → k < length xs → x ≡ get_or xs k x → drop k xs ≡ x ∷ drop (k + 1) xs
dropped_one k [] x below is = absurd (omega (arith, below))
dropped_one zero (y ∷ xs) x below is = ap (λ z. z ∷ xs) (sym is)
dropped_one (suc k) (y ∷ xs) x below is =
    let next : suc (k + 1) ≡ suc k + 1 = omega arith in dropped_one k xs x (omega (arith, below)) is ∙ ap (λ n. x ∷ drop n (y ∷ xs)) next

map-push : (f : List Operation → Transaction) (xs : List (List Operation)) (x : List Operation) → map f (xs ++ x ∷ []) ≡ map f xs ++ f x ∷ []
map-push f [] x = refl
map-push f (y ∷ xs) x = ap (λ l. f y ∷ l) (map-push f xs x)

-- the last of what is left, and what is left then
pub left_over : (store : List Value) (txs : List (List Operation)) (k : ℕ) (tx : List Operation) → k < length txs → tx ≡ get_or txs k tx →
    reversal_over store (take (k + 1) txs) ≡ inverse (by_value store tx) ∷ reversal_over store (take k txs)
left_over store txs k tx below is =
    ap (reversal_over store) (taken_one k txs tx below is) ∙ ap reversal (map-push (by_value store) (take k txs) tx) ∙ reversal-push (map (by_value store) (take k txs)) (by_value store tx)

-- what is made with one more
pub made_more : (store : List Value) (txs : List (List Operation)) (k : ℕ) (tx : List Operation) (old : Replica) → k < length txs → tx ≡ get_or txs k tx →
    all_put_back (reversal_over store (drop k txs)) old ≡ put_back (inverse (by_value store tx)) (all_put_back (reversal_over store (drop (k + 1) txs)) old)
made_more store txs k tx old below is =
    ap (λ l. all_put_back (reversal_over store l) old) (dropped_one k txs tx below is)
    ∙ put_back-append (reversal_over store (drop (k + 1) txs)) (inverse (by_value store tx) ∷ []) old

-- values stay distinct, and none goes
pub distinct_back : (ts : List Transaction) (r : Replica) → AreDistinct r.store → AreDistinct (all_put_back ts r).store
distinct_back [] r h = h
distinct_back (t ∷ ts) r h = distinct_back ts (put_back t r) ((fill_appends r.store (changed_heads t r.items)).distinct h)

pub extends_back : (t : Transaction) (r s : Replica) → s ≡ put_back t r → Extends r.store s.store
extends_back t r s h = extends_by_fill r.store s.store (changed_heads t r.items) (ap (λ (q : Replica). q.store) h)

-- a list of one
pub one_only : {A : Type 0} (xs : List A) (x : A) → length xs ≡ 1 → x ≡ get_or xs 0 x → xs ≡ x ∷ []
one_only [] x n is = absurd (omega (arith, n))
one_only (y ∷ []) x n is = ap (λ z. z ∷ []) (sym is)
one_only (y ∷ (z ∷ xs)) x n is = absurd (let more : suc (suc (length xs)) ≡ 1 = n in omega (arith, more))

-- after a reversal, an entry's values cut off
abbrev cut_off : Entry → ℕ → Replica → Replica
cut_off e was r = record { items = r.items; store = cut_back e was r.store; selection = r.selection }

pub reverted_is : (e : Entry) (r : Replica) (made new : LinkedPage) (was : ℕ) → replica_of made ≡ all_put_back (reversal e.txs) r → new ≡ record made { store = cut_back e was made.store } →
    was ≡ length r.store → replica_of new ≡ reverted e r
reverted_is e r made new was page cut count = ap replica_of cut ∙ ap (cut_off e was) page ∙ ap (λ n. cut_off e n (all_put_back (reversal e.txs) r)) count

pub nodes_stand : (made new : LinkedPage) (store : List Value) → new ≡ record made { store = store } → made.nodes ≡ new.nodes
nodes_stand made new store cut = sym (ap (λ (p : LinkedPage). p.nodes) cut)
