-- Patches noted one after the other, and those of operations as they are kept.
use Rattle.std.proofs.Common.{◌≡◌, ◌≤◌, ◌<◌, ◌+◌, ◌^◌, ℕ, zero, suc, List, [], ◌∷◌, ◌++◌, length, map, take, drop, get_or, refl, sym, ap, ◌∙◌, subst, arith}
use Rattle.std.proofs.lemmas.Bool.{and_parts, leb-true}
use Rattle.std.proofs.lemmas.List.{append_assoc, at_drop_more, append-nil, length-append, length-map, take-append-le, take_all}
use Rattle.ve_base.specs.declared.value.Value.{Value}
use Rattle.model_items.specs.declared.plain_item.PlainItem.{PlainItem}
use Rattle.model_items.specs.Plain.{plain}
use Rattle.model_change.specs.Attributes.{AttrChange, change_back, item_changed}
use Rattle.model_change.specs.Inverse.{attribute_ops, filled, inverse, inverse_after}
use Rattle.model_change.specs.Replay.{reversal}
use Rattle.model_change.specs.Transaction.{Transaction, edited, on_first}
use Rattle.model_change.specs.Transaction as model
use Rattle.model_site.specs.Replica.{all_filled}
use Rattle.model_site.specs.Untold.{Untold, max_patches, passed, patches_from, patches_of, with_patches}
use Rattle.model_site.specs.declared.patch.Patch.{Patch}
use Rattle.ve_tx.specs.Normal.{are_reduced, fit_into, size, total_size}
use Rattle.ve_tx.specs.Operation.{Attribute, Operation, Replace, Retain, IsNormal, bare, by_value}
use Rattle.ve_tx.specs.Turned.{op_back}
use Rattle.ve_tx.specs.declared.op.Op.{Op}
use Rattle.ve_tx.specs.declared.op.Op.TheVariants as op
use Rattle.ve_tx.proofs.NormalLemmas.{normal-bare}
use Rattle.ve_site.specs.Patches.{after_op, all_changed, all_turned, changed_at, changed_by_all, undone_by_all}

-- ---- notes after notes

pub with_none : (u : Untold) → length u.patches ≤ suc max_patches → with_patches [] u ≡ u
with_none u within = ap (λ ps. record { was = u.was; patches = ps }) (ap (take (suc max_patches)) (append-nil u.patches) ∙ take_all (suc max_patches) u.patches within)

taken_again : (n : ℕ) (xs ys : List Patch) → take n (take n xs ++ ys) ≡ take n (xs ++ ys)
taken_again zero xs ys = refl
taken_again (suc n) [] ys = refl
taken_again (suc n) (x ∷ xs) ys = ap (λ l. x ∷ l) (taken_again n xs ys)

pub with_more : (first second : List Patch) (u : Untold) → with_patches second (with_patches first u) ≡ with_patches (first ++ second) u
with_more first second u =
    ap (λ ps. record { was = u.was; patches = ps }) (taken_again (suc max_patches) (u.patches ++ first) second ∙ ap (take (suc max_patches)) (append_assoc u.patches first second))

at_most : (n : ℕ) (xs : List Patch) → length (take n xs) ≤ n
at_most zero xs = omega arith
at_most (suc n) [] = omega arith
at_most (suc n) (x ∷ xs) = let h = at_most n xs in omega (arith, h)

pub stays_within : (more : List Patch) (u v : Untold) → v ≡ with_patches more u → length v.patches ≤ suc max_patches
stays_within more u v e = subst (λ (x : Untold). length x.patches ≤ suc max_patches) (sym e) (at_most (suc max_patches) (u.patches ++ more))

-- one patch, where there is room for it, and where there is none
pub put_in : (u v : Untold) (p : Patch) → length u.patches ≤ max_patches → v.was ≡ u.was → v.patches ≡ u.patches ++ p ∷ [] → v ≡ with_patches (p ∷ []) u
put_in u v p below was same =
    let long = length-append u.patches (p ∷ []) in
    ap (λ n. record { was = n; patches = v.patches }) was
    ∙ ap (λ ps. record { was = u.was; patches = ps }) (same ∙ sym (take_all (suc max_patches) (u.patches ++ p ∷ []) (omega (arith, long, below))))

pub left_out : (u : Untold) (p : Patch) → length u.patches ≡ suc max_patches → u ≡ with_patches (p ∷ []) u
left_out u p full =
    ap (λ ps. record { was = u.was; patches = ps })
    (sym (take-append-le (suc max_patches) u.patches (p ∷ []) (omega (arith, full)) ∙ take_all (suc max_patches) u.patches (omega (arith, full))))

-- ---- operations, whatever values they cite

abbrev patch : (at removed inserted : ℕ) → Patch
patch at removed inserted = record { at = at; removed = removed; inserted = inserted }

patches_alike : (values : List Value) (at : ℕ) (tx : List Operation) → patches_from at (by_value values tx) ≡ all_changed at (map bare tx)
patches_alike values at [] = refl
patches_alike values at (Retain count ∷ tx) = patches_alike values (at + count) tx
patches_alike values at (Replace removed inserted ∷ tx) =
    let rest = by_value values tx in
    let come = map (plain values) inserted in
    ap (λ n. patch at n (length come) ∷ patches_from (at + length come) rest) (length-map removed (plain values))
    ∙ (ap (λ n. patch at (length removed) n ∷ patches_from (at + n) rest) (length-map inserted (plain values))
    ∙ ap (λ l. patch at (length removed) (length inserted) ∷ l) (patches_alike values (at + length inserted) tx))
patches_alike values at (Attribute change ∷ tx) = ap (λ l. patch at 1 1 ∷ l) (patches_alike values at tx)

pub changed_alike : (values : List Value) (txs : List (List Operation)) → patches_of (map (by_value values) txs) ≡ changed_by_all txs
changed_alike values [] = refl
changed_alike values (tx ∷ txs) = ap (λ l. l ++ patches_of (map (by_value values) txs)) (patches_alike values 0 tx) ∙ ap (λ l. all_changed 0 (map bare tx) ++ l) (changed_alike values txs)

-- ---- their inverses: attribute operations of one position change the same

abbrev ones : (at : ℕ) → List AttrChange → List Patch
ones at [] = []
ones at (change ∷ changes) = patch at 1 1 ∷ ones at changes

ones_before : (at : ℕ) (changes : List AttrChange) (t : Transaction) → patches_from at (attribute_ops changes ++ t) ≡ ones at changes ++ patches_from at t
ones_before at [] t = refl
ones_before at (change ∷ changes) t = ap (λ l. patch at 1 1 ∷ l) (ones_before at changes t)

one_first : (at : ℕ) (changes : List AttrChange) (ps : List Patch) → (patch at 1 1 ∷ ones at changes) ++ ps ≡ ones at changes ++ patch at 1 1 ∷ ps
one_first at [] ps = refl
one_first at (change ∷ changes) ps = ap (λ l. patch at 1 1 ∷ l) (one_first at changes ps)

turned_alike : (values : List Value) (at : ℕ) (tx : List Operation) (changes : List AttrChange) →
    patches_from at (inverse_after changes (by_value values tx)) ≡ ones at changes ++ all_changed at (all_turned (map bare tx))
turned_alike values at [] changes = ap (patches_from at) (sym (append-nil (attribute_ops changes))) ∙ ones_before at changes []
turned_alike values at (Retain count ∷ tx) changes =
    ones_before at changes (model.Retain count ∷ inverse (by_value values tx)) ∙ ap (λ l. ones at changes ++ l) (turned_alike values (at + count) tx [])
turned_alike values at (Replace removed inserted ∷ tx) changes =
    let rest = inverse (by_value values tx) in
    let gone = map (plain values) inserted in
    let back = map (plain values) removed in
    ones_before at changes (model.Replace gone back ∷ rest)
    ∙ ap (λ l. ones at changes ++ l)
    (ap (λ n. patch at n (length back) ∷ patches_from (at + length back) rest) (length-map inserted (plain values))
    ∙ (ap (λ n. patch at (length inserted) n ∷ patches_from (at + n) rest) (length-map removed (plain values))
    ∙ ap (λ l. patch at (length inserted) (length removed) ∷ l) (turned_alike values (at + length removed) tx [])))
turned_alike values at (Attribute change ∷ tx) changes =
    turned_alike values at tx (change_back change ∷ changes) ∙ one_first at changes (all_changed at (all_turned (map bare tx)))

patches_of-append : (ts us : List Transaction) → patches_of (ts ++ us) ≡ patches_of ts ++ patches_of us
patches_of-append [] us = refl
patches_of-append (t ∷ ts) us = ap (λ l. patches_from 0 t ++ l) (patches_of-append ts us) ∙ sym (append_assoc (patches_from 0 t) (patches_of ts) (patches_of us))

pub undone_alike : (values : List Value) (txs : List (List Operation)) → patches_of (reversal (map (by_value values) txs)) ≡ undone_by_all txs
undone_alike values [] = refl
undone_alike values (tx ∷ txs) =
    let t = by_value values tx in
    let later = reversal (map (by_value values) txs) in
    patches_of-append later (inverse t ∷ [])
    ∙ (ap (λ l. l ++ (patches_from 0 (inverse t) ++ [])) (undone_alike values txs)
    ∙ ap (λ l. undone_by_all txs ++ l) (append-nil (patches_from 0 (inverse t)) ∙ turned_alike values 0 tx []))

-- ---- positions that an attribute keeps are of no matter

patches_filled : (at : ℕ) (t : Transaction) (items : List PlainItem) → patches_from at (filled t items) ≡ patches_from at t
patches_filled at [] items = refl
patches_filled at (model.Retain count ∷ t) items = patches_filled (at + count) t (drop count items)
patches_filled at (model.Replace removed inserted ∷ t) items =
    ap (λ l. patch at (length removed) (length inserted) ∷ l) (patches_filled (at + length inserted) t (drop (length removed) items))
patches_filled at (model.Attribute change ∷ t) items = ap (λ l. patch at 1 1 ∷ l) (patches_filled at t (on_first (item_changed change) items))

all_patches_filled : (ts : List Transaction) (items : List PlainItem) → patches_of (all_filled ts items) ≡ patches_of ts
all_patches_filled [] items = refl
all_patches_filled (t ∷ ts) items =
    ap (λ l. l ++ patches_of (all_filled ts (edited t items))) (patches_filled 0 t items) ∙ ap (λ l. patches_from 0 t ++ l) (all_patches_filled ts (edited t items))

pub passed_filled : (ts : List Transaction) (items : List PlainItem) (u : Untold) → passed (all_filled ts items) u ≡ passed ts u
passed_filled ts items u = ap (λ ps. with_patches ps u) (all_patches_filled ts items)

pub passed_both : (ts us : List Transaction) (u : Untold) → passed us (passed ts u) ≡ passed (ts ++ us) u
passed_both ts us u = with_more (patches_of ts) (patches_of us) u ∙ ap (λ ps. with_patches ps u) (sym (patches_of-append ts us))

-- ---- one operation, or one transaction, further

pub next_is : {A : Type 0} (i : ℕ) (xs : List A) (x : A) → i < length xs → x ≡ get_or xs i x → drop i xs ≡ x ∷ drop (i + 1) xs
next_is i xs x below is = at_drop_more (λ l. l) xs i x below ∙ ap (λ y. y ∷ drop (i + 1) xs) (sym is)

pub op_noted : (at next : ℕ) (o : Op) (l rest : List Op) (u v all : Untold) → l ≡ o ∷ rest → with_patches (all_changed at l) u ≡ all → v ≡ with_patches (changed_at at o) u →
    next ≡ after_op at o → with_patches (all_changed next rest) v ≡ all
op_noted at next o l rest u v all split before noted after =
    ap (λ n. with_patches (all_changed n rest) v) after
    ∙ (ap (with_patches (all_changed (after_op at o) rest)) noted
    ∙ (with_more (changed_at at o) (all_changed (after_op at o) rest) u ∙ (ap (λ x. with_patches (all_changed at x) u) (sym split) ∙ before)))

pub room_left : (at next : ℕ) (o : Op) (l rest : List Op) → l ≡ o ∷ rest → at + total_size l ≤ 2 ^ 60 → next ≡ after_op at o → next + total_size rest ≤ 2 ^ 60
room_left at next (op.Retain count) l rest split h after = let e = ap total_size split in omega (arith, h, e, after)
room_left at next (op.Replace removed inserted) l rest split h after = let e = ap total_size split in omega (arith, h, e, after)
room_left at next (op.Attribute name from to) l rest split h after = let e = ap total_size split in omega (arith, h, e, after)

pub room_left_back : (at next : ℕ) (o : Op) (l rest : List Op) → l ≡ o ∷ rest → at + total_size l ≤ 2 ^ 60 → next ≡ after_op at (op_back o) → next + total_size rest ≤ 2 ^ 60
room_left_back at next (op.Retain count) l rest split h after = let e = ap total_size split in omega (arith, h, e, after)
room_left_back at next (op.Replace removed inserted) l rest split h after = let e = ap total_size split in omega (arith, h, e, after)
room_left_back at next (op.Attribute name from to) l rest split h after = let e = ap total_size split in omega (arith, h, e, after)

pub room_for : (at : ℕ) (o : Op) (l rest : List Op) → l ≡ o ∷ rest → at + total_size l ≤ 2 ^ 60 → at + size o ≤ 2 ^ 60
room_for at o l rest split h = let e = ap total_size split in omega (arith, h, e)

-- the lengths of a transaction's operations add up to as much at most
pub ops_within : (tx : List Operation) (ops : List Op) → ops ≡ map bare tx → IsNormal tx → total_size ops ≤ 2 ^ 60
ops_within tx ops e normal =
    let h = sym (normal-bare [] tx) ∙ normal [] in
    let parts = and_parts (are_reduced (map bare tx)) (fit_into (2 ^ 60) (map bare tx)) h in
    subst (λ l. total_size l ≤ 2 ^ 60) (sym e) (leb-true (total_size (map bare tx)) (2 ^ 60) parts.1)

pub tx_noted : (tx : List Operation) (ops : List Op) (l rest : List (List Operation)) (u v all : Untold) → ops ≡ map bare tx → l ≡ tx ∷ rest → with_patches (changed_by_all l) u ≡ all →
    v ≡ with_patches (all_changed 0 ops) u → with_patches (changed_by_all rest) v ≡ all
tx_noted tx ops l rest u v all e split before noted =
    ap (with_patches (changed_by_all rest)) (noted ∙ ap (λ x. with_patches (all_changed 0 x) u) e)
    ∙ (with_more (all_changed 0 (map bare tx)) (changed_by_all rest) u ∙ (ap (λ x. with_patches (changed_by_all x) u) (sym split) ∙ before))

pub tx_undone : (tx : List Operation) (ops : List Op) (l rest : List (List Operation)) (old u v : Untold) → ops ≡ map bare tx → l ≡ tx ∷ rest → u ≡ with_patches (undone_by_all rest) old →
    v ≡ with_patches (all_changed 0 (all_turned ops)) u → v ≡ with_patches (undone_by_all l) old
tx_undone tx ops l rest old u v e split before noted =
    noted
    ∙ (ap (λ x. with_patches (all_changed 0 (all_turned x)) u) e
    ∙ (ap (with_patches (all_changed 0 (all_turned (map bare tx)))) before
    ∙ (with_more (undone_by_all rest) (all_changed 0 (all_turned (map bare tx))) old ∙ ap (λ x. with_patches (undone_by_all x) old) (sym split))))
