-- Patches lead a view from a list to the one that transactions give.
use Rattle.std.proofs.Common.{◌≡◌, ◌≤◌, ℕ, zero, suc, ◌+◌, true, List, [], ◌∷◌, ◌++◌, length, take, drop, replicate, slice_get, Some, None, refl, sym, ap, ◌∙◌, subst, append_assoc, arith}
use Rattle.std.proofs.Math.Seq.{drop-append-add, take-append_seam}
use Rattle.std.proofs.lemmas.List.{length-append, length-drop, length-take-le, take-append-drop}
use Rattle.model_items.specs.declared.plain_item.PlainItem.{PlainItem}
use Rattle.model_change.specs.Attributes.{AttrChange, item_changed}
use Rattle.model_change.specs.Fault.{Applies, first_allows}
use Rattle.model_change.specs.Replay.{replay}
use Rattle.model_change.specs.Transaction.{Retain, Replace, Attribute, Transaction, edited, old_length, on_first}
use Rattle.model_change.proofs.Fits.{Fits, parts_of_Applies}
use Rattle.model_site.specs.Untold.{patches_from, patches_of}
use Rattle.model_site.specs.declared.patch.Patch.{Patch}
use Rattle.model_site_law.specs.Sound.{AllMayRun}
use Rattle.model_site_law.specs.ViewLaws.{IsViewOf, PatchesLead, View, patched, whole, with_patch}
use Rattle.model_site_law.proofs.ReplayLemmas.{AllMayRun_from_runs}

-- ---- a view of a list, item by item

abbrev pub Shows : View → List PlainItem → Type 0
Shows [] [] = Unit {0}
Shows [] (x ∷ xs) = ⊥
Shows (c ∷ view) [] = ⊥
Shows (None ∷ view) (x ∷ xs) = Shows view xs
Shows (Some y ∷ view) (x ∷ xs) = (x ≡ y) × Shows view xs

pub whole_shows : (items : List PlainItem) → Shows (whole items) items
whole_shows [] = tt
whole_shows (x ∷ xs) = (refl, whole_shows xs)

pub holes_show : (items : List PlainItem) → Shows (replicate (length items) None) items
holes_show [] = tt
holes_show (x ∷ xs) = holes_show xs

append_shows : (v w : View) (xs ys : List PlainItem) → Shows v xs → Shows w ys → Shows (v ++ w) (xs ++ ys)
append_shows [] w [] ys p q = q
append_shows [] w (x ∷ xs) ys p q = absurd p
append_shows (c ∷ v) w [] ys p q = absurd p
append_shows (None ∷ v) w (x ∷ xs) ys p q = append_shows v w xs ys p q
append_shows (Some y ∷ v) w (x ∷ xs) ys p q = (p.0, append_shows v w xs ys p.1 q)

pub length_shows : (v : View) (xs : List PlainItem) → Shows v xs → length v ≡ length xs
length_shows [] [] p = refl
length_shows [] (x ∷ xs) p = absurd p
length_shows (c ∷ v) [] p = absurd p
length_shows (None ∷ v) (x ∷ xs) p = ap (λ n. suc n) (length_shows v xs p)
length_shows (Some y ∷ v) (x ∷ xs) p = ap (λ n. suc n) (length_shows v xs p.1)

take_shows : (n : ℕ) (v : View) (xs : List PlainItem) → Shows v xs → Shows (take n v) (take n xs)
take_shows zero v xs p = tt
take_shows (suc n) [] [] p = tt
take_shows (suc n) [] (x ∷ xs) p = absurd p
take_shows (suc n) (c ∷ v) [] p = absurd p
take_shows (suc n) (None ∷ v) (x ∷ xs) p = take_shows n v xs p
take_shows (suc n) (Some y ∷ v) (x ∷ xs) p = (p.0, take_shows n v xs p.1)

drop_shows : (n : ℕ) (v : View) (xs : List PlainItem) → Shows v xs → Shows (drop n v) (drop n xs)
drop_shows zero v xs p = p
drop_shows (suc n) [] [] p = tt
drop_shows (suc n) [] (x ∷ xs) p = absurd p
drop_shows (suc n) (c ∷ v) [] p = absurd p
drop_shows (suc n) (None ∷ v) (x ∷ xs) p = drop_shows n v xs p
drop_shows (suc n) (Some y ∷ v) (x ∷ xs) p = drop_shows n v xs p.1

shown_item : (v : View) (xs : List PlainItem) → Shows v xs → (at : ℕ) (item : PlainItem) → slice_get v at ≡ Some (Some item) → slice_get xs at ≡ Some item
shown_item [] xs p at item h = cc
shown_item (c ∷ v) [] p at item h = absurd p
shown_item (None ∷ v) (x ∷ xs) p zero item h = cc
shown_item (Some y ∷ v) (x ∷ xs) p zero item h = let same : Some y ≡ Some item = cc in let e : y ≡ item = cc in ap (λ i. Some i) (p.0 ∙ e)
shown_item (None ∷ v) (x ∷ xs) p (suc at) item h = shown_item v xs p at item h
shown_item (Some y ∷ v) (x ∷ xs) p (suc at) item h = shown_item v xs p.1 at item h

pub view_from_shows : (v : View) (xs : List PlainItem) → Shows v xs → IsViewOf xs v
view_from_shows v xs p = record { as_long = length_shows v xs p; agrees = shown_item v xs p }

-- ---- one patch

-- a patch between what is done and what comes
patch_at_seam : (past v : View) (n removed inserted : ℕ) → length past ≡ n →
    with_patch (record { at = n; removed = removed; inserted = inserted }) (past ++ v) ≡ (past ++ replicate inserted None) ++ drop removed v
patch_at_seam past v n removed inserted long =
    subst (λ m. with_patch (record { at = m; removed = removed; inserted = inserted }) (past ++ v) ≡ (past ++ replicate inserted None) ++ drop removed v) long
    (ap (λ l. l ++ (replicate inserted None ++ drop (length past + removed) (past ++ v))) (take-append_seam past v)
    ∙ ap (λ l. past ++ (replicate inserted None ++ l)) (drop-append-add past v removed)
    ∙ sym (append_assoc past (replicate inserted None) (drop removed v)))

-- ---- the operations of a transaction, after what is done of the new list

first_is_there : (change : AttrChange) (items : List PlainItem) → first_allows change items ≡ true → (v : View) → Shows v items →
    Shows (None ∷ drop 1 v) (on_first (item_changed change) items)
first_is_there change [] h v p = cc
first_is_there change (x ∷ xs) h v p = drop_shows 1 v (x ∷ xs) p

length-on_first : (f : PlainItem → PlainItem) (items : List PlainItem) → length (on_first f items) ≡ length items
length-on_first f [] = refl
length-on_first f (x ∷ xs) = refl

operations_lead : (ops : Transaction) (items done : List PlainItem) (past v : View) → old_length ops ≤ length items → Fits ops items →
    Shows past done → Shows v items → Shows (patched (patches_from (length done) ops) (past ++ v)) (done ++ edited ops items)
operations_lead [] items done past v long fits p q = append_shows past v done items p q
operations_lead (Retain count ∷ ops) items done past v long fits p q =
    let within : count ≤ length items = omega arith in
    let left = length-drop count items in
    let rest : old_length ops ≤ length (drop count items) = omega arith in
    let come = take count items in
    let now = take count v in
    let ih = operations_lead ops (drop count items) (done ++ come) (past ++ now) (drop count v) rest fits
    (append_shows past now done come p (take_shows count v items q)) (drop_shows count v items q) in
    let at : length (done ++ come) ≡ length done + count = length-append done come ∙ ap (λ n. length done + n) (length-take-le count items within) in
    let view : (past ++ now) ++ drop count v ≡ past ++ v = append_assoc past now (drop count v) ∙ ap (λ l. past ++ l) (take-append-drop count v) in
    subst (λ l. Shows (patched (patches_from (length done + count) ops) (past ++ v)) l) (append_assoc done come (edited ops (drop count items)))
    (subst (λ l. Shows (patched (patches_from (length done + count) ops) l) ((done ++ come) ++ edited ops (drop count items))) view
    (subst (λ n. Shows (patched (patches_from n ops) ((past ++ now) ++ drop count v)) ((done ++ come) ++ edited ops (drop count items))) at ih))
operations_lead (Replace removed inserted ∷ ops) items done past v long fits p q =
    let n = length removed in
    let left = length-drop n items in
    let rest : old_length ops ≤ length (drop n items) = omega arith in
    let holes : View = replicate (length inserted) None in
    let ih = operations_lead ops (drop n items) (done ++ inserted) (past ++ holes) (drop n v) rest fits.1
    (append_shows past holes done inserted p (holes_show inserted)) (drop_shows n v items q) in
    let at = length-append done inserted in
    let view = patch_at_seam past v (length done) n (length inserted) (length_shows past done p) in
    subst (λ l. Shows (patched (patches_from (length done + length inserted) ops) (with_patch (record { at = length done; removed = n; inserted = length inserted }) (past ++ v))) l)
    (append_assoc done inserted (edited ops (drop n items)))
    (subst (λ l. Shows (patched (patches_from (length done + length inserted) ops) l) ((done ++ inserted) ++ edited ops (drop n items))) (sym view)
    (subst (λ m. Shows (patched (patches_from m ops) ((past ++ holes) ++ drop n v)) ((done ++ inserted) ++ edited ops (drop n items))) at ih))
operations_lead (Attribute change ∷ ops) items done past v long fits p q =
    let next = on_first (item_changed change) items in
    let same = length-on_first (item_changed change) items in
    let rest : old_length ops ≤ length next = omega arith in
    let now : View = None ∷ drop 1 v in
    let ih = operations_lead ops next done past now rest fits.1 p (first_is_there change items fits.0 v q) in
    let view = patch_at_seam past v (length done) 1 1 (length_shows past done p) ∙ append_assoc past (None ∷ []) (drop 1 v) in
    subst (λ l. Shows (patched (patches_from (length done) ops) l) (done ++ edited ops next)) (sym view) ih

-- ---- transactions, one after the other

transaction_leads : (t : Transaction) (items : List PlainItem) (v : View) → Applies t items → Shows v items → Shows (patched (patches_from 0 t) v) (edited t items)
transaction_leads t items v applies p =
    let parts = parts_of_Applies t items applies in
    operations_lead t items [] [] v (let long = parts.0 in omega arith) parts.1 tt p

pub patched-append : (ps qs : List Patch) (v : View) → patched (ps ++ qs) v ≡ patched qs (patched ps v)
patched-append [] qs v = refl
patched-append (p ∷ ps) qs v = patched-append ps qs (with_patch p v)

pub transactions_lead : (ts : List Transaction) (items : List PlainItem) (v : View) → AllMayRun ts items → Shows v items →
    Shows (patched (patches_of ts) v) (replay ts items)
transactions_lead [] items v may p = p
transactions_lead (t ∷ ts) items v may p =
    subst (λ w. Shows w (replay ts (edited t items))) (sym (patched-append (patches_from 0 t) (patches_of ts) v))
    (transactions_lead ts (edited t items) (patched (patches_from 0 t) v) may.1 (transaction_leads t items v may.0.applies p))

pub patches_lead : PatchesLead
patches_lead ts items runs =
    view_from_shows (patched (patches_of ts) (whole items)) (replay ts items)
    (transactions_lead ts items (whole items) (AllMayRun_from_runs ts items runs) (whole_shows items))
