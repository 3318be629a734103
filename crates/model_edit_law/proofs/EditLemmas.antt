-- The transaction of edits is in normal form, applies, and gives the substituted list.
use Rattle.std.specs.Option.{option_or}
use Rattle.std.specs.Prelude.{filter}
use Rattle.std.proofs.Common.{cond, subst, Ok, eq-eqb, if◌then◌else◌, not, ◌≡◌, ℕ, zero, suc, ◌+◌, ◌-◌, ◌<◌, ◌≤◌, Bool, true, false, List, [], ◌∷◌, ◌++◌, length, take, drop, Option, Some, None, refl, sym, ap, ◌∙◌, arith, length-append, length-drop, zero-add, add-zero}
use Rattle.std.proofs.lemmas.Bool.{and_parts, and_from, lt-ltb}
use Rattle.std.proofs.lemmas.List.{append_assoc, length-take-le, drop-drop, take-append-drop}
use Rattle.std.proofs.Math.Seq.{take-add}
use Rattle.model_items.specs.declared.plain_item.PlainItem.{PlainItem}
use Rattle.model_items.specs.declared.plain_item.PlainItem.TheVariants.{Char, Opening, Closing}
use Rattle.model_items.specs.Same.{item_same, text_same}
use Rattle.ve_kinds.specs.Table.{is_element}
use Rattle.model_items.proofs.SameLemmas.{Means-item_same, Means-text_same, Means-option_same}
use Rattle.model_change.specs.Attributes.{AttrChange, value_of, is_reserved, item_changed}
use Rattle.model_change.specs.Transaction.{Retain, Replace, Attribute, Transaction, is_reduced, may_precede, old_length, edited, on_first}
use Rattle.model_change.specs.Fault.{differs_at, mismatch_at, first_allows, bad_attribute_at, apply}
use Rattle.model_edit.specs.Edits.{Edit, Change, Set, retaining, merged, replacing, setting, transaction_from, transaction_of, substituted_from, substituted, InOrder, MaySet, may_set}

pub order_ends : (at end : ℕ) (edits : List Edit) → InOrder at end edits → at ≤ end
order_ends at end [] h = h
order_ends at end (Change place count inserted ∷ edits) h =
    let rest = order_ends (place + count) end edits h.1 in let first = h.0 in omega arith
order_ends at end (Set place name to ∷ edits) h =
    let rest = order_ends (suc place) end edits h.1 in let first = h.0 in omega arith

may_precede-Retain : (m n : ℕ) (ops : Transaction) → may_precede (Retain m) ops ≡ may_precede (Retain n) ops
may_precede-Retain m n [] = refl
may_precede-Retain m n (Retain count ∷ ops) = refl
may_precede-Retain m n (Replace removed inserted ∷ ops) = refl
may_precede-Retain m n (Attribute change ∷ ops) = refl

may_precede-Replace : (r i r' i' : List PlainItem) (ops : Transaction) → may_precede (Replace r i) ops ≡ may_precede (Replace r' i') ops
may_precede-Replace r i r' i' [] = refl
may_precede-Replace r i r' i' (Retain count ∷ ops) = refl
may_precede-Replace r i r' i' (Replace removed inserted ∷ ops) = refl
may_precede-Replace r i r' i' (Attribute change ∷ ops) = refl

pub is_reduced-retaining : (n : ℕ) (t : Transaction) → is_reduced t ≡ true → is_reduced (retaining n t) ≡ true
is_reduced-retaining zero t h = h
is_reduced-retaining (suc n) [] h = and_from _ _ (lt-ltb 0 (suc n) (omega arith)) refl
is_reduced-retaining (suc n) (Retain count ∷ ops) h =
    let rest = (and_parts _ _ h).1 in
    let parts = and_parts _ _ rest in
    and_from _ _ (lt-ltb 0 (suc n + count) (omega arith))
    (and_from _ _ (may_precede-Retain (suc n + count) count ops ∙ parts.0) parts.1)
is_reduced-retaining (suc n) (Replace removed inserted ∷ ops) h = and_from _ _ (lt-ltb 0 (suc n) (omega arith)) h
is_reduced-retaining (suc n) (Attribute change ∷ ops) h = and_from _ _ (lt-ltb 0 (suc n) (omega arith)) h

is_reduced-merged : (removed inserted : List PlainItem) (t : Transaction) → 0 < length removed + length inserted → is_reduced t ≡ true → is_reduced (merged removed inserted t) ≡ true
is_reduced-merged removed inserted [] some h = and_from _ _ (lt-ltb 0 _ some) refl
is_reduced-merged removed inserted (Retain count ∷ ops) some h = and_from _ _ (lt-ltb 0 _ some) h
is_reduced-merged removed inserted (Attribute change ∷ ops) some h = and_from _ _ (lt-ltb 0 _ some) h
is_reduced-merged removed inserted (Replace next others ∷ ops) some h =
    let parts = and_parts _ _ (and_parts _ _ h).1 in
    let more : 0 < length (removed ++ next) + length (inserted ++ others) = omega (arith, length-append removed next, length-append inserted others) in
    and_from _ _ (lt-ltb 0 _ more)
    (and_from _ _ (may_precede-Replace (removed ++ next) (inserted ++ others) next others ops ∙ parts.0) parts.1)

pub is_reduced-replacing : (removed inserted : List PlainItem) (t : Transaction) → is_reduced t ≡ true → is_reduced (replacing removed inserted t) ≡ true
is_reduced-replacing [] [] t h = h
is_reduced-replacing [] (one ∷ inserted) t h = is_reduced-merged [] (one ∷ inserted) t (omega arith) h
is_reduced-replacing (one ∷ removed) inserted t h = is_reduced-merged (one ∷ removed) inserted t (omega arith) h

-- what stands past an attribute operation begins with a retain
may_precede-retaining : (change : AttrChange) (n : ℕ) (t : Transaction) → 0 < n → may_precede (Attribute change) (retaining n t) ≡ true
may_precede-retaining change zero t h = absurd (omega arith)
may_precede-retaining change (suc n) [] h = refl
may_precede-retaining change (suc n) (Retain count ∷ ops) h = refl
may_precede-retaining change (suc n) (Replace removed inserted ∷ ops) h = refl
may_precede-retaining change (suc n) (Attribute other ∷ ops) h = refl

may_precede-from : (change : AttrChange) (place : ℕ) (items : List PlainItem) (edits : List Edit) →
    InOrder (suc place) (place + length items) edits → may_precede (Attribute change) (transaction_from place items edits) ≡ true
may_precede-from change place items [] h = may_precede-retaining change (length items) [] (omega arith)
may_precede-from change place items (Change at count inserted ∷ edits) h =
    let first = h.0 in may_precede-retaining change (at - place) _ (omega arith)
may_precede-from change place items (Set at name to ∷ edits) h =
    let first = h.0 in may_precede-retaining change (at - place) _ (omega arith)

-- what is left of a list past a position
length-rest : (n : ℕ) (items : List PlainItem) (at place : ℕ) → at ≤ place → place ≤ at + length items → n ≡ place - at → place + length (drop n items) ≡ at + length items
length-rest n items at place low high e = omega (arith, length-drop n items)

pub is_reduced-transaction_from : (at : ℕ) (items : List PlainItem) (edits : List Edit) → InOrder at (at + length items) edits → is_reduced (transaction_from at items edits) ≡ true
is_reduced-transaction_from at items [] h = is_reduced-retaining (length items) [] refl
is_reduced-transaction_from at items (Change place count inserted ∷ edits) h =
    let rest = drop (place - at) items in
    let low = h.0 in
    let high = order_ends (place + count) (at + length items) edits h.1 in
    let e : place + length rest ≡ at + length items = length-rest (place - at) items at place low (omega arith) refl in
    let e' : (place + count) + length (drop count rest) ≡ at + length items = omega (arith, length-drop count rest) in
    is_reduced-retaining (place - at) _
    (is_reduced-replacing (take count rest) inserted _
    (is_reduced-transaction_from (place + count) (drop count rest) edits (rw e' (h.1))))
is_reduced-transaction_from at items (Set place name to ∷ edits) h =
    let rest = drop (place - at) items in
    let low = h.0 in
    let high = order_ends (suc place) (at + length items) edits h.1 in
    let e : place + length rest ≡ at + length items = length-rest (place - at) items at place low (omega arith) refl in
    let ordered : InOrder (suc place) (place + length rest) edits = rw e (h.1) in
    is_reduced-retaining (place - at) _
    (and_from _ _ (may_precede-from (setting name to rest) place rest edits ordered)
    (is_reduced-transaction_from place rest edits (earlier place _ edits ordered)))
  where
    earlier : (at end : ℕ) (edits : List Edit) → InOrder (suc at) end edits → InOrder at end edits
    earlier at end [] h = omega arith
    earlier at end (Change place count inserted ∷ edits) h = let first = h.0 in (omega arith, h.1)
    earlier at end (Set place name to ∷ edits) h = let first = h.0 in (omega arith, h.1)

pub is_reduced-transaction_of : (items : List PlainItem) (edits : List Edit) → InOrder 0 (length items) edits → is_reduced (transaction_of items edits) ≡ true
is_reduced-transaction_of items edits h = is_reduced-transaction_from 0 items edits (rw zero-add h)

pub old_length-retaining : (n : ℕ) (t : Transaction) → old_length (retaining n t) ≡ n + old_length t
old_length-retaining zero t = omega arith
old_length-retaining (suc n) [] = refl
old_length-retaining (suc n) (Retain count ∷ ops) = omega arith
old_length-retaining (suc n) (Replace removed inserted ∷ ops) = refl
old_length-retaining (suc n) (Attribute change ∷ ops) = refl

old_length-merged : (removed inserted : List PlainItem) (t : Transaction) → old_length (merged removed inserted t) ≡ length removed + old_length t
old_length-merged removed inserted [] = refl
old_length-merged removed inserted (Retain count ∷ ops) = refl
old_length-merged removed inserted (Attribute change ∷ ops) = refl
old_length-merged removed inserted (Replace next others ∷ ops) = omega (arith, length-append removed next)

pub old_length-replacing : (removed inserted : List PlainItem) (t : Transaction) → old_length (replacing removed inserted t) ≡ length removed + old_length t
old_length-replacing [] [] t = omega arith
old_length-replacing [] (one ∷ inserted) t = old_length-merged [] (one ∷ inserted) t
old_length-replacing (one ∷ removed) inserted t = old_length-merged (one ∷ removed) inserted t

pub drop-add : (m n : ℕ) (xs : List PlainItem) → drop (m + n) xs ≡ drop n (drop m xs)
drop-add m n xs = sym (drop-drop n m xs)

pub edited-retaining : (n : ℕ) (t : Transaction) (items : List PlainItem) → edited (retaining n t) items ≡ take n items ++ edited t (drop n items)
edited-retaining zero t items = refl
edited-retaining (suc n) [] items = refl
edited-retaining (suc n) (Replace removed inserted ∷ ops) items = refl
edited-retaining (suc n) (Attribute change ∷ ops) items = refl
edited-retaining (suc n) (Retain count ∷ ops) items =
    ap (λ v. v ++ edited ops (drop (suc n + count) items)) (take-add (suc n) count items)
    ∙ append_assoc (take (suc n) items) (take count (drop (suc n) items)) _
    ∙ ap (λ v. take (suc n) items ++ (take count (drop (suc n) items) ++ edited ops v)) (drop-add (suc n) count items)

edited-merged : (removed inserted : List PlainItem) (t : Transaction) (items : List PlainItem) →
    edited (merged removed inserted t) items ≡ inserted ++ edited t (drop (length removed) items)
edited-merged removed inserted [] items = refl
edited-merged removed inserted (Retain count ∷ ops) items = refl
edited-merged removed inserted (Attribute change ∷ ops) items = refl
edited-merged removed inserted (Replace next others ∷ ops) items =
    append_assoc inserted others _
    ∙ ap (λ n. inserted ++ (others ++ edited ops (drop n items))) (length-append removed next)
    ∙ ap (λ v. inserted ++ (others ++ edited ops v)) (drop-add (length removed) (length next) items)

pub edited-replacing : (removed inserted : List PlainItem) (t : Transaction) (items : List PlainItem) →
    edited (replacing removed inserted t) items ≡ inserted ++ edited t (drop (length removed) items)
edited-replacing [] [] t items = refl
edited-replacing [] (one ∷ inserted) t items = edited-merged [] (one ∷ inserted) t items
edited-replacing (one ∷ removed) inserted t items = edited-merged (one ∷ removed) inserted t items

pub drop-on_first : (f : PlainItem → PlainItem) (n : ℕ) (items : List PlainItem) → 0 < n → drop n (on_first f items) ≡ drop n items
drop-on_first f zero items h = absurd (omega arith)
drop-on_first f (suc n) [] h = refl
drop-on_first f (suc n) (item ∷ items) h = refl

pub length-on_first : (f : PlainItem → PlainItem) (items : List PlainItem) → length (on_first f items) ≡ length items
length-on_first f [] = refl
length-on_first f (item ∷ items) = refl

-- later edits don't read the item of which an attribute is set
pub transaction_from-on_first : (f : PlainItem → PlainItem) (place end : ℕ) (items : List PlainItem) (edits : List Edit) → InOrder (suc place) end edits →
    transaction_from place (on_first f items) edits ≡ transaction_from place items edits
transaction_from-on_first f place end items [] h = ap (λ n. retaining n []) (length-on_first f items)
transaction_from-on_first f place end items (Change at count inserted ∷ edits) h =
    let first = h.0 in
    ap (λ rest. retaining (at - place) (replacing (take count rest) inserted (transaction_from (at + count) (drop count rest) edits)))
    (drop-on_first f (at - place) items (omega arith))
transaction_from-on_first f place end items (Set at name to ∷ edits) h =
    let first = h.0 in
    ap (λ rest. retaining (at - place) (Attribute (setting name to rest) ∷ transaction_from at rest edits))
    (drop-on_first f (at - place) items (omega arith))

pub earlier_order : (at end : ℕ) (edits : List Edit) → InOrder (suc at) end edits → InOrder at end edits
earlier_order at end [] h = omega arith
earlier_order at end (Change place count inserted ∷ edits) h = let first = h.0 in (omega arith, h.1)
earlier_order at end (Set place name to ∷ edits) h = let first = h.0 in (omega arith, h.1)

-- what is known where an edit begins
module _ (at place : ℕ) (items : List PlainItem) (low : at ≤ place) (high : place ≤ at + length items) where
  pub rest_end : place + length (drop (place - at) items) ≡ at + length items
  rest_end = omega (arith, length-drop (place - at) items)

  pub after_count : (count : ℕ) → place + count ≤ at + length items → (place + count) + length (drop count (drop (place - at) items)) ≡ at + length items
  after_count count h = omega (arith, length-drop count (drop (place - at) items), length-drop (place - at) items)

  pub count_fits : (count : ℕ) → place + count ≤ at + length items → length (take count (drop (place - at) items)) ≡ count
  count_fits count h = length-take-le count (drop (place - at) items) (omega (arith, length-drop (place - at) items))

pub edited-transaction_from : (at : ℕ) (items : List PlainItem) (edits : List Edit) → InOrder at (at + length items) edits →
    edited (transaction_from at items edits) items ≡ substituted_from at items edits
edited-transaction_from at items [] h = edited-retaining (length items) [] items ∙ take-append-drop (length items) items
edited-transaction_from at items (Change place count inserted ∷ edits) h =
    let rest = drop (place - at) items in
    let low = h.0 in
    let high = order_ends (place + count) (at + length items) edits h.1 in
    let t = transaction_from (place + count) (drop count rest) edits in
    let step : edited t (drop count rest) ≡ substituted_from (place + count) (drop count rest) edits =
    edited-transaction_from (place + count) (drop count rest) edits (rw (after_count at place items low (omega arith) count high) (h.1)) in
    edited-retaining (place - at) (replacing (take count rest) inserted t) items
    ∙ ap (λ v. take (place - at) items ++ v)
    (edited-replacing (take count rest) inserted t rest
    ∙ ap (λ n. inserted ++ edited t (drop n rest)) (count_fits at place items low (omega arith) count high)
    ∙ ap (λ v. inserted ++ v) step)
edited-transaction_from at items (Set place name to ∷ edits) h =
    let rest = drop (place - at) items in
    let low = h.0 in
    let high = order_ends (suc place) (at + length items) edits h.1 in
    let f = item_changed (setting name to rest) in
    let new = on_first f rest in
    let e : place + length new ≡ at + length items = ap (λ n. place + n) (length-on_first f rest) ∙ rest_end at place items low (omega arith) in
    let step : edited (transaction_from place new edits) new ≡ substituted_from place new edits =
    edited-transaction_from place new edits (rw e (earlier_order place (at + length items) edits h.1)) in
    edited-retaining (place - at) (Attribute (setting name to rest) ∷ transaction_from place rest edits) items
    ∙ ap (λ v. take (place - at) items ++ v)
    (ap (λ t. edited t new) (sym (transaction_from-on_first f place (at + length items) rest edits h.1)) ∙ step)

pub old_length-transaction_from : (at : ℕ) (items : List PlainItem) (edits : List Edit) → InOrder at (at + length items) edits →
    old_length (transaction_from at items edits) ≡ length items
old_length-transaction_from at items [] h = old_length-retaining (length items) [] ∙ add-zero (length items)
old_length-transaction_from at items (Change place count inserted ∷ edits) h =
    let rest = drop (place - at) items in
    let low = h.0 in
    let high = order_ends (place + count) (at + length items) edits h.1 in
    let t = transaction_from (place + count) (drop count rest) edits in
    let step : old_length t ≡ length (drop count rest) =
    old_length-transaction_from (place + count) (drop count rest) edits (rw (after_count at place items low (omega arith) count high) (h.1)) in
    let a = old_length-retaining (place - at) (replacing (take count rest) inserted t) in
    let b = old_length-replacing (take count rest) inserted t in
    let c = count_fits at place items low (omega arith) count high in
    omega (arith, length-drop count rest, length-drop (place - at) items)
old_length-transaction_from at items (Set place name to ∷ edits) h =
    let rest = drop (place - at) items in
    let low = h.0 in
    let high = order_ends (suc place) (at + length items) edits h.1 in
    let t = transaction_from place rest edits in
    let step : old_length t ≡ length rest =
    old_length-transaction_from place rest edits (rw (rest_end at place items low (omega arith)) (earlier_order place (at + length items) edits h.1)) in
    let a = old_length-retaining (place - at) (Attribute (setting name to rest) ∷ t) in
    omega (arith, length-drop (place - at) items)

mismatch-retaining : (at n : ℕ) (t : Transaction) (items : List PlainItem) → mismatch_at at (retaining n t) items ≡ mismatch_at (at + n) t (drop n items)
mismatch-retaining at zero t items = ap (λ k. mismatch_at k t items) (sym (add-zero at))
mismatch-retaining at (suc n) [] items = refl
mismatch-retaining at (suc n) (Replace removed inserted ∷ ops) items = refl
mismatch-retaining at (suc n) (Attribute change ∷ ops) items = refl
mismatch-retaining at (suc n) (Retain count ∷ ops) items =
    let e : at + (suc n + count) ≡ (at + suc n) + count = omega arith in
    ap (λ k. mismatch_at k ops (drop (suc n + count) items)) e
    ∙ ap (mismatch_at ((at + suc n) + count) ops) (drop-add (suc n) count items)

differs_at-take : (at count : ℕ) (items : List PlainItem) → differs_at at (take count items) items ≡ None
differs_at-take at zero items = refl
differs_at-take at (suc count) [] = refl
differs_at-take at (suc count) (item ∷ items) = rw (Means-item_same.itself item) (differs_at-take (suc at) count items)

-- those first removed are there, so the first difference is among the others
differs_at-append : (at : ℕ) (first next items : List PlainItem) → differs_at at first items ≡ None →
    differs_at at (first ++ next) items ≡ differs_at (at + length first) next (drop (length first) items)
differs_at-append at [] next items h = ap (λ k. differs_at k next items) (sym (add-zero at))
differs_at-append at (one ∷ first) next [] h = cc
differs_at-append at (one ∷ first) next (item ∷ items) h =
    elim (item_same one item) as (λ b. (if b then differs_at (suc at) first items else Some at) ≡ None →
    (if b then differs_at (suc at) (first ++ next) items else Some at) ≡ differs_at (at + suc (length first)) next (drop (length first) items)) [
      | true ↦ λ h. differs_at-append (suc at) first next items h ∙ ap (λ k. differs_at k next (drop (length first) items)) (omega arith)
      | false ↦ λ h. absurd (cc)
    ] h

mismatch-merged : (at : ℕ) (removed inserted : List PlainItem) (t : Transaction) (items : List PlainItem) → differs_at at removed items ≡ None →
    mismatch_at at (merged removed inserted t) items ≡ mismatch_at (at + length removed) t (drop (length removed) items)
mismatch-merged at removed inserted [] items h = rw h
mismatch-merged at removed inserted (Retain count ∷ ops) items h = rw h
mismatch-merged at removed inserted (Attribute change ∷ ops) items h = rw h
mismatch-merged at removed inserted (Replace next others ∷ ops) items h =
    let e : at + length (removed ++ next) ≡ (at + length removed) + length next = omega (arith, length-append removed next) in
    ap (λ v. option_or v (mismatch_at (at + length (removed ++ next)) ops (drop (length (removed ++ next)) items))) (differs_at-append at removed next items h)
    ∙ ap (λ k. option_or (differs_at (at + length removed) next (drop (length removed) items)) (mismatch_at k ops (drop (length (removed ++ next)) items))) e
    ∙ ap (λ v. option_or (differs_at (at + length removed) next (drop (length removed) items)) (mismatch_at ((at + length removed) + length next) ops v))
    (ap (λ k. drop k items) (length-append removed next) ∙ drop-add (length removed) (length next) items)

mismatch-replacing : (at : ℕ) (removed inserted : List PlainItem) (t : Transaction) (items : List PlainItem) → differs_at at removed items ≡ None →
    mismatch_at at (replacing removed inserted t) items ≡ mismatch_at (at + length removed) t (drop (length removed) items)
mismatch-replacing at [] [] t items h = ap (λ k. mismatch_at k t items) (sym (add-zero at))
mismatch-replacing at [] (one ∷ inserted) t items h = mismatch-merged at [] (one ∷ inserted) t items h
mismatch-replacing at (one ∷ removed) inserted t items h = mismatch-merged at (one ∷ removed) inserted t items h

pub mismatch-transaction_from : (at : ℕ) (items : List PlainItem) (edits : List Edit) → InOrder at (at + length items) edits →
    mismatch_at at (transaction_from at items edits) items ≡ None
mismatch-transaction_from at items [] h = mismatch-retaining at (length items) [] items
mismatch-transaction_from at items (Change place count inserted ∷ edits) h =
    let rest = drop (place - at) items in
    let low = h.0 in
    let high = order_ends (place + count) (at + length items) edits h.1 in
    let t = transaction_from (place + count) (drop count rest) edits in
    let step : mismatch_at (place + count) t (drop count rest) ≡ None =
    mismatch-transaction_from (place + count) (drop count rest) edits (rw (after_count at place items low (omega arith) count high) (h.1)) in
    let e : at + (place - at) ≡ place = omega arith in
    mismatch-retaining at (place - at) (replacing (take count rest) inserted t) items
    ∙ ap (λ k. mismatch_at k (replacing (take count rest) inserted t) rest) e
    ∙ mismatch-replacing place (take count rest) inserted t rest (differs_at-take place count rest)
    ∙ ap (λ n. mismatch_at (place + n) t (drop n rest)) (count_fits at place items low (omega arith) count high)
    ∙ step
mismatch-transaction_from at items (Set place name to ∷ edits) h =
    let rest = drop (place - at) items in
    let low = h.0 in
    let high = order_ends (suc place) (at + length items) edits h.1 in
    let f = item_changed (setting name to rest) in
    let new = on_first f rest in
    let e : place + length new ≡ at + length items = ap (λ n. place + n) (length-on_first f rest) ∙ rest_end at place items low (omega arith) in
    let step : mismatch_at place (transaction_from place new edits) new ≡ None =
    mismatch-transaction_from place new edits (rw e (earlier_order place (at + length items) edits h.1)) in
    let e' : at + (place - at) ≡ place = omega arith in
    mismatch-retaining at (place - at) (Attribute (setting name to rest) ∷ transaction_from place rest edits) items
    ∙ ap (λ k. mismatch_at k (transaction_from place rest edits) new) e'
    ∙ ap (λ t. mismatch_at place t new) (sym (transaction_from-on_first f place (at + length items) rest edits h.1))
    ∙ step

bad-retaining : (at n : ℕ) (t : Transaction) (items : List PlainItem) → bad_attribute_at at (retaining n t) items ≡ bad_attribute_at (at + n) t (drop n items)
bad-retaining at zero t items = ap (λ k. bad_attribute_at k t items) (sym (add-zero at))
bad-retaining at (suc n) [] items = refl
bad-retaining at (suc n) (Replace removed inserted ∷ ops) items = refl
bad-retaining at (suc n) (Attribute change ∷ ops) items = refl
bad-retaining at (suc n) (Retain count ∷ ops) items =
    let e : at + (suc n + count) ≡ (at + suc n) + count = omega arith in
    ap (λ k. bad_attribute_at k ops (drop (suc n + count) items)) e
    ∙ ap (bad_attribute_at ((at + suc n) + count) ops) (drop-add (suc n) count items)

bad-merged : (at : ℕ) (removed inserted : List PlainItem) (t : Transaction) (items : List PlainItem) →
    bad_attribute_at at (merged removed inserted t) items ≡ bad_attribute_at (at + length removed) t (drop (length removed) items)
bad-merged at removed inserted [] items = refl
bad-merged at removed inserted (Retain count ∷ ops) items = refl
bad-merged at removed inserted (Attribute change ∷ ops) items = refl
bad-merged at removed inserted (Replace next others ∷ ops) items =
    let e : at + length (removed ++ next) ≡ (at + length removed) + length next = omega (arith, length-append removed next) in
    ap (λ k. bad_attribute_at k ops (drop (length (removed ++ next)) items)) e
    ∙ ap (bad_attribute_at ((at + length removed) + length next) ops)
    (ap (λ k. drop k items) (length-append removed next) ∙ drop-add (length removed) (length next) items)

bad-replacing : (at : ℕ) (removed inserted : List PlainItem) (t : Transaction) (items : List PlainItem) →
    bad_attribute_at at (replacing removed inserted t) items ≡ bad_attribute_at (at + length removed) t (drop (length removed) items)
bad-replacing at [] [] t items = ap (λ k. bad_attribute_at k t items) (sym (add-zero at))
bad-replacing at [] (one ∷ inserted) t items = bad-merged at [] (one ∷ inserted) t items
bad-replacing at (one ∷ removed) inserted t items = bad-merged at (one ∷ removed) inserted t items

pub setting_allowed : (name : List ℕ) (to : Option (List ℕ)) (items : List PlainItem) → may_set name items ≡ true → first_allows (setting name to items) items ≡ true
setting_allowed name to [] h = cc
setting_allowed name to (Char ch marks ∷ items) h = cc
setting_allowed name to (Closing kind pre ∷ items) h = cc
setting_allowed name to (Opening kind head marks pre origin generated ∷ items) h =
    let value = value_of name head.attrs in
    let p = and_parts (is_element kind) (not (is_reserved name)) h in
    and_from _ _ p.0 (and_from _ _ ((Means-option_same text_same Means-text_same).itself value) p.1)

-- later edits may be made whatever stands at the item of which an attribute is set
pub MaySet-on_first : (f : PlainItem → PlainItem) (place end : ℕ) (items : List PlainItem) (edits : List Edit) → InOrder (suc place) end edits →
    MaySet place items edits → MaySet place (on_first f items) edits
MaySet-on_first f place end items [] h m = tt
MaySet-on_first f place end items (Change at count inserted ∷ edits) h m =
    let first = h.0 in rw (drop-on_first f (at - place) items (omega arith)) m
MaySet-on_first f place end items (Set at name to ∷ edits) h m =
    let first = h.0 in rw (drop-on_first f (at - place) items (omega arith)) m

pub bad-transaction_from : (at : ℕ) (items : List PlainItem) (edits : List Edit) → InOrder at (at + length items) edits → MaySet at items edits →
    bad_attribute_at at (transaction_from at items edits) items ≡ None
bad-transaction_from at items [] h m = bad-retaining at (length items) [] items
bad-transaction_from at items (Change place count inserted ∷ edits) h m =
    let rest = drop (place - at) items in
    let low = h.0 in
    let high = order_ends (place + count) (at + length items) edits h.1 in
    let t = transaction_from (place + count) (drop count rest) edits in
    let step : bad_attribute_at (place + count) t (drop count rest) ≡ None =
    bad-transaction_from (place + count) (drop count rest) edits (rw (after_count at place items low (omega arith) count high) (h.1)) m in
    let e : at + (place - at) ≡ place = omega arith in
    bad-retaining at (place - at) (replacing (take count rest) inserted t) items
    ∙ ap (λ k. bad_attribute_at k (replacing (take count rest) inserted t) rest) e
    ∙ bad-replacing place (take count rest) inserted t rest
    ∙ ap (λ n. bad_attribute_at (place + n) t (drop n rest)) (count_fits at place items low (omega arith) count high)
    ∙ step
bad-transaction_from at items (Set place name to ∷ edits) h m =
    let rest = drop (place - at) items in
    let low = h.0 in
    let high = order_ends (suc place) (at + length items) edits h.1 in
    let f = item_changed (setting name to rest) in
    let new = on_first f rest in
    let e : place + length new ≡ at + length items = ap (λ n. place + n) (length-on_first f rest) ∙ rest_end at place items low (omega arith) in
    let step : bad_attribute_at place (transaction_from place new edits) new ≡ None =
    bad-transaction_from place new edits (rw e (earlier_order place (at + length items) edits h.1)) (MaySet-on_first f place (at + length items) rest edits h.1 m.1) in
    let e' : at + (place - at) ≡ place = omega arith in
    let t = transaction_from place rest edits in
    bad-retaining at (place - at) (Attribute (setting name to rest) ∷ t) items
    ∙ ap (λ k. bad_attribute_at k (Attribute (setting name to rest) ∷ t) rest) e'
    ∙ ap (λ b. if b then bad_attribute_at place t new else Some place) (setting_allowed name to rest m.0)
    ∙ ap (λ t. bad_attribute_at place t new) (sym (transaction_from-on_first f place (at + length items) rest edits h.1))
    ∙ step

-- The transaction of edits in order applies, and gives the list with the edits made.
pub apply-transaction_of : (items : List PlainItem) (edits : List Edit) → InOrder 0 (length items) edits → MaySet 0 items edits →
    apply (transaction_of items edits) items ≡ Ok (substituted items edits)
apply-transaction_of items edits h m =
    let ordered : InOrder 0 (0 + length items) edits = rw zero-add h in
    let t = transaction_of items edits in
    let mismatch = mismatch-transaction_from 0 items edits ordered in
    let bad = bad-transaction_from 0 items edits ordered m in
    let new = edited-transaction_from 0 items edits ordered in
    let lengths = eq-eqb _ _ (old_length-transaction_from 0 items edits ordered) in
    rw (lengths, mismatch, bad, new)

pub drop-whole : (items rest : List PlainItem) → drop (length items) (items ++ rest) ≡ rest
drop-whole [] rest = refl
drop-whole (item ∷ items) rest = drop-whole items rest

pub take-whole : (items rest : List PlainItem) → take (length items) (items ++ rest) ≡ items
take-whole [] rest = refl
take-whole (item ∷ items) rest = ap (λ v. item ∷ v) (take-whole items rest)

-- A list in five parts, of which the second and the fourth are replaced.
pub edited-two : (a m b n c new1 new2 items : List PlainItem) (at1 count1 at2 count2 : ℕ) → items ≡ a ++ (m ++ (b ++ (n ++ c))) →
    at1 ≡ length a → count1 ≡ length m → at2 ≡ length a + length m + length b → count2 ≡ length n →
    (edited (transaction_of items (Change at1 count1 new1 ∷ Change at2 count2 new2 ∷ [])) items ≡ a ++ (new1 ++ (b ++ (new2 ++ c))))
    × InOrder 0 (length items) (Change at1 count1 new1 ∷ Change at2 count2 new2 ∷ [])
edited-two a m b n c new1 new2 items at1 count1 at2 count2 whole e1 f1 e2 f2 =
    let lengths : length items ≡ length a + (length m + (length b + (length n + length c))) =
    ap length whole ∙ omega (arith, length-append a (m ++ (b ++ (n ++ c))), length-append m (b ++ (n ++ c)), length-append b (n ++ c), length-append n c) in
    let ordered : InOrder 0 (length items) (Change at1 count1 new1 ∷ Change at2 count2 new2 ∷ []) = (omega arith, (omega arith, omega arith)) in
    let skip1 : at1 - 0 ≡ length a = omega arith in
    let skip2 : at2 - (at1 + count1) ≡ length b = omega arith in
    let rest1 : drop (at1 - 0) items ≡ m ++ (b ++ (n ++ c)) = ap (λ k. drop k items) skip1 ∙ ap (drop (length a)) whole ∙ drop-whole a _ in
    let rest2 : drop count1 (drop (at1 - 0) items) ≡ b ++ (n ++ c) = ap (λ k. drop k (drop (at1 - 0) items)) f1 ∙ ap (drop (length m)) rest1 ∙ drop-whole m _ in
    let rest3 : drop (at2 - (at1 + count1)) (drop count1 (drop (at1 - 0) items)) ≡ n ++ c =
    ap (λ k. drop k (drop count1 (drop (at1 - 0) items))) skip2 ∙ ap (drop (length b)) rest2 ∙ drop-whole b _ in
    let rest4 : drop count2 (drop (at2 - (at1 + count1)) (drop count1 (drop (at1 - 0) items))) ≡ c =
    ap (λ k. drop k (drop (at2 - (at1 + count1)) (drop count1 (drop (at1 - 0) items)))) f2 ∙ ap (drop (length n)) rest3 ∙ drop-whole n c in
    let part1 : take (at1 - 0) items ≡ a = ap (λ k. take k items) skip1 ∙ ap (take (length a)) whole ∙ take-whole a _ in
    let part2 : take (at2 - (at1 + count1)) (drop count1 (drop (at1 - 0) items)) ≡ b =
    ap (λ k. take k (drop count1 (drop (at1 - 0) items))) skip2 ∙ ap (take (length b)) rest2 ∙ take-whole b _ in (
      edited-transaction_from 0 items (Change at1 count1 new1 ∷ Change at2 count2 new2 ∷ []) (subst (λ k. InOrder 0 k (Change at1 count1 new1 ∷ Change at2 count2 new2 ∷ [])) (sym (zero-add (length items))) ordered)
          ∙ (λ i. part1 i ++ (new1 ++ (part2 i ++ (new2 ++ rest4 i)))),
      ordered,
    )

-- Edits that change nothing that passes a test: what is removed and what is inserted has none of
-- it.
abbrev pub Silent : (PlainItem → Bool) → ℕ → List PlainItem → List Edit → Type 0
Silent test at items [] = Unit {0}
Silent test at items (Change place count inserted ∷ edits) =
    let rest = drop (place - at) items in
    (filter test (take count rest) ≡ []) × (filter test inserted ≡ []) × Silent test (place + count) (drop count rest) edits
Silent test at items (Set place name to ∷ edits) = ⊥

pub filter-append : (test : PlainItem → Bool) (xs ys : List PlainItem) → filter test (xs ++ ys) ≡ filter test xs ++ filter test ys
filter-append test [] ys = refl
filter-append test (x ∷ xs) ys =
    elim (test x) as (λ b. cond b (x ∷ filter test (xs ++ ys)) (filter test (xs ++ ys)) ≡ cond b (x ∷ filter test xs) (filter test xs) ++ filter test ys)
    [ true ↦ ap (λ v. x ∷ v) (filter-append test xs ys) | false ↦ filter-append test xs ys ]

-- so what passes it stays, in order
pub filter-substituted : (test : PlainItem → Bool) (at : ℕ) (items : List PlainItem) (edits : List Edit) → Silent test at items edits →
    filter test (substituted_from at items edits) ≡ filter test items
filter-substituted test at items [] h = refl
filter-substituted test at items (Set place name to ∷ edits) h = absurd h
filter-substituted test at items (Change place count inserted ∷ edits) h =
    let rest = drop (place - at) items in
    let later = substituted_from (place + count) (drop count rest) edits in
    filter-append test (take (place - at) items) (inserted ++ later)
    ∙ ap (λ v. filter test (take (place - at) items) ++ v)
    (filter-append test inserted later
    ∙ ap (λ v. v ++ filter test later) h.1
    ∙ filter-substituted test (place + count) (drop count rest) edits h.2
    ∙ ap (λ v. v ++ filter test (drop count rest)) (sym h.0)
    ∙ sym (filter-append test (take count rest) (drop count rest))
    ∙ ap (filter test) (take-append-drop count rest))
    ∙ sym (filter-append test (take (place - at) items) rest)
    ∙ ap (filter test) (take-append-drop (place - at) items)
