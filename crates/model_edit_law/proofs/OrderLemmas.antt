-- Lists of changes that stand in order.
use Rattle.std.specs.Prelude.{filter, flat_map}
use Rattle.std.specs.List.{range_with_len}
use Rattle.std.proofs.Common.{◌≡◌, ℕ, zero, suc, ◌+◌, ◌-◌, ◌≤◌, Bool, true, false, cond, List, [], ◌∷◌, ◌++◌, length, map, drop, Option, Some, None, Ok, refl, arith}
use Rattle.model_items.specs.declared.plain_item.PlainItem.{PlainItem}
use Rattle.model_change.specs.Fault.{fault, apply_unless}
use Rattle.model_change.specs.declared.tx_fault.TxFault.{TxFault}
use Rattle.model_edit_law.specs.Fine.{Fine}
use Rattle.model_edit.specs.Edits.{Edit, Change, Set, transaction_of, InOrder, MaySet}
use Rattle.model_edit_law.proofs.RestorableLemmas.{restorable-transaction_of}
use Rattle.model_edit_law.proofs.EditLemmas.{is_reduced-transaction_of, apply-transaction_of}

-- changes alone, at rising positions up to `end`
abbrev pub Rising : (at end : ℕ) → List Edit → Type 0
Rising at end [] = at ≤ end
Rising at end (Change place count inserted ∷ edits) = (at ≤ place) × Rising (place + count) end edits
Rising at end (Set place name to ∷ edits) = ⊥

pub InOrder-Rising : (at end : ℕ) (edits : List Edit) → Rising at end edits → InOrder at end edits
InOrder-Rising at end [] h = h
InOrder-Rising at end (Change place count inserted ∷ edits) h = (h.0, InOrder-Rising (place + count) end edits h.1)
InOrder-Rising at end (Set place name to ∷ edits) h = absurd h

MaySet-Rising : (at end n : ℕ) (items : List PlainItem) (edits : List Edit) → Rising at end edits → MaySet n items edits
MaySet-Rising at end n items [] h = tt
MaySet-Rising at end n items (Change place count inserted ∷ edits) h = MaySet-Rising (place + count) end (place + count) (drop count (drop (place - n) items)) edits h.1
MaySet-Rising at end n items (Set place name to ∷ edits) h = absurd h

-- The one transaction of edits in order is.
pub Fine-edits : (items : List PlainItem) (edits : List Edit) → InOrder 0 (length items) edits → MaySet 0 items edits → Fine items (transaction_of items edits)
Fine-edits items edits order may =
    record { reduced = is_reduced-transaction_of items edits order; restorable = restorable-transaction_of items edits order may; applies = no_fault (fault (transaction_of items edits) items) _ _ (apply-transaction_of items edits order may) }
  where
    no_fault : (f : Option TxFault) (new other : List PlainItem) → apply_unless f new ≡ Ok other → f ≡ None
    no_fault None new other h = refl
    no_fault (Some f) new other h = cc

pub Fine-Rising : (items : List PlainItem) (edits : List Edit) → Rising 0 (length items) edits → Fine items (transaction_of items edits)
Fine-Rising items edits h = Fine-edits items edits (InOrder-Rising 0 (length items) edits h) (MaySet-Rising 0 (length items) 0 items edits h)

Rising-ends : (at end : ℕ) (edits : List Edit) → Rising at end edits → at ≤ end
Rising-ends at end [] h = h
Rising-ends at end (Change place count inserted ∷ edits) h = let first = h.0 in let rest = Rising-ends (place + count) end edits h.1 in omega arith
Rising-ends at end (Set place name to ∷ edits) h = absurd h

pub Rising-within : (at at' end end' : ℕ) (edits : List Edit) → at' ≤ at → end ≤ end' → Rising at end edits → Rising at' end' edits
Rising-within at at' end end' [] low high h = omega arith
Rising-within at at' end end' (Change place count inserted ∷ edits) low high h =
    let first = h.0 in (omega arith, Rising-within (place + count) (place + count) end end' edits (omega arith) high h.1)
Rising-within at at' end end' (Set place name to ∷ edits) low high h = absurd h

pub Rising-append : (at middle end : ℕ) (xs ys : List Edit) → Rising at middle xs → Rising middle end ys → Rising at end (xs ++ ys)
Rising-append at middle end [] ys h g = Rising-within middle at end end ys h (omega arith) g
Rising-append at middle end (Change place count inserted ∷ xs) ys h g = (h.0, Rising-append (place + count) middle end xs ys h.1 g)
Rising-append at middle end (Set place name to ∷ xs) ys h g = absurd h

-- at each position of a range
pub Rising-each : (f : ℕ → List Edit) → ((n : ℕ) → Rising n (suc n) (f n)) → (from count : ℕ) → Rising from (from + count) (flat_map f (range_with_len from count))
Rising-each f h from zero = omega arith
Rising-each f h from (suc count) =
    Rising-append from (from + 1) (from + suc count) (f from) (flat_map f (range_with_len (from + 1) count))
    (Rising-within from from (suc from) (from + 1) (f from) (omega arith) (omega arith) (h from))
    (Rising-within (from + 1) (from + 1) ((from + 1) + count) (from + suc count) _ (omega arith) (omega arith) (Rising-each f h (from + 1) count))

pub Rising-filter : (p : ℕ → Bool) (from count : ℕ) → Rising from (from + count) (map (λ at. Change at 1 []) (filter p (range_with_len from count)))
Rising-filter p from zero = omega arith
Rising-filter p from (suc count) =
    let rest = filter p (range_with_len (from + 1) count) in
    let later = Rising-filter p (from + 1) count in
    let P : List ℕ → Type 0 = λ v. Rising from (from + suc count) (map (λ at. Change at 1 []) v) in
    elim (p from) as (λ b. P (cond b (from ∷ rest) rest)) [
      | true ↦ (omega arith, Rising-within (from + 1) (from + 1) ((from + 1) + count) (from + suc count) _ (omega arith) (omega arith) later)
      | false ↦ Rising-within (from + 1) from ((from + 1) + count) (from + suc count) _ (omega arith) (omega arith) later
    ]
