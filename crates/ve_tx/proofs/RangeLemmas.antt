-- The active range by one pass is the range from the first to the last operation that isn't a
-- retain.
use Rattle.std.proofs.Common.{◌≡◌, ◌≤◌, ℕ, ◌+◌, max, Bool, true, false, ◌&&◌, List, [], ◌∷◌, length, map, Option, None, Some, refl, ap, ◌∙◌, arith}
use Rattle.std.proofs.lemmas.List.{length-map}
use Rattle.ve_base.specs.declared.value.Value.{Value}
use Rattle.model_items.specs.Plain.{plain}
use Rattle.model_change.specs.Transaction.{Op, Retain, Replace, Attribute, Transaction, is_something, may_precede, is_reduced, is_normal}
use Rattle.model_change.specs.Join.{active_range, reach, without_end}
use Rattle.ve_tx.specs.Range.{widened, range_from}
use Rattle.ve_tx.specs.Operation.{Operation, bare, by_value}
use Rattle.ve_tx.specs.Operation as kept

-- the pass over operations by value
abbrev pub pass : ℕ → Option (ℕ × ℕ) → Transaction → Option (ℕ × ℕ)
pass at range [] = range
pass at range (Retain count ∷ ops) = pass (at + count) range ops
pass at range (Replace removed inserted ∷ ops) = pass (at + length removed) (widened range at (at + length removed)) ops
pass at range (Attribute change ∷ ops) = pass at (widened range at (at + 1)) ops

range-pass : (values : List Value) (at : ℕ) (range : Option (ℕ × ℕ)) (tx : List Operation) → range_from at range (map bare tx) ≡ pass at range (by_value values tx)
range-pass values at range [] = refl
range-pass values at range (kept.Retain count ∷ tx) = range-pass values (at + count) range tx
range-pass values at range (kept.Replace removed inserted ∷ tx) =
    rw (length-map removed (plain values)) (range-pass values (at + length removed) (widened range at (at + length removed)) tx)
range-pass values at range (kept.Attribute change ∷ tx) = range-pass values at (widened range at (at + 1)) tx

both_left : (a b : Bool) → (a && b) ≡ true → a ≡ true
both_left true b h = refl
both_left false b h = h

both_right : (a b : Bool) → (a && b) ≡ true → b ≡ true
both_right true b h = h
both_right false b h = cc

rest_reduced : (op : Op) (ops : Transaction) → is_reduced (op ∷ ops) ≡ true → is_reduced ops ≡ true
rest_reduced op ops h = both_right (may_precede op ops) (is_reduced ops) (both_right (is_something op) (may_precede op ops && is_reduced ops) h)

may_stand : (op : Op) (ops : Transaction) → is_reduced (op ∷ ops) ≡ true → may_precede op ops ≡ true
may_stand op ops h = both_left (may_precede op ops) (is_reduced ops) (both_right (is_something op) (may_precede op ops && is_reduced ops) h)

some_to : (start m n : ℕ) → m ≡ n → let x : Option (ℕ × ℕ) = Some (start, m) in let y : Option (ℕ × ℕ) = Some (start, n) in x ≡ y
some_to start m n e = let f : ℕ → Option (ℕ × ℕ) = λ end. Some (start, end) in ap f e

-- once there is a range that reaches the cursor, its end moves to the last operation's
pass-some : (at start end : ℕ) (t : Transaction) → is_reduced t ≡ true → at ≤ end → pass at (Some (start, end)) t ≡ Some (start, max end (at + reach (without_end t)))
pass-some at start end [] h w = some_to start end (max end (at + 0)) (omega arith)
pass-some at start end (Retain n ∷ []) h w = some_to start end (max end (at + 0)) (omega arith)
pass-some at start end (Retain n ∷ Retain m ∷ t) h w = let e = may_stand (Retain n) (Retain m ∷ t) h in cc
pass-some at start end (Retain n ∷ Replace r i ∷ t) h w =
    pass-some (at + n + length r) start (max end (at + n + length r)) t (rest_reduced (Replace r i) t (rest_reduced (Retain n) (Replace r i ∷ t) h)) (omega arith)
    ∙ some_to start _ _ (omega arith)
pass-some at start end (Retain n ∷ Attribute c ∷ t) h w =
    pass-some (at + n) start (max end (at + n + 1)) t (rest_reduced (Attribute c) t (rest_reduced (Retain n) (Attribute c ∷ t) h)) (omega arith)
    ∙ some_to start _ _ (omega arith)
pass-some at start end (Replace r i ∷ t) h w =
    pass-some (at + length r) start (max end (at + length r)) t (rest_reduced (Replace r i) t h) (omega arith) ∙ some_to start _ _ (omega arith)
pass-some at start end (Attribute c ∷ t) h w =
    pass-some at start (max end (at + 1)) t (rest_reduced (Attribute c) t h) (omega arith) ∙ some_to start _ _ (omega arith)

both_to : (m n p q : ℕ) → m ≡ p → n ≡ q → let x : Option (ℕ × ℕ) = Some (m, n) in let y : Option (ℕ × ℕ) = Some (p, q) in x ≡ y
both_to m n p q e f = cc

pub pass-none : (t : Transaction) → is_reduced t ≡ true → pass 0 None t ≡ active_range t
pass-none [] h = refl
pass-none (Retain n ∷ []) h = refl
pass-none (Retain n ∷ Retain m ∷ t) h = let e = may_stand (Retain n) (Retain m ∷ t) h in cc
pass-none (Retain n ∷ Replace r i ∷ t) h =
    pass-some (0 + n + length r) (0 + n) (0 + n + length r) t (rest_reduced (Replace r i) t (rest_reduced (Retain n) (Replace r i ∷ t) h)) (omega arith)
    ∙ both_to _ _ _ _ (omega arith) (omega arith)
pass-none (Retain n ∷ Attribute c ∷ t) h =
    pass-some (0 + n) (0 + n) (0 + n + 1) t (rest_reduced (Attribute c) t (rest_reduced (Retain n) (Attribute c ∷ t) h)) (omega arith)
    ∙ both_to _ _ _ _ (omega arith) (omega arith)
pass-none (Replace r i ∷ t) h =
    pass-some (0 + length r) 0 (0 + length r) t (rest_reduced (Replace r i) t h) (omega arith) ∙ both_to _ _ _ _ refl (omega arith)
pass-none (Attribute c ∷ t) h =
    pass-some 0 0 (0 + 1) t (rest_reduced (Attribute c) t h) (omega arith) ∙ both_to _ _ _ _ refl (omega arith)

pub range-active : (values : List Value) (tx : List Operation) → is_normal (by_value values tx) ≡ true → range_from 0 None (map bare tx) ≡ active_range (by_value values tx)
range-active values tx h =
    range-pass values 0 None tx ∙ pass-none (by_value values tx) (both_left (is_reduced (by_value values tx)) _ h)
