-- Steps that are counted, one transaction after the other.
use Rattle.std.proofs.Common.{◌≡◌, ◌≤◌, ℕ, ◌+◌, ◌*◌, List, [], ◌∷◌, length, map, refl, sym, subst, arith}
use Rattle.std.proofs.lemmas.List.{length-append, length-map}
use Rattle.model_items.specs.declared.plain_item.PlainItem.{PlainItem}
use Rattle.model_change.specs.Transaction.{Transaction, edited}
use Rattle.model_change.specs.Inverse.{inverse}
use Rattle.model_change.specs.Replay.{reversal}
use Rattle.model_change.specs.Cost.{cost_of_transaction, cost_of_transactions}
use Rattle.ve_editor.specs.Counted.{steps_besides, steps_of_blank, steps_over}

first_of : (now after all a b : ℕ) → now + (a + b) ≤ all → after ≤ now + a → after ≤ all
first_of now after all a b h k = omega arith

first_and : (now after all a b : ℕ) → now + (a + b) ≤ all → after ≤ now + a → after + b ≤ all
first_and now after all a b h k = omega arith

more_than : (after now a b : ℕ) → after ≤ now + a → after ≤ now + (b + (a + 0))
more_than after now a b h = omega arith

and_more : (now after a b : ℕ) → after ≤ now + a → after ≤ now + (a + b)
and_more now after a b h = omega arith

in_turn : (now begun after a b : ℕ) → begun ≤ now + a → after ≤ begun + b → after ≤ now + (a + b)
in_turn now begun after a b h k = omega arith

-- The count stands at `now` before a transaction and at `after` past it; `all` bounds it to the
-- end. The transaction is known under two names.
module _ (t same : Transaction) (rest : List Transaction) (items : List PlainItem) (now after all : ℕ) (is : same ≡ t)
    (bound : now + cost_of_transactions (t ∷ rest) items ≤ all) (took : after ≤ now + cost_of_transaction same items) where
  took_one : after ≤ now + cost_of_transaction t items
  took_one = subst (λ u. after ≤ now + cost_of_transaction u items) is took

  pub within_all : after ≤ all
  within_all = first_of now after all (cost_of_transaction t items) (cost_of_transactions rest (edited t items)) bound took_one

  pub left_within_all : (made : List PlainItem) → made ≡ edited t items → after + cost_of_transactions rest made ≤ all
  left_within_all made e =
      subst (λ l. after + cost_of_transactions rest l ≤ all) (sym e) (first_and now after all (cost_of_transaction t items) (cost_of_transactions rest (edited t items)) bound took_one)

-- one transaction alone, with nothing besides
pub one_within : (t same : Transaction) (ts : List Transaction) (items : List PlainItem) (now after : ℕ) → same ≡ t → ts ≡ t ∷ [] →
    after ≤ now + cost_of_transaction same items → after ≤ now + steps_over ts items
one_within t same ts items now after is only took =
    subst (λ l. after ≤ now + steps_over l items) (sym only)
    (more_than after now (cost_of_transaction t items) 0 (subst (λ u. after ≤ now + cost_of_transaction u items) is took))

-- more than one
abbrev pub AreSeveral : List Transaction → Type 0
AreSeveral ts = 2 ≤ length ts

blank_counted : (ts : List Transaction) → AreSeveral ts → steps_besides ts ≡ steps_of_blank
blank_counted [] several = absurd (omega (arith, several))
blank_counted (t ∷ []) several = absurd (omega (arith, several))
blank_counted (t ∷ u ∷ ts) several = refl

-- a page without text, and the transactions on a trial
pub tried_within : (ts : List Transaction) (items : List PlainItem) (now begun after : ℕ) → AreSeveral ts → begun ≤ now + steps_of_blank → after ≤ begun + cost_of_transactions ts items →
    after ≤ now + steps_over ts items
tried_within ts items now begun after several h k =
    subst (λ n. after ≤ now + (n + cost_of_transactions ts items)) (sym (blank_counted ts several)) (in_turn now begun after steps_of_blank (cost_of_transactions ts items) h k)

-- a page without text for which memory is short
pub blank_within : (ts : List Transaction) (items : List PlainItem) (now after : ℕ) → AreSeveral ts → after ≤ now + steps_of_blank → after ≤ now + steps_over ts items
blank_within ts items now after several h =
    subst (λ n. after ≤ now + (n + cost_of_transactions ts items)) (sym (blank_counted ts several)) (and_more now after steps_of_blank (cost_of_transactions ts items) h)

-- neither none nor one
are_two : {A : Type 0} (xs : List A) → (length xs ≡ 0 → ⊥) → (length xs ≡ 1 → ⊥) → 2 ≤ length xs
are_two [] some more = absurd (some refl)
are_two (x ∷ []) some more = absurd (more refl)
are_two (x ∷ y ∷ xs) some more = omega arith

pub mapped_several : {A : Type 0} (f : A → Transaction) (xs : List A) → (length xs ≡ 0 → ⊥) → (length xs ≡ 1 → ⊥) → AreSeveral (map f xs)
mapped_several f xs some more = let two = are_two xs some more in omega (arith, two, length-map xs f)

reversed_long : (ts : List Transaction) → length (reversal ts) ≡ length ts
reversed_long [] = refl
reversed_long (t ∷ ts) = omega (arith, length-append (reversal ts) (inverse t ∷ []), reversed_long ts)

pub reversal_several : {A : Type 0} (f : A → Transaction) (xs : List A) → (length xs ≡ 0 → ⊥) → (length xs ≡ 1 → ⊥) → AreSeveral (reversal (map f xs))
reversal_several f xs some more = let two = are_two xs some more in omega (arith, two, reversed_long (map f xs), length-map xs f)
