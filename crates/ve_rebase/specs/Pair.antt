-- Answers of joining two transactions, and the result of each from a span.
use Rattle.std.specs.Prelude.{◌≡◌, ◌≤◌, ◌+◌, ℕ, true, false, List, length, Some}
use Rattle.ve_base.specs.declared.value.Value.{Value}
use Rattle.model_change.specs.Transaction.{Transaction, all_inserted, total_length, is_reduced}
use Rattle.model_change.specs.Join.{conflict, active_range, core, with_ends}
use Rattle.ve_tx.specs.Operation.{Operation, by_value}
use Rattle.ve_rebase.specs.declared.fault.RebaseFault.{RebaseFault}
use Rattle.ve_rebase.specs.declared.fault.RebaseFault.TheVariants.{Conflict, Memory}
use Rattle.ve_rebase.specs.declared.span.ActiveSpan.{ActiveSpan}
use Rattle.ve_rebase.specs.Span.{old_size, new_size, end}

abbrev pub both_by_value : List Value → List Operation × List Operation → Transaction × Transaction
both_by_value values two = (by_value values two.0, by_value values two.1)

-- The two conflict, and these are their active ranges; or they don't, and memory is short.
abbrev pub IsRefused : Transaction → Transaction → RebaseFault → Type 0
IsRefused a b (Conflict a_range b_range) = (conflict a b ≡ true) × ((Some a_range ≡ active_range a) × (Some b_range ≡ active_range b))
IsRefused a b Memory = conflict a b ≡ false

-- its lengths, and where its range ends, are at most n
pub record FitsIn (n : ℕ) (s : ActiveSpan) : Type 0 where
  pub old : old_size s ≤ n
  pub new : new_size s ≤ n
  pub range : end s ≤ n

-- a transaction's operations between the ends of a span
abbrev pub between : ActiveSpan → Transaction → Transaction
between s t = with_ends s.first (core t) s.last

-- between those ends they are reduced, and the span tells how long the old list is
pub record MayStandIn (s : ActiveSpan) (t : Transaction) : Type 0 where
  pub reduced : is_reduced (between s t) ≡ true
  pub total : total_length (between s t) ≡ old_size s + length (all_inserted t)
