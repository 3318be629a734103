-- When two lists of transactions may be joined, and what a refusal says. Each transaction is read
-- by value with a list of values of its own.
use Rattle.std.specs.Prelude.{◌≡◌, ℕ, List, [], ◌∷◌, map, Result, Ok, Err}
use Rattle.ve_base.specs.declared.value.Value.{Value}
use Rattle.model_change.specs.Transaction.{Transaction, old_length, new_length}
use Rattle.model_change.specs.Join.{join_list, RangeConflict}
use Rattle.ve_tx.specs.Operation.{Operation, by_value}
use Rattle.ve_rebase.specs.declared.fault.RebaseFault.{RebaseFault}
use Rattle.ve_rebase.specs.declared.fault.RebaseFault.TheVariants.{Conflict, Memory}

-- each is on lists as long as those that the one before it gives, and the first on lists of n items
abbrev pub RunOnLength : ℕ → List Transaction → Type 0
RunOnLength n [] = Unit {0}
RunOnLength n (t ∷ ts) = (old_length t ≡ n) × RunOnLength (new_length t) ts

-- both run one after the other from lists of one length
pub record RunFromOneLength (committed mine : List Transaction) : Type 0 where
  pub length : ℕ
  pub committed_run : RunOnLength length committed
  pub mine_run : RunOnLength length mine

-- the fault names the conflict of the result; memory may be short at any time
abbrev pub IsRefusedAs : {A : Type 0} → Result A RangeConflict → RebaseFault → Type 0
IsRefusedAs joined (Conflict a_range b_range) = joined ≡ Err (record { committed = a_range; mine = b_range })
IsRefusedAs joined Memory = Unit {0}

-- each with the list of values beside it; without one beside it, with none
abbrev pub zipped : {A : Type 0} → (List Value → A → Transaction) → List (List Value) → List A → List Transaction
zipped f values [] = []
zipped f [] (x ∷ xs) = f [] x ∷ zipped f [] xs
zipped f (v ∷ values) (x ∷ xs) = f v x ∷ zipped f values xs

abbrev pub each_by_value : List (List Value) → List (List Operation) → List Transaction
each_by_value = zipped by_value

-- two lists joined by value, each side over values of its own
abbrev pub joined_lists : (values others : List Value) (committed mine : List (List Operation)) → Result (List Transaction × List Transaction) RangeConflict
joined_lists values others committed mine = join_list (map (by_value values) committed) (map (by_value others) mine)

abbrev pub both_lists : (values others : List Value) → List (List Operation) × List (List Operation) → List Transaction × List Transaction
both_lists values others two = (map (by_value values) two.0, map (by_value others) two.1)

-- whatever values either side cites, the two lists are joined as the model joins them
abbrev pub AreListsJoined : (committed mine : List (List Operation)) → List (List Operation) × List (List Operation) → Type 0
AreListsJoined committed mine two = (values others : List Value) → joined_lists values others committed mine ≡ Ok (both_lists values others two)

-- or are refused as it refuses them
abbrev pub AreListsRefused : (committed mine : List (List Operation)) → RebaseFault → Type 0
AreListsRefused committed mine why = (values others : List Value) → IsRefusedAs (joined_lists values others committed mine) why
