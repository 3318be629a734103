-- The range of a list that a transaction changes: from its first replace to its last one.
use Rattle.std.specs.Prelude.{◌≡◌, ℕ, ◌+◌, ◌≤◌, true, false, Bool, Option, Some, None, List, [], ◌∷◌, ◌++◌, length, map}
use Rattle.ve_base.specs.declared.value.Value.{Value}
use Rattle.model_items.specs.declared.item.Item.{Item}
use Rattle.model_items.specs.Plain.{plain_list}
use Rattle.model_change.specs.Fault.{Applies}
use Rattle.ve_tx.specs.declared.op.Op.{Op}
use Rattle.ve_tx.specs.declared.op.Op.TheVariants.{Retain, Replace, Attribute}
use Rattle.ve_tx.specs.Operation.{Operation, by_value, bare}
use Rattle.ve_repair.specs.declared.range.ChangedRange.{ChangedRange}
use Rattle.ve_repair.specs.Change.{items_taken, items_made}
use Rattle.ve_repair.specs.Outside.{Spares}

abbrev pub is_replace : Op → Bool
is_replace (Retain count) = false
is_replace (Replace removed inserted) = true
is_replace (Attribute name from to) = false

-- no replace is among them, so no item goes or comes
abbrev pub KeepItems : List Op → Type 0
KeepItems [] = Unit {0}
KeepItems (Retain count ∷ ops) = KeepItems ops
KeepItems (Replace removed inserted ∷ ops) = ⊥
KeepItems (Attribute name from to ∷ ops) = KeepItems ops

-- how many items of the old list they pass or remove, and how many of the new one they make
abbrev pub all_taken : List Op → ℕ
all_taken [] = 0
all_taken (op ∷ ops) = items_taken op + all_taken ops

abbrev pub all_given : List Op → ℕ
all_given [] = 0
all_given (op ∷ ops) = items_made op + all_given ops

abbrev pub begins_with_replace : List Op → Bool
begins_with_replace [] = false
begins_with_replace (op ∷ ops) = is_replace op

abbrev pub ends_with_replace : List Op → Bool
ends_with_replace [] = false
ends_with_replace (op ∷ []) = is_replace op
ends_with_replace (op ∷ next ∷ ops) = ends_with_replace (next ∷ ops)

-- The range has the operations from the first replace to the last one, and the position of the old
-- list where they begin. It has the position behind the items that they pass or remove, and how
-- many items of the new list they make.
pub record IsChangedRange (ops : List Op) (r : ChangedRange) : Type 0 where
  pub before : List Op
  pub changed : List Op
  pub after : List Op
  pub parts : ops ≡ before ++ (changed ++ after)
  pub keeps_before : KeepItems before
  pub keeps_after : KeepItems after
  pub begins : begins_with_replace changed ≡ true
  pub ends : ends_with_replace changed ≡ true
  pub first_is : r.first ≡ length before
  pub last_is : r.last ≡ length before + length changed
  pub from_is : r.from ≡ all_taken before
  pub to_is : r.to ≡ all_taken before + all_taken changed
  pub len_is : r.len ≡ all_given changed

-- Where the transaction of these operations applies to a list, what lies outside of the range is
-- spared, whatever the values are.
abbrev pub SparesOutside : List Op → ChangedRange → Type 0
SparesOutside ops r =
    (tx : List Operation) (items : List Item) (values : List Value) → map bare tx ≡ ops → Applies (by_value values tx) (plain_list values items) →
    Spares (by_value values tx) r.from r.to r.len (length items)

-- the range of the operations, if there is a replace among them
abbrev pub FindsRange : List Op → Option ChangedRange → Type 0
FindsRange ops None = KeepItems ops
FindsRange ops (Some r) = IsChangedRange ops r

-- so many operations are read, which pass so many items of the old list and make so many of the new
-- one
pub record HasSeen (ops : List Op) (found : Option ChangedRange) (count at new_at : ℕ) : Type 0 where
  pub finds : FindsRange ops found
  pub count_is : count ≡ length ops
  pub at_is : at ≡ all_taken ops
  pub new_at_is : new_at ≡ all_given ops

-- the range begins before so many items of the new list end, or would begin so
abbrev pub BeginsBefore : Option ChangedRange → ℕ → ℕ → Type 0
BeginsBefore None at new_at = at ≤ new_at
BeginsBefore (Some r) at new_at = r.from ≤ new_at
