-- Checks of a list before a transaction changes it, as passes over the operations make them.
use Rattle.std.specs.Option.{option_or}
use Rattle.std.specs.Prelude.{◌≡◌, ◌≢◌, ℕ, ◌+◌, ◌<◌, ◌==◌, if◌then◌else◌, List, [], ◌∷◌, length, take, drop, slice_get, Option, Some, None, option_map, All}
use Rattle.ve_base.specs.declared.value.Value.{Value}
use Rattle.model_items.specs.declared.item.Item.{Item}
use Rattle.model_items.specs.Plain.{plain_list, AreDistinct, CitesWell}
use Rattle.model_change.specs.declared.tx_fault.TxFault.{TxFault}
use Rattle.model_change.specs.declared.tx_fault.TxFault.TheVariants.{BadLength, Mismatch, BadAttr}
use Rattle.model_change.specs.Attributes.{AttrChange}
use Rattle.model_change.specs.Fault.{differs_at, first_allows}
use Rattle.ve_tx.specs.declared.op.Op.{Op}
use Rattle.ve_tx.specs.declared.op.Op.TheVariants.{Retain, Replace, Attribute}
use Rattle.ve_tx.specs.Cites.{TxCites}
use Rattle.ve_tx.specs.Operation.{unkept}

-- the length of the lists that the operations apply to
abbrev pub old_size : List Op → ℕ
old_size [] = 0
old_size (Retain count ∷ ops) = count + old_size ops
old_size (Replace removed inserted ∷ ops) = length removed + old_size ops
old_size (Attribute name from to ∷ ops) = old_size ops

-- the first position where two lists, the second as long or longer, have different items
abbrev pub DiffersFirst : {A : Type 0} → List A → List A → ℕ → Type 0
DiffersFirst one other k = (k < length one) × (take k one ≡ take k other) × (slice_get one k ≢ slice_get other k)

-- the first position where an item that is to be removed is not the list's, from the position `at`
-- on
abbrev pub mismatch_in : List Value → List Item → ℕ → List Op → Option ℕ
mismatch_in values items at [] = None
mismatch_in values items at (Retain count ∷ ops) = mismatch_in values items (at + count) ops
mismatch_in values items at (Replace removed inserted ∷ ops) =
    option_or (differs_at at (plain_list values removed) (plain_list values (drop at items)))
    (mismatch_in values items (at + length removed) ops)
mismatch_in values items at (Attribute name from to ∷ ops) = mismatch_in values items at ops

-- the first such position from the start on, over any distinct values that the list and the
-- operations cite well
abbrev pub IsFirstMismatch : List Item → List Op → Option ℕ → Type 0
IsFirstMismatch items ops found =
    (values : List Value) → AreDistinct values → All (CitesWell values) items → TxCites values (unkept ops) →
    found ≡ mismatch_in values items 0 ops

abbrev pub change_of : List ℕ → Option (List ℕ) → Option (List ℕ) → Option ℕ → AttrChange
change_of name from to kept = record { name = name; from = from; to = to; kept = kept }

-- the first position where an attribute operation is not allowed by the list's own item
abbrev pub bad_in : List Value → List Item → ℕ → List Op → Option ℕ
bad_in values items at [] = None
bad_in values items at (Retain count ∷ ops) = bad_in values items (at + count) ops
bad_in values items at (Replace removed inserted ∷ ops) = bad_in values items (at + length removed) ops
bad_in values items at (Attribute name from to ∷ ops) =
    if first_allows (change_of name from to None) (plain_list values (drop at items)) then bad_in values items at ops else Some at

-- why the operations do not apply to the list, if they do not
abbrev pub fault_in : List Value → List Item → List Op → Option TxFault
fault_in values items ops =
    if old_size ops == length items
    then option_or (option_map (λ at. Mismatch at) (mismatch_in values items 0 ops)) (option_map (λ at. BadAttr at) (bad_in values items 0 ops))
    else Some (BadLength (length items) (old_size ops))
