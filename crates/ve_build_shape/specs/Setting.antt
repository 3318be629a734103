-- The operations that set an attribute of the opening at a position, and what is known of the
-- opening.
use Rattle.std.specs.Prelude.{◌≡◌, ℕ, zero, suc, Bool, true, List, [], ◌∷◌, ◌++◌, Option, drop, slice_get, option_map, Result}
use Rattle.std.specs.Borrow.{Bor}
use Rattle.std.specs.Str.{chars}
use Rattle.model_items.specs.declared.item.Item.{Item}
use Rattle.model_items.specs.Plain.{plain_list}
use Rattle.model_items.specs.declared.plain_item.PlainItem.{PlainItem}
use Rattle.model_items.specs.Offsets.{passes}
use Rattle.ve_kinds.specs.Table.{is_element}
use Rattle.model_change.specs.Transaction.{Transaction}
use Rattle.model_edit.specs.Causes.{BuildCause}
use Rattle.model_edit.specs.Convert.{opens_kind, attribute}
use Rattle.model_edit.specs.Edits.{Set, may_set, transaction_of}
use Rattle.ve_base.specs.declared.value.Value.{Value}
use Rattle.ve_tx.specs.declared.op.Op.{Op}
use Rattle.ve_tx.specs.declared.op.Op.TheVariants.{Retain, Attribute}

-- a retain of so many items, unless there are none
abbrev pub retain_ops : ℕ → List Op
retain_ops zero = []
retain_ops (suc n) = Retain (suc n) ∷ []

abbrev pub setting_ops : (at rest : ℕ) (name : List ℕ) (from to : Option (List ℕ)) → List Op
setting_ops at rest name from to = retain_ops at ++ Attribute name from to ∷ Retain rest ∷ []

-- an element begins at the position
abbrev pub begins_element : List PlainItem → ℕ → Bool
begins_element items at = passes (opens_kind is_element) (slice_get items at)

-- the value as it is spelled
abbrev pub value_spelled : Option (Bor (List ℕ)) → Option (List ℕ)
value_spelled to = option_map (λ (value : Bor (List ℕ)). chars value.now) to

-- the model's answer where the name and the value are given as bytes
abbrev pub attribute_spelled : List PlainItem → ℕ → List ℕ → Option (Bor (List ℕ)) → Result Transaction BuildCause
attribute_spelled items at name to = attribute items at (chars name) (value_spelled to)

-- the transaction sets the attribute, and does nothing else
abbrev pub IsSetting : List PlainItem → ℕ → List ℕ → Option (List ℕ) → Transaction → Type 0
IsSetting items at name to t = t ≡ transaction_of items (Set at name to ∷ [])

-- an element opens at the position, and the name may be set, over every list of values
abbrev pub MaySetAt : List Item → ℕ → List ℕ → Type 0
MaySetAt items at name = (values : List Value) → may_set name (drop at (plain_list values items)) ≡ true
