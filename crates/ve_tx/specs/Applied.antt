-- Applying a transaction to a list whose items cite the values of a store.
use Rattle.std.specs.Prelude.{◌≡◌, List, Option, Result}
use Rattle.ve_base.specs.declared.value.Value.{Value}
use Rattle.model_items.specs.declared.item.Item.{Item}
use Rattle.model_items.specs.declared.plain_item.PlainItem.{PlainItem}
use Rattle.model_items.specs.Plain.{plain_list}
use Rattle.model_change.specs.declared.tx_fault.TxFault.{TxFault}
use Rattle.model_change.specs.Attributes.{AllNamesApart}
use Rattle.model_change.specs.Fault.{Applies, apply, fault}
use Rattle.model_change.specs.Inverse.{IsRestorable, IsUndoneBy, filled}
use Rattle.model_change.specs.Join.{active_range}
use Rattle.model_change.specs.Store.{changed_heads, fill}
use Rattle.model_change.specs.Transaction.{Transaction, edited}
use Rattle.ve_tx.specs.declared.splice.Splice.{Splice}
use Rattle.ve_tx.specs.Changed.{IsOver}
use Rattle.ve_tx.specs.Operation.{Operation, by_value}
use Rattle.ve_tx.specs.Spliced.{spliced_by}

-- the transaction applies
abbrev pub AppliesTo : List Value → List Operation → List Item → Type 0
AppliesTo values tx items = Applies (by_value values tx) (plain_list values items)

-- the new list by value, or the fault
abbrev pub applied_to : List Value → List Operation → List Item → Result (List PlainItem) TxFault
applied_to values tx items = apply (by_value values tx) (plain_list values items)

-- the first fault, where it doesn't apply
abbrev pub fault_on : List Value → List Operation → List Item → Option TxFault
fault_on values tx items = fault (by_value values tx) (plain_list values items)

-- the store with the final heads of the openings that its attribute operations change
abbrev pub store_after : List Value → List Operation → List Item → List Value
store_after values tx items = fill values (changed_heads (by_value values tx) (plain_list values items))

-- the transaction with the positions of the attributes that it removes
abbrev pub filled_on : List Value → List Operation → List Item → Transaction
filled_on values tx items = filled (by_value values tx) (plain_list values items)

-- the second transaction is, by value, the first with these positions
abbrev pub IsFilledOn : List Value → List Item → List Operation → List Operation → Type 0
IsFilledOn values items tx full = by_value values full ≡ filled_on values tx items

-- each attribute that it removes would be put back where it was
abbrev pub IsRestorableOn : List Value → List Operation → List Item → Type 0
IsRestorableOn values tx items = IsRestorable (by_value values tx) (plain_list values items)

-- after the one, the other gives each list back on which names are apart and what is removed can be
-- put back
abbrev pub Undoes : List Value → List Operation → List Operation → Type 0
Undoes values tx back =
    (items : List PlainItem) → AllNamesApart items → Applies (by_value values tx) items → IsRestorable (by_value values tx) items →
    IsUndoneBy (by_value values tx) (by_value values back) items

-- the list after splices, by value
abbrev pub plain_after : List Value → List Item → List Splice → List PlainItem
plain_after values items splices = plain_list values (spliced_by items splices)

-- After the splices the list is, over the new values, what the transaction makes of it over the old
-- ones.
abbrev pub MakesEdited : (old new : List Value) → List Operation → List Item → List Splice → Type 0
MakesEdited old new tx items splices = plain_after new items splices ≡ edited (by_value old tx) (plain_list old items)

-- the splices lie within the active range of the transaction; without one there are none
abbrev pub IsOverActive : List Value → List Operation → List Splice → Type 0
IsOverActive values tx splices = IsOver (active_range (by_value values tx)) splices
