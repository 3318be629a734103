-- The positions of removed attributes, as one pass along the operations finds them.
use Rattle.std.specs.Prelude.{◌≡◌, Bool, true, false, List, length, drop}
use Rattle.ve_base.specs.declared.value.Value.{Value}
use Rattle.model_items.specs.declared.item.Item.{Item}
use Rattle.model_items.specs.declared.plain_item.PlainItem.{PlainItem}
use Rattle.model_change.specs.Attributes.{item_changed}
use Rattle.model_change.specs.Fault.{first_allows}
use Rattle.model_change.specs.Inverse.{first_filled}
use Rattle.model_change.specs.Transaction.{Op, Retain, Replace, Attribute, on_first}
use Rattle.ve_tx.specs.declared.filled.Cursor.{Cursor}
use Rattle.ve_tx.specs.declared.op.Op as kept
use Rattle.ve_tx.specs.declared.op.Op.TheVariants as op
use Rattle.ve_tx.specs.Making.{headed_from}
use Rattle.ve_tx.specs.Operation.{Operation, operation_by_value}

-- where the cursor stands after an operation
abbrev pub items_past : Op → List PlainItem → List PlainItem
items_past (Retain count) items = drop count items
items_past (Replace removed inserted) items = drop (length removed) items
items_past (Attribute change) items = on_first (item_changed change) items

-- the operation, with the position of the attribute that it removes
abbrev pub op_filled : Op → List PlainItem → Op
op_filled (Retain count) items = Retain count
op_filled (Replace removed inserted) items = Replace removed inserted
op_filled (Attribute change) items = Attribute (first_filled change items)

-- an attribute operation is allowed at the cursor
abbrev pub MayBeMade : Op → List PlainItem → Type 0
MayBeMade (Retain count) items = Unit {0}
MayBeMade (Replace removed inserted) items = Unit {0}
MayBeMade (Attribute change) items = first_allows change items ≡ true

-- the items of a list from the cursor on, by value, the first one with its changed head, where it
-- has one
abbrev pub ahead : List Value → List Item → Cursor → List PlainItem
ahead values items cursor = headed_from values items cursor.at cursor.head

-- the operation is allowed at the cursor of the list
abbrev pub MayPass : List Value → List Item → Operation → Cursor → Type 0
MayPass values items operation cursor = MayBeMade (operation_by_value values operation) (ahead values items cursor)

-- the operation takes the cursor to the next one
abbrev pub Passes : List Value → List Item → Operation → (cursor next : Cursor) → Type 0
Passes values items operation cursor next =
    ahead values items next ≡ items_past (operation_by_value values operation) (ahead values items cursor)

-- the second operation is, by value, the first with the position that the attribute which it
-- removes has at the cursor
abbrev pub Fills : List Value → List Item → Cursor → (operation full : Operation) → Type 0
Fills values items cursor operation full =
    operation_by_value values full ≡ op_filled (operation_by_value values operation) (ahead values items cursor)

abbrev pub is_attribute : kept.Op → Bool
is_attribute (op.Retain count) = false
is_attribute (op.Replace removed inserted) = false
is_attribute (op.Attribute name from to) = true
