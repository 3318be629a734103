-- Operations as a line writes them, one by one.
use Rattle.std.specs.Prelude.{ℕ, List, [], take}
use Rattle.model_items.specs.declared.plain_item.PlainItem.{PlainItem}
use Rattle.model_change.specs.Transaction.{Op, Retain, Replace, Attribute}
use Rattle.model_world.specs.declared.edit_command.OpWords.{OpWords}
use Rattle.model_world.specs.declared.edit_command.OpWords.TheVariants as op
use Rattle.model_world.specs.Edits.{set_first}

-- how many items one passes
abbrev pub items_passed : OpWords → ℕ
items_passed (op.Retain count) = count
items_passed (op.Remove count insert) = count
items_passed (op.Attr name to) = 0

-- the operation of its words, these items being next
abbrev pub op_on : OpWords → List PlainItem → Op
op_on (op.Retain count) items = Retain count
op_on (op.Remove count insert) items = Replace (take count items) insert
op_on (op.Attr name to) items = Attribute (set_first name to items)

-- the items that one inserts
abbrev pub inserted_by : OpWords → List PlainItem
inserted_by (op.Retain count) = []
inserted_by (op.Remove count insert) = insert
inserted_by (op.Attr name to) = []
