-- How the values that follow a store grow.
use Rattle.std.specs.Prelude.{◌≡◌, codes, List, Option}
use Rattle.ve_base.specs.declared.attrs.Attr.{Attr}
use Rattle.ve_base.specs.declared.head.Head.{Head}
use Rattle.ve_base.specs.declared.value.Value.{Value}
use Rattle.ve_base.specs.declared.value.ValueId.{ValueId}
use Rattle.ve_base.specs.Empty.{empty_head}
use Rattle.model_items.specs.declared.plain_item.PlainItem.{PlainItem}
use Rattle.model_items.specs.Plain.{head_in, value_at}
use Rattle.model_change.specs.Attributes.{attr_removed}
use Rattle.model_change.specs.Store.{fill, cited, head_cited}
use Rattle.model_change.specs.Transaction.{all_inserted}
use Rattle.ve_store.specs.Following.{Following, together}
use Rattle.ve_tx.specs.Operation.{Operation, by_value}

-- They grew by just what is filled for these items.
abbrev pub IsFilledFor : List Value → (old new : Following) → List PlainItem → Type 0
IsFilledFor store old new items = together store new ≡ fill (together store old) (cited items)

-- They grew by just what is filled for the items that a transaction inserts.
abbrev pub BringsInserted : List Value → (old new : Following) → List Operation → Type 0
BringsInserted store old new tx = IsFilledFor store old new (all_inserted (by_value (together store new) tx))

-- by just what is filled for this head
abbrev pub IsFilledWithHead : List Value → (old new : Following) → Head → Type 0
IsFilledWithHead store old new head = together store new ≡ fill (together store old) (head_cited head)

-- the head that is cited, in the store or in what follows it
abbrev pub head_at : List Value → Following → Option ValueId → Head
head_at store new id = head_in (value_at (together store new) id)

-- the head with these attributes and nothing else
abbrev pub head_with : List Attr → Head
head_with attrs = record empty_head { attrs = attrs }

-- the attributes of a head but for `id`, and nothing else
abbrev pub head_copied : Head → Head
head_copied head = head_with (attr_removed (codes "id") head.attrs)
