-- The edits of a list item that is moved, and how a move is refused.
use Rattle.std.specs.Prelude.{◌≡◌, ◌⊎◌, ℕ, ◌-◌, if◌then◌else◌, List, [], ◌∷◌, All, Option, Some, None, Result, Err}
use Rattle.ve_base.specs.declared.value.Value.{Value}
use Rattle.ve_kinds.specs.declared.kind.Kind.{Kind}
use Rattle.ve_kinds.specs.declared.kind.Kind.TheVariants.{Li}
use Rattle.ve_kinds.specs.Table.{kind_same}
use Rattle.model_items.specs.declared.item.Item.{Item}
use Rattle.model_items.specs.declared.plain_item.PlainItem.{PlainItem}
use Rattle.model_items.specs.Offsets.{partner}
use Rattle.model_items.specs.Plain.{plain_list, CitesWell}
use Rattle.model_items.specs.Tree.{Open}
use Rattle.model_change.specs.Transaction.{Transaction}
use Rattle.model_edit.specs.Brackets.{opening_of, is_closing_of}
use Rattle.model_edit.specs.Causes.{ListCause, list_fault}
use Rattle.model_edit.specs.Edits.{Edit, Change, transaction_of}
use Rattle.model_edit.specs.Lists.{passes_before, end_before, begin_after}
use Rattle.model_edit.specs.declared.list_fault.ListFault.{ListFault}
use Rattle.model_edit.specs.declared.list_fault.ListFault.TheVariants.{Memory}
use Rattle.ve_store.specs.Following.{Following, together}
use Rattle.ve_tx.specs.Operation.{Operation, by_value}
use Rattle.ve_edits.specs.Collected.{Collected, Makes}
use Rattle.ve_lists.specs.declared.brackets.ListStart.{ListStart}

-- the fault tells of the cause for which the model refuses the move, or of want of memory
abbrev pub IsListRefusal : ListFault → Result Transaction ListCause → Type 0
IsListRefusal fault meant = (fault ≡ Memory) ⊎ ((cause : ListCause) × (meant ≡ Err cause) × (fault ≡ list_fault cause))

-- an indented item joins the list that ends the item before it, or a new list of the kind there
abbrev pub joining : ℕ → Kind → List PlainItem → Edit
joining at kind items =
    if passes_before (is_closing_of kind) items (at - 1)
    then Change (at - 2) 2 []
    else Change (at - 1) 1 (opening_of kind [] ∷ [])

-- The edit, which is given of the list by value, is collected first.
abbrev pub BeginsWith : List Item → (List PlainItem → Edit) → Collected → Type 0
BeginsWith items edit c = (values : List Value) → All (CitesWell values) items → Makes values items (edit (plain_list values items) ∷ []) c

-- the list as an open node
abbrev pub open_of : ListStart → Open
open_of list = record { kind = list.kind; from = list.from }

-- the list of an item, where that list stands in a list item; the open nodes are given from the
-- innermost out
abbrev pub nested_in : List Open → Option Open
nested_in (list ∷ outer ∷ others) = if kind_same outer.kind Li then Some list else None
nested_in _ = None

-- the item is taken out of this list
abbrev pub outdent_edits : List PlainItem → ℕ → Open → List Edit
outdent_edits items at list = end_before at list ∷ begin_after items (partner items at) list ∷ []

-- Over the store and what follows it, the transaction takes the item of the page out of the list.
abbrev pub MovesOut : List Value → Following → List PlainItem → ℕ → Open → List Operation → Type 0
MovesOut store new items at list tx = by_value (together store new) tx ≡ transaction_of items (outdent_edits items at list)
