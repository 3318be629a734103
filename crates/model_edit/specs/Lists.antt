-- A list item moved one list deeper or one list out.
use Rattle.std.specs.Prelude.{ℕ, zero, suc, ◌-◌, Bool, false, ◌==◌, if◌then◌else◌, List, [], ◌∷◌, slice_get, Option, Some, None, Result, Ok, Err}
use Rattle.ve_kinds.specs.declared.kind.Kind.{Kind}
use Rattle.ve_kinds.specs.declared.kind.Kind.TheVariants.{Li}
use Rattle.model_items.specs.declared.plain_item.PlainItem.{PlainItem}
use Rattle.ve_kinds.specs.Table.{kind_same}
use Rattle.model_items.specs.Tree.{Open}
use Rattle.model_change.specs.Transaction.{Transaction}
use Rattle.model_edit.specs.Brackets.{opening_of, closing_of, copy_of, is_opening_of, is_closing_of}
use Rattle.model_items.specs.Offsets.{opens_at, kind_at, partner, end_of_node, passes}
use Rattle.model_edit.specs.Edits.{Edit, Change, transaction_of}
use Rattle.model_edit.specs.Causes.{ListCause, NotListItem, NoSibling, NotNested}

abbrev pub is_list_item : List PlainItem → ℕ → Bool
is_list_item items at = passes (is_opening_of Li) (slice_get items at)

-- the item just before a position passes the test
abbrev pub passes_before : (PlainItem → Bool) → List PlainItem → ℕ → Bool
passes_before test items zero = false
passes_before test items (suc at) = passes test (slice_get items at)

-- the closings of a list and of the item that it stands in
abbrev pub list_ends : Kind → List PlainItem
list_ends kind = closing_of kind ∷ closing_of Li ∷ []

-- The item joins the list that ends the sibling before it, or a new list there. `kind` is that of
-- the item's own list.
abbrev pub indent_edits : List PlainItem → ℕ → Kind → List Edit
indent_edits items at kind =
    (if passes_before (is_closing_of kind) items (at - 1)
    then Change (at - 2) 2 []
    else Change (at - 1) 1 (opening_of kind [] ∷ []))
    ∷ Change (end_of_node items at) 0 (list_ends kind)
    ∷ []

abbrev pub indent : List PlainItem → ℕ → Result Transaction ListCause
indent items at =
    if is_list_item items at
    then (if passes_before (is_closing_of Li) items at
    then Ok (transaction_of items (indent_edits items at (kind_at items at)))
    else Err (NoSibling at))
    else Err (NotListItem at)

-- an item that is first in its list leaves the outer item without that list; else the list ends
-- before it
abbrev pub end_before : ℕ → Open → Edit
end_before at list =
    if suc list.from == at then Change list.from 1 (closing_of Li ∷ []) else Change at 0 (list_ends list.kind)

abbrev pub copy_at : List PlainItem → ℕ → List PlainItem
copy_at items at = copies (slice_get items at)
  where
    copies : Option PlainItem → List PlainItem
    copies (Some item) = copy_of item ∷ []
    copies None = []

-- an item that is last in its list takes what follows the list; else what follows it becomes a list
-- inside it
abbrev pub begin_after : List PlainItem → (closing : ℕ) → Open → Edit
begin_after items closing list =
    if partner items list.from == suc closing then Change closing 2 [] else Change closing 1 (copy_at items list.from)

-- the open nodes are the item's list, and what that stands in
abbrev pub outdent_from : List PlainItem → ℕ → List Open → Result Transaction ListCause
outdent_from items at (list ∷ outer ∷ others) =
    if kind_same outer.kind Li
    then Ok (transaction_of items (end_before at list ∷ begin_after items (partner items at) list ∷ []))
    else Err (NotNested at)
outdent_from items at _ = Err (NotNested at)

abbrev pub outdent : List PlainItem → ℕ → Result Transaction ListCause
outdent items at = if is_list_item items at then outdent_from items at (opens_at items at) else Err (NotListItem at)
