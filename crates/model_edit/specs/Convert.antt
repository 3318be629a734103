-- A content branch given another kind, and an attribute set.
use Rattle.std.specs.Prelude.{ℕ, Bool, false, ◌&&◌, if◌then◌else◌, List, [], ◌∷◌, slice_get, Option, Some, None, Result, Ok, Err}
use Rattle.ve_kinds.specs.declared.kind.Kind.{Kind}
use Rattle.model_items.specs.declared.plain_item.PlainItem.{PlainItem}
use Rattle.model_items.specs.declared.plain_item.PlainItem.TheVariants.{Opening}
use Rattle.ve_kinds.specs.Table.{is_content_branch, is_element}
use Rattle.model_change.specs.Attributes.{is_reserved}
use Rattle.model_change.specs.Transaction.{Transaction}
use Rattle.model_edit.specs.Causes.{BuildCause, NotBranch, NotOpening, BadAttr}
use Rattle.model_edit.specs.Brackets.{closing_of}
use Rattle.model_items.specs.Offsets.{partner, passes}
use Rattle.model_edit.specs.Edits.{Change, Set, transaction_of}

abbrev pub opens_kind : (Kind → Bool) → PlainItem → Bool
opens_kind test (Opening kind head marks pre origin generated) = test kind
opens_kind test _ = false

-- an opening of the kind, with the attributes and the whitespace before it
abbrev pub converted : Kind → Option PlainItem → List PlainItem
converted kind (Some (Opening old head marks pre origin generated)) = Opening kind head marks pre None false ∷ []
converted kind _ = []

abbrev pub convert : List PlainItem → ℕ → Kind → Result Transaction BuildCause
convert items at kind =
    if passes (opens_kind is_content_branch) (slice_get items at) && is_content_branch kind
    then Ok (transaction_of items
    (Change at 1 (converted kind (slice_get items at)) ∷ Change (partner items at) 1 (closing_of kind ∷ []) ∷ []))
    else Err (NotBranch at)

abbrev pub attribute : List PlainItem → ℕ → List ℕ → Option (List ℕ) → Result Transaction BuildCause
attribute items at name to =
    if passes (opens_kind is_element) (slice_get items at)
    then (if is_reserved name then Err (BadAttr at) else Ok (transaction_of items (Set at name to ∷ [])))
    else Err (NotOpening at)
