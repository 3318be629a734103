-- The edits of a conversion.
use Rattle.std.specs.Prelude.{◌≡◌, ℕ, Bool, true, List, [], ◌∷◌, Some, slice_get}
use Rattle.ve_base.specs.declared.value.Value.{Value}
use Rattle.ve_kinds.specs.declared.kind.Kind.{Kind}
use Rattle.ve_kinds.specs.Table.{is_content_branch}
use Rattle.model_items.specs.declared.item.Item.{Item}
use Rattle.model_items.specs.declared.plain_item.PlainItem.{PlainItem}
use Rattle.model_items.specs.Offsets.{partner, passes}
use Rattle.model_items.specs.Plain.{plain}
use Rattle.model_edit.specs.Brackets.{closing_of}
use Rattle.model_edit.specs.Convert.{opens_kind, converted}
use Rattle.model_edit.specs.Edits.{Edit, Change}

-- a branch of content begins at the position
abbrev pub begins_branch : List PlainItem → ℕ → Bool
begins_branch items at = passes (opens_kind is_content_branch) (slice_get items at)

-- both of its brackets get the kind
abbrev pub conversion : ℕ → Kind → List PlainItem → List Edit
conversion at kind items =
    Change at 1 (converted kind (slice_get items at)) ∷ Change (partner items at) 1 (closing_of kind ∷ []) ∷ []

-- Where the first item opens a branch of content, the second is its opening with the kind, over
-- every list of values.
abbrev pub HasKind : Item → Kind → Item → Type 0
HasKind item kind new =
    (values : List Value) → opens_kind is_content_branch (plain values item) ≡ true → plain values new ∷ [] ≡ converted kind (Some (plain values item))
