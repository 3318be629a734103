-- The items that a transaction retains.
use Rattle.std.specs.Prelude.{◌≡◌, ℕ, ◌==◌, if◌then◌else◌, List, [], ◌∷◌, slice_get, Some}
use Rattle.model_items.specs.declared.plain_item.PlainItem.{PlainItem}
use Rattle.model_items.specs.declared.plain_item.PlainItem.TheVariants.{Char, Opening, Closing}
use Rattle.model_change.specs.Attributes.{AttrChange, item_changed}
use Rattle.model_change.specs.Transaction.{Transaction, edited}
use Rattle.model_change.specs.Fault.{placed_changes}
use Rattle.model_change.specs.Touch.{new_place}

-- of changes at positions of the old list, those at one position, in order
abbrev pub changes_at : ℕ → List (ℕ × AttrChange) → List AttrChange
changes_at at [] = []
changes_at at (placed ∷ later) = if placed.0 == at then placed.1 ∷ changes_at at later else changes_at at later

-- an item after changes, made one after the other
abbrev pub all_changed : List AttrChange → PlainItem → PlainItem
all_changed [] item = item
all_changed (change ∷ changes) item = all_changed changes (item_changed change item)

-- an item but for its attributes
abbrev pub without_attrs : PlainItem → PlainItem
without_attrs (Opening kind head marks pre origin generated) =
    Opening
    kind
    (record { tag = head.tag; attrs = []; raw = head.raw; reference = head.reference; owner = head.owner })
    marks
    pre
    origin
    generated
without_attrs (Char ch marks) = Char ch marks
without_attrs (Closing kind pre) = Closing kind pre

-- A retained item stands at its new position, with the transaction's attribute operations of its
-- old position made on it. Nothing else of it changes: a letter stays the letter that it was, with
-- its marks, and an item without such an operation stays itself.
abbrev pub RetainedIsChanged : Type 0
RetainedIsChanged = (t : Transaction) (items : List PlainItem) (at to : ℕ) (old : PlainItem) → new_place t at ≡ Some to →
    slice_get items at ≡ Some old → slice_get (edited t items) to ≡ Some (all_changed (changes_at at (placed_changes 0 t)) old)

-- Attribute operations change attributes alone.
abbrev pub AttributesAloneChange : Type 0
AttributesAloneChange = (changes : List AttrChange) (item : PlainItem) →
    without_attrs (all_changed changes item) ≡ without_attrs item
