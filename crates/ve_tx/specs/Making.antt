-- A change of a list as it is made along the operations.
use Rattle.std.specs.Prelude.{◌≡◌, ℕ, List, [], ◌∷◌, ◌++◌, All, take, drop, Option, Some, None}
use Rattle.ve_base.specs.declared.head.Head.{Head}
use Rattle.ve_base.specs.declared.value.Value.{Value}
use Rattle.ve_base.specs.declared.value.ValueId.{ValueId}
use Rattle.model_items.specs.declared.item.Item.{Item}
use Rattle.model_items.specs.declared.plain_item.PlainItem.{PlainItem}
use Rattle.model_items.specs.declared.plain_item.PlainItem.TheVariants.{Char, Opening, Closing}
use Rattle.model_items.specs.Plain.{plain, plain_list, head_in, value_at, CitesWell}
use Rattle.model_change.specs.Attributes.{AttrChange, item_changed}
use Rattle.ve_tx.specs.declared.splice.Splice.{Splice}

-- the second list is the first with more after it
abbrev pub Extends : List Value → List Value → Type 0
Extends old new = (more : List Value) × (new ≡ old ++ more)

-- an opening with this head, if there is one
abbrev pub item_with_head : Option Head → PlainItem → PlainItem
item_with_head None item = item
item_with_head (Some head) (Opening kind other marks pre origin generated) = Opening kind head marks pre origin generated
item_with_head (Some head) (Char ch marks) = Char ch marks
item_with_head (Some head) (Closing kind pre) = Closing kind pre

-- of the first item
abbrev pub first_headed : Option Head → List PlainItem → List PlainItem
first_headed head [] = []
first_headed head (item ∷ items) = item_with_head head item ∷ items

-- the items from a position on, the first one with its changed head, where it has one
abbrev pub standing : List PlainItem → ℕ → Option Head → List PlainItem
standing items at head = first_headed head (drop at items)

-- the same of a list over the values that it cites
abbrev pub headed_from : List Value → List Item → ℕ → Option Head → List PlainItem
headed_from values items at head = standing (plain_list values items) at head

abbrev pub IsOpening : PlainItem → Type 0
IsOpening (Opening kind head marks pre origin generated) = Unit {0}
IsOpening (Char ch marks) = ⊥
IsOpening (Closing kind pre) = ⊥

-- where there is a head, it is an opening's
abbrev pub MayHead : Option Head → PlainItem → Type 0
MayHead None item = Unit {0}
MayHead (Some head) item = IsOpening item

-- the second head is the first after a change of its attributes, on whatever item it stands
abbrev pub IsHeadChanged : AttrChange → (old new : Head) → Type 0
IsHeadChanged change old new = (item : PlainItem) → item_with_head (Some new) item ≡ item_changed change (item_with_head (Some old) item)

-- Where the first item is an opening, the second is the same with the head that is cited, whatever
-- the values are.
abbrev pub IsHeaded : Item → Option ValueId → Item → Type 0
IsHeaded item head new = (values : List Value) → IsOpening (plain values item) →
    plain values new ≡ item_with_head (Some (head_in (value_at values head))) (plain values item)

-- The splices after are those before, and where there is a head then one more, which puts it on the
-- opening at the position.
abbrev pub IsSettled : (old new : List Value) → List Item → (at : ℕ) → Option Head → (before after : List Splice) → Type 0
IsSettled old new list at None before after = after ≡ before
IsSettled old new list at (Some head) before after =
    (items : List Item) × (after ≡ before ++ record { at = at; removed = 1; items = items } ∷ []) ×
    All (CitesWell new) items × (plain_list new items ≡ take 1 (headed_from old list at (Some head)))
