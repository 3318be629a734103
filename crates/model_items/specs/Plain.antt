-- Items read by value, over the list of values that they cite.
use Rattle.std.specs.Prelude.{◌≡◌, ◌≢◌, ℕ, List, [], map, slice_get, Option, Some, None}
use Rattle.ve_base.specs.declared.marks.Mark.{Mark}
use Rattle.ve_base.specs.declared.head.Head.{Head}
use Rattle.ve_base.specs.declared.value.Value.{Value}
use Rattle.ve_base.specs.declared.value.Value.TheVariants as value
use Rattle.ve_base.specs.declared.value.ValueId.{ValueId}
use Rattle.ve_base.specs.Empty.{empty_head}
use Rattle.model_items.specs.declared.item.Item.{Item}
use Rattle.model_items.specs.declared.item.Item.TheVariants as item
use Rattle.model_items.specs.declared.plain_item.PlainItem.{PlainItem}
use Rattle.model_items.specs.declared.plain_item.PlainItem.TheVariants.{Char, Opening, Closing}

-- the value that is cited, where one is cited and stands in the list
abbrev pub value_at : List Value → Option ValueId → Option Value
value_at values None = None
value_at values (Some id) = slice_get values id.0

-- a value read as a head, as marks or as whitespace; nothing cited, or a value of another sort,
-- gives the empty one
abbrev pub head_in : Option Value → Head
head_in (Some (value.Head head)) = head
head_in _ = empty_head

abbrev pub marks_in : Option Value → List Mark
marks_in (Some (value.Marks marks)) = marks
marks_in _ = []

abbrev pub white_in : Option Value → List ℕ
white_in (Some (value.White text)) = text
white_in _ = []

-- an item by value
abbrev pub plain : List Value → Item → PlainItem
plain values (item.Char ch marks) = Char ch (marks_in (value_at values marks))
plain values (item.Opening kind generated head marks pre origin) =
    Opening kind (head_in (value_at values head)) (marks_in (value_at values marks)) (white_in (value_at values pre)) origin generated
plain values (item.Closing kind pre) = Closing kind (white_in (value_at values pre))

abbrev pub plain_list : List Value → List Item → List PlainItem
plain_list values = map (plain values)

-- nothing is cited, or a value of the right sort that isn't empty
abbrev pub CitesHead : List Value → Option ValueId → Type 0
CitesHead values None = Unit {0}
CitesHead values (Some id) = (head : Head) × (slice_get values id.0 ≡ Some (value.Head head)) × (head ≢ empty_head)

abbrev pub CitesMarks : List Value → Option ValueId → Type 0
CitesMarks values None = Unit {0}
CitesMarks values (Some id) = (marks : List Mark) × (slice_get values id.0 ≡ Some (value.Marks marks)) × (marks ≢ [])

abbrev pub CitesWhite : List Value → Option ValueId → Type 0
CitesWhite values None = Unit {0}
CitesWhite values (Some id) = (text : List ℕ) × (slice_get values id.0 ≡ Some (value.White text)) × (text ≢ [])

-- an item's head cites only heads, its marks only marks and its whitespace only whitespace, and
-- nothing that is empty
abbrev pub CitesWell : List Value → Item → Type 0
CitesWell values (item.Char ch marks) = CitesMarks values marks
CitesWell values (item.Opening kind generated head marks pre origin) =
    CitesHead values head × CitesMarks values marks × CitesWhite values pre
CitesWell values (item.Closing kind pre) = CitesWhite values pre

-- no value stands at two positions
abbrev pub AreDistinct : List Value → Type 0
AreDistinct values = (i j : ℕ) (v : Value) → slice_get values i ≡ Some v → slice_get values j ≡ Some v → i ≡ j

-- Over distinct values, two items that cite well are one item where they are equal by value: so
-- positions may be compared in place of values.
abbrev pub PlainTellsApart : Type 0
PlainTellsApart = (values : List Value) (x y : Item) → AreDistinct values → CitesWell values x → CitesWell values y →
    plain values x ≡ plain values y → x ≡ y
