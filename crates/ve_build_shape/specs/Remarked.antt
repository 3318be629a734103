-- Marks set on the items of a range, or taken off them.
use Rattle.std.specs.Prelude.{◌≡◌, ◌≤◌, ℕ, Bool, true, false, if◌then◌else◌, List, [], ◌∷◌, Option, Some, None, Result, Ok, slice_get, flat_map}
use Rattle.ve_base.specs.declared.marks.Mark.{Mark}
use Rattle.ve_base.specs.declared.value.Value.{Value}
use Rattle.ve_base.specs.declared.value.ValueId.{ValueId}
use Rattle.model_items.specs.declared.item.Item.{Item}
use Rattle.model_items.specs.declared.plain_item.PlainItem.{PlainItem}
use Rattle.model_items.specs.Marks.{with_mark, without_mark}
use Rattle.model_items.specs.Offsets.{places_in}
use Rattle.model_items.specs.Plain.{plain, plain_list, CitesMarks, CitesWell}
use Rattle.model_items.specs.Same.{marks_same}
use Rattle.model_change.specs.Store.{fill, marks_cited, cited_by, cited}
use Rattle.model_change.specs.Transaction.{Transaction}
use Rattle.model_edit.specs.Causes.{BuildCause}
use Rattle.model_edit.specs.Edits.{Edit}
use Rattle.model_edit.specs.Insert.{is_content_item}
use Rattle.model_edit.specs.Marking.{remarked, item_marks, remark_edit}
use Rattle.ve_edits.specs.Collected.{Collected, Makes}
use Rattle.ve_store.specs.Following.{Following, Grows, together, marks_at}
use Rattle.ve_tx.specs.Operation.{Operation, by_value}
use Rattle.ve_build_shape.specs.declared.changes.MarksChange.{MarksChange}
use Rattle.ve_build_shape.specs.declared.changes.Remark.{Remark}
use Rattle.ve_build_shape.specs.declared.changes.Remark.TheVariants.{Set, TakeOff}

-- the marks of an item after it
abbrev pub marks_after : Remark → Mark → List Mark → List Mark
marks_after Set mark = with_mark mark
marks_after TakeOff mark = without_mark mark

-- the cited number is that of the item's marks, over every list of values
abbrev pub CitesItsMarks : Item → Option ValueId → Type 0
CitesItsMarks item id = (values : List Value) → (marks_at values id ≡ item_marks (plain values item)) × (CitesWell values item → CitesMarks values id)

-- The second item is the first with these marks, where it may have some.
abbrev pub HasMarks : Item → Option ValueId → Item → Type 0
HasMarks item marks new =
    (values : List Value) → is_content_item (plain values item) ≡ true →
    (plain values new ≡ remarked (λ old. marks_at values marks) (plain values item)) × (CitesWell values item → CitesMarks values marks → CitesWell values new)

-- the item's marks stay as they are
abbrev pub keeps_marks : (List Mark → List Mark) → PlainItem → Bool
keeps_marks f item = marks_same (item_marks (remarked f item)) (item_marks item)

-- the new values are the old ones filled with what these marks cite
abbrev pub IsMarksFilled : List Value → (old new : Following) → List Mark → Type 0
IsMarksFilled store old new marks = together store new ≡ fill (together store old) (marks_cited marks)

-- What is cited afterwards are the marks that f makes of those before, and the same number where
-- these stay.
pub record IsMarksChange (values : List Value) (f : List Mark → List Mark) (change : MarksChange) : Type 0 where
  pub cites : CitesMarks values change.after
  pub made : marks_at values change.after ≡ f (marks_at values change.before)
  pub stays : marks_same (f (marks_at values change.before)) (marks_at values change.before) ≡ true → change.before ≡ change.after

-- It is the change of the marks that are cited, and the values that it needs have come.
pub record IsChangeOf (store : List Value) (f : List Mark → List Mark) (old new : Following) (marks : Option ValueId) (change : MarksChange) : Type 0 where
  pub before : change.before ≡ marks
  pub holds : IsMarksChange (together store new) f change
  pub filled : IsMarksFilled store old new (f (marks_at (together store old) marks))

-- The other item is this one with its marks changed, and the values that it cites have come.
pub record Replaces (store : List Value) (f : List Mark → List Mark) (old new : Following) (item other : Item) : Type 0 where
  pub changes : keeps_marks f (plain store item) ≡ false
  pub means : plain (together store new) other ≡ remarked f (plain store item)
  pub cites : CitesWell (together store new) other
  pub filled : together store new ≡ fill (together store old) (cited_by (remarked f (plain store item)))

-- what comes in an item's place; where its marks stay, nothing, and no value comes
abbrev pub Remarks : List Value → (List Mark → List Mark) → (old new : Following) → Item → Option Item → Type 0
Remarks store f old new item None = (keeps_marks f (plain store item) ≡ true) × (together store new ≡ together store old)
Remarks store f old new item (Some other) = Replaces store f old new item other

-- the transaction is, by value, the one that is meant
abbrev pub IsMeant : List Value → Following → Result Transaction BuildCause → List Operation → Type 0
IsMeant store new meant tx = meant ≡ Ok (by_value (together store new) tx)

-- the edits of the positions of a range
abbrev pub remark_edits : (List Mark → List Mark) → List PlainItem → ℕ → ℕ → List Edit
remark_edits f items from to = flat_map (λ at. remark_edit f at (slice_get items at)) (places_in from to)

-- the items that they insert
abbrev pub remarked_item : (List Mark → List Mark) → Option PlainItem → List PlainItem
remarked_item f None = []
remarked_item f (Some item) = if keeps_marks f item then [] else remarked f item ∷ []

abbrev pub remarked_items : (List Mark → List Mark) → List PlainItem → ℕ → ℕ → List PlainItem
remarked_items f items from to = flat_map (λ at. remarked_item f (slice_get items at)) (places_in from to)

-- The edits of a page's items from a position up to another are collected, and the values that they
-- cite have come after the first ones.
pub record IsRemarked (store : List Value) (items : List Item) (f : List Mark → List Mark) (from at : ℕ) (start new : Following) (c : Collected) : Type 0 where
  pub order : c.at ≤ at
  pub grown : Grows start new
  pub makes : Makes (together store new) items (remark_edits f (plain_list store items) from at) c
  pub filled : together store new ≡ fill (together store start) (cited (remarked_items f (plain_list store items) from at))
