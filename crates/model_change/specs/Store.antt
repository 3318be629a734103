-- The values that items cite, and the list of distinct values that changes fill.
use Rattle.std.specs.Prelude.{◌≡◌, ℕ, ◌≤◌, Bool, true, false, if◌then◌else◌, List, [], ◌∷◌, ◌++◌, length, drop, flat_map, slice_get, Some, Contains, ◌⊎◌, ◌↔◌}
use Rattle.std.specs.List.{list_any}
use Rattle.ve_base.specs.declared.head.Head.{Head}
use Rattle.ve_base.specs.declared.marks.Mark.{Mark}
use Rattle.ve_base.specs.declared.value.Value.{Value}
use Rattle.ve_base.specs.declared.value.Value.TheVariants as value
use Rattle.ve_base.specs.Empty.{empty_head}
use Rattle.model_items.specs.declared.plain_item.PlainItem.{PlainItem}
use Rattle.model_items.specs.declared.plain_item.PlainItem.TheVariants.{Char, Opening, Closing}
use Rattle.model_items.specs.Plain.{AreDistinct}
use Rattle.model_items.specs.Same.{head_same, value_same}
use Rattle.model_change.specs.Attributes.{AttrChange, item_changed}
use Rattle.model_change.specs.Transaction.{Retain, Replace, Attribute, Transaction, on_first, all_inserted, old_length, new_length, edited, is_reduced}

-- empty whitespace cites no value
abbrev pub white_cited : List ℕ → List Value
white_cited [] = []
white_cited (c ∷ cs) = value.White (c ∷ cs) ∷ []

abbrev pub marks_cited : List Mark → List Value
marks_cited [] = []
marks_cited (m ∷ ms) = value.Marks (m ∷ ms) ∷ []

abbrev pub head_cited : Head → List Value
head_cited head = if head_same head empty_head then [] else value.Head head ∷ []

-- in one item the head comes first, then the marks, then the whitespace
abbrev pub cited_by : PlainItem → List Value
cited_by (Char c marks) = marks_cited marks
cited_by (Opening kind head marks pre origin generated) = head_cited head ++ (marks_cited marks ++ white_cited pre)
cited_by (Closing kind pre) = white_cited pre

abbrev pub cited : List PlainItem → List Value
cited items = flat_map cited_by items

-- the value is in the list
abbrev pub holds : List Value → Value → Bool
holds values v = list_any (value_same v) values

-- appended, where it isn't in the list yet
abbrev pub admitted : List Value → Value → List Value
admitted values v = if holds values v then values else values ++ v ∷ []

-- each in turn
abbrev pub fill : List Value → List Value → List Value
fill values [] = values
fill values (v ∷ vs) = fill (admitted values v) vs

-- the head of the first item, where attributes of it were changed
abbrev pub head_if : Bool → List PlainItem → List Value
head_if true (Opening kind head marks pre origin generated ∷ items) = head_cited head
head_if _ _ = []

-- the final heads of the openings that attribute operations change, in the order of the list; the
-- flag says that the first item is such a one
abbrev pub heads_from : Bool → Transaction → List PlainItem → List Value
heads_from changed [] items = head_if changed items
heads_from changed (Retain count ∷ ops) items = head_if changed items ++ heads_from false ops (drop count items)
heads_from changed (Replace removed inserted ∷ ops) items = head_if changed items ++ heads_from false ops (drop (length removed) items)
heads_from changed (Attribute change ∷ ops) items = heads_from true ops (on_first (item_changed change) items)

abbrev pub changed_heads : Transaction → List PlainItem → List Value
changed_heads = heads_from false

-- the values that performing a transaction on a list brings: those that its inserted items cite,
-- and then the changed heads
abbrev pub brought : Transaction → List PlainItem → List Value
brought t items = cited (all_inserted t) ++ changed_heads t items

-- The value is cited by an item that the transaction inserts.
abbrev pub IsInserted : Transaction → Value → Type 0
IsInserted t v = (item : PlainItem) × Contains (all_inserted t) item × Contains (cited_by item) v

-- the values that the head of an item cites
abbrev pub cited_head : PlainItem → List Value
cited_head (Opening kind head marks pre origin generated) = head_cited head
cited_head (Char c marks) = []
cited_head (Closing kind pre) = []

-- The value is the head that an opening has in the new list, of which an attribute operation
-- speaks. It stands after what the operations before that one give.
pub record IsChangedHead (t : Transaction) (items : List PlainItem) (v : Value) : Type 0 where
  pub before : Transaction
  pub change : AttrChange
  pub after : Transaction
  pub parts : t ≡ before ++ Attribute change ∷ after
  pub opening : PlainItem
  pub there : slice_get (edited t items) (new_length before) ≡ Some opening
  pub cites : Contains (cited_head opening) v

-- The changed heads are the heads in the new list of the openings whose attributes it changes, and
-- no others.
abbrev pub HeadsAreChanged : Type 0
HeadsAreChanged = (t : Transaction) (items : List PlainItem) (v : Value) → is_reduced t ≡ true → old_length t ≤ length items →
    Contains (changed_heads t items) v ↔ IsChangedHead t items v

-- A transaction brings the values that its inserted items cite, and these heads, and nothing else.
abbrev pub BroughtIsNew : Type 0
BroughtIsNew = (t : Transaction) (items : List PlainItem) (v : Value) → is_reduced t ≡ true → old_length t ≤ length items →
    Contains (brought t items) v ↔ (IsInserted t v ⊎ IsChangedHead t items v)

-- Filling appends values, each one of those that were to be put in, and then all of these are
-- there; distinct values stay distinct.
pub record IsFilled (values vs filled : List Value) : Type 0 where
  pub appended : List Value
  pub parts : filled ≡ values ++ appended
  pub new : (v : Value) → Contains appended v → Contains vs v
  pub all : (v : Value) → Contains vs v → Contains filled v
  pub distinct : AreDistinct values → AreDistinct filled

abbrev pub FillAppends : Type 0
FillAppends = (values vs : List Value) → IsFilled values vs (fill values vs)
