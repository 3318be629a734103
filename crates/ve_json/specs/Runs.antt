-- The run or the item that is shown first.
use Rattle.std.specs.Prelude.{◌≡◌, ◌<◌, ◌≤◌, ℕ, ◌+◌, if◌then◌else◌, List, [], ◌∷◌, ◌++◌, length, take, drop, Option, Some, None, option_and_then, slice_get}
use Rattle.serde_json.specs.Data.{Data, object}
use Rattle.serde_json.specs.Written.{compact_text}
use Rattle.ve_base.specs.declared.marks.Mark.{Mark}
use Rattle.ve_base.specs.declared.value.Value.{Value}
use Rattle.model_items.specs.declared.item.Item.{Item}
use Rattle.model_items.specs.Plain.{plain_list}
use Rattle.model_items.specs.declared.plain_item.PlainItem.{PlainItem}
use Rattle.model_items.specs.declared.plain_item.PlainItem.TheVariants.{Char, Opening, Closing}
use Rattle.model_items.specs.Same.{marks_same}
use Rattle.model_edit.specs.Insert.{text_pieces}
use Rattle.model_world.specs.Shown.{all_shown, closing_shown, opening_shown, as_shown}
use Rattle.ve_json.specs.declared.brackets.OpeningParts.{OpeningParts}
use Rattle.ve_json.specs.ReplyMembers.{opening_json}

-- the items before a position, by value
abbrev pub plain_before : ℕ → List Value → List Item → List PlainItem
plain_before to values items = take to (plain_list values items)

-- an opening, as it is borrowed
abbrev pub lent_opening_json : OpeningParts → List ℕ
lent_opening_json o = opening_json o.kind o.head.now o.marks.now o.pre.now o.origin o.generated

-- the character that an item is, where it has these marks
abbrev pub char_with : List Mark → PlainItem → Option ℕ
char_with marks (Char c others) = if marks_same others marks then Some c else None
char_with marks (Opening kind head others pre origin generated) = None
char_with marks (Closing kind pre) = None

-- a bracket as JSON; nothing of a character
abbrev pub bracket_json : PlainItem → List ℕ
bracket_json (Char c marks) = []
bracket_json (Opening kind head marks pre origin generated) = compact_text (object (opening_shown kind head marks pre origin generated))
bracket_json (Closing kind pre) = compact_text (object (closing_shown kind pre))

-- From a position up to an end these characters stand with these marks, and none with them at the
-- end.
pub record IsMarkedRun (items : List PlainItem) (marks : List Mark) (at end : ℕ) (text : List ℕ) : Type 0 where
  pub within : end ≤ length items
  pub run : drop at items ≡ text_pieces marks text ++ drop end items
  pub count : at + length text ≡ end
  pub stops : option_and_then (char_with marks) (slice_get items end) ≡ None

-- The added text is that of the run or the item shown first of the items from a position on. The
-- rest is shown from an end on.
pub record AddsFirst (items : List PlainItem) (at end : ℕ) (old new : List ℕ) : Type 0 where
  pub first : Data
  pub on : at < end
  pub within : end ≤ length items
  pub all : all_shown (as_shown (drop at items)) ≡ first ∷ all_shown (as_shown (drop end items))
  pub text_is : new ≡ old ++ compact_text first
