-- Replies show items as lines may write them: items with nothing but what a line can say are shown
-- so that they are read back.
use Rattle.std.specs.Prelude.{◌≡◌, ℕ, Bool, true, false, nat_le, List, [], ◌∷◌, length, encode_utf8_all, Some, None}
use Rattle.std.specs.List.{AllByRecursion, list_any}
use Rattle.std.specs.Str.{all_scalars}
use Rattle.ve_base.specs.Limits.{max_marks}
use Rattle.model_spelling.specs.Grammar.{is_barred, is_attr_name}
use Rattle.ve_kinds.specs.Table.{is_element}
use Rattle.ve_base.specs.declared.attrs.Attr.{Attr}
use Rattle.ve_base.specs.declared.marks.Mark.{Mark}
use Rattle.ve_base.specs.declared.head.Head.{Head}
use Rattle.model_items.specs.declared.plain_item.PlainItem.{PlainItem}
use Rattle.model_items.specs.declared.plain_item.PlainItem.TheVariants.{Char, Opening, Closing}
use Rattle.model_page.specs.Elements.{is_white}
use Rattle.model_world.specs.Attributes.{are_apart, are_free, is_mark}
use Rattle.model_world.specs.ItemWords.{may_open, may_close, all_items_in}
use Rattle.model_world.specs.Shown.{items_shown}

-- characters, and neither U+0000 nor U+000D
pub record IsText (text : List ℕ) : Type 0 where
  pub scalars : all_scalars text ≡ true
  pub free : list_any is_barred (encode_utf8_all text) ≡ false

pub record IsAttr (a : Attr) : Type 0 where
  pub name : IsText a.name
  pub named : is_attr_name a.name ≡ true
  pub value : IsText a.value

pub record AreAttrs (attrs : List Attr) : Type 0 where
  pub each : AllByRecursion IsAttr attrs
  pub apart : are_apart attrs ≡ true

pub record IsMark (exact : Bool) (m : Mark) : Type 0 where
  pub tag : IsText m.tag
  pub attrs : AreAttrs m.attrs
  pub mark : is_mark exact m ≡ true

pub record AreMarks (exact : Bool) (marks : List Mark) : Type 0 where
  pub each : AllByRecursion (IsMark exact) marks
  pub few : nat_le (length marks) max_marks ≡ true

pub record IsWhite (pre : List ℕ) : Type 0 where
  pub text : IsText pre
  pub white : is_white pre ≡ true

-- attributes and nothing else
abbrev pub plain_head : List Attr → Head
plain_head attrs = record { tag = []; attrs = attrs; raw = []; reference = None; owner = false }

-- an item that a line can write: it has no origin and is not generated
abbrev pub CanWrite : PlainItem → Type 0
CanWrite (Char c marks) = IsText (c ∷ []) × AreMarks false marks
CanWrite (Opening kind head marks pre origin generated) =
    (is_element kind ≡ true) × (head ≡ plain_head head.attrs) × AreAttrs head.attrs × (are_free head.attrs ≡ true) × AreMarks false marks × IsWhite pre
    × (may_open kind marks pre ≡ true) × (origin ≡ None) × (generated ≡ false)
CanWrite (Closing kind pre) = (is_element kind ≡ true) × IsWhite pre × (may_close kind pre ≡ true)

abbrev pub ShownIsRead : Type 0
ShownIsRead = (items : List PlainItem) → AllByRecursion CanWrite items → all_items_in false (items_shown items) ≡ Some items
