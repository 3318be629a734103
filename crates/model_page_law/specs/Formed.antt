-- Lists of the form that reading back speaks of. Each item has a spelling of its own, and nothing
-- is kept whole. br and img are the only leaves, and the internal list is empty. Marks and
-- whitespace stand only where they are written, and no element would be read as one that is kept
-- whole.
use Rattle.std.specs.Prelude.{◌≡◌, ℕ, Bool, true, false, ◌||◌, List, [], ◌∷◌, Option, Some, None, is_some, if◌then◌else◌, codes, bytes_eq, encode_utf8_all}
use Rattle.std.specs.List.{list_any}
use Rattle.std.specs.Str.{all_scalars}
use Rattle.std.specs.Char.{IsScalar}
use Rattle.model_spelling.specs.Grammar.{begins_with, is_attr_name}
use Rattle.ve_kinds.specs.declared.kind.Kind.{Kind}
use Rattle.ve_kinds.specs.declared.kind.Kind.TheVariants.{Br, Img, InternalList, InternalItem}
use Rattle.ve_kinds.specs.Table.{kind_same, is_content_branch, is_leaf}
use Rattle.ve_base.specs.declared.attrs.Attr.{Attr}
use Rattle.ve_base.specs.declared.marks.Mark.{Mark}
use Rattle.ve_base.specs.declared.head.Head.{Head}
use Rattle.model_items.specs.declared.plain_item.PlainItem.{PlainItem}
use Rattle.model_items.specs.declared.plain_item.PlainItem.TheVariants.{Char, Opening, Closing}
use Rattle.model_page.specs.Tags.{is_annotation_tag}
use Rattle.model_page.specs.Elements.{is_white, words_in}

-- ---- attributes, marks and heads

-- the value of the first attribute of this name
abbrev pub value_of_first : List ℕ → List Attr → Option (List ℕ)
value_of_first name [] = None
value_of_first name (a ∷ attrs) = if bytes_eq (encode_utf8_all a.name) name then Some (encode_utf8_all a.value) else value_of_first name attrs

-- there is an `about`, or a word of `typeof` that begins `mw:`
abbrev pub says_held : List Attr → Bool
says_held attrs = is_some (value_of_first (codes "about") attrs) || list_any (begins_with (codes "mw:")) (words_in (value_of_first (codes "typeof") attrs))

-- names and values are characters, and each name may be spelled
abbrev pub AreNamed : List Attr → Type 0
AreNamed [] = Unit {0}
AreNamed (a ∷ attrs) =
    (all_scalars a.name ≡ true) × (all_scalars a.value ≡ true) × (is_attr_name (encode_utf8_all a.name) ≡ true) × AreNamed attrs

pub record ArePlain (attrs : List Attr) : Type 0 where
  pub named : AreNamed attrs
  pub free : says_held attrs ≡ false

pub record IsPlainMark (m : Mark) : Type 0 where
  pub tag : is_annotation_tag (encode_utf8_all m.tag) ≡ true
  pub chars : all_scalars m.tag ≡ true
  pub attrs : ArePlain m.attrs

abbrev pub ArePlainMarks : List Mark → Type 0
ArePlainMarks [] = Unit {0}
ArePlainMarks (m ∷ ms) = IsPlainMark m × ArePlainMarks ms

-- a head that holds attributes alone
pub record IsHead (h : Head) : Type 0 where
  pub alone : h ≡ record { tag = []; attrs = h.attrs; raw = []; reference = None; owner = false }
  pub attrs : ArePlain h.attrs

-- ---- items

-- An opening of a leaf br or img, with characters' marks, or of a branch without marks; there is no
-- internal item.
pub record IsFormedOpening (kind : Kind) (h : Head) (marks : List Mark) (pre : List ℕ) : Type 0 where
  pub head : IsHead h
  pub white : is_white pre ≡ true
  pub leaf : is_leaf kind ≡ true → ((kind_same kind Br || kind_same kind Img) ≡ true) × ArePlainMarks marks × (pre ≡ [])
  pub branch : is_leaf kind ≡ false → marks ≡ []
  pub item : kind_same kind InternalItem ≡ false
  pub list : kind_same kind InternalList ≡ true → h.attrs ≡ []

-- Whitespace stands before no closing of a leaf or a content branch, nor of the internal list.
pub record IsFormedClosing (kind : Kind) (pre : List ℕ) : Type 0 where
  pub white : is_white pre ≡ true
  pub none : (is_leaf kind || is_content_branch kind || kind_same kind InternalList) ≡ true → pre ≡ []

abbrev pub IsFormed : PlainItem → Type 0
IsFormed (Char c marks) = IsScalar c × ArePlainMarks marks
IsFormed (Opening kind head marks pre origin generated) = IsFormedOpening kind head marks pre
IsFormed (Closing kind pre) = IsFormedClosing kind pre

abbrev pub AreFormed : List PlainItem → Type 0
AreFormed [] = Unit {0}
AreFormed (item ∷ items) = IsFormed item × AreFormed items
