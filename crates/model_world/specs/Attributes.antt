-- Attributes, marks and kinds, as a line writes them.
use Rattle.std.specs.Option.{option_or}
use Rattle.std.specs.Prelude.{ℕ, Bool, true, false, not, ◌&&◌, ◌||◌, nat_le, List, [], ◌∷◌, length, codes, Option, Some, option_and_then}
use Rattle.std.specs.List.{list_any}
use Rattle.ve_base.specs.Limits.{max_marks}
use Rattle.serde_json.specs.Data.{Data}
use Rattle.serde_json.specs.Find.{as_str, as_object}
use Rattle.ve_kinds.specs.declared.kind.Kind.{Kind}
use Rattle.ve_kinds.specs.declared.kind.Kind.TheVariants.{Br, Img, Ref, TransBlock, TransInline, AlienBlock, AlienInline}
use Rattle.ve_kinds.specs.Table.{kind_same}
use Rattle.ve_kinds.specs.Tags.{kind_of_tag}
use Rattle.ve_base.specs.declared.attrs.Attr.{Attr}
use Rattle.ve_base.specs.declared.marks.Mark.{Mark}
use Rattle.model_items.specs.Same.{text_same}
use Rattle.model_change.specs.Attributes.{is_reserved}
use Rattle.model_spelling.specs.Grammar.{begins_with, is_attr_name}
use Rattle.model_page.specs.Elements.{words_of}
use Rattle.model_page.specs.Tags.{is_annotation_tag}
use Rattle.model_edit.specs.declared.wrap_plan.Shape.{Shape}
use Rattle.model_world.specs.Values.{◌>>=◌, such_that, text_in, list_in, pair_in, member_in, member_or, word_in}

-- ---- attributes

abbrev pub name_in : Data → Option (List ℕ)
name_in json = such_that is_attr_name (text_in json)

-- `[name, value]`
abbrev pub attr_in : Data → Option Attr
attr_in json = do
  pair ← pair_in json
  name ← name_in pair.0
  value ← text_in pair.1
  Some (record { name = name; value = value })

-- no two have one name
abbrev pub are_apart : List Attr → Bool
are_apart [] = true
are_apart (a ∷ attrs) = not (list_any (λ (b : Attr). text_same a.name b.name) attrs) && are_apart attrs

-- a list of attributes with distinct names
abbrev pub attrs_in : Data → Option (List Attr)
attrs_in json = such_that are_apart (list_in attr_in json)

-- none has the name `about` or `typeof`
abbrev pub are_free : List Attr → Bool
are_free attrs = not (list_any (λ (a : Attr). is_reserved a.name) attrs)

abbrev pub free_attrs_in : Data → Option (List Attr)
free_attrs_in json = such_that are_free (attrs_in json)

-- it says that an element is kept whole: an `about`, or a `typeof` with a word that begins `mw:`
abbrev pub holds_whole : Attr → Bool
holds_whole a =
    text_same a.name (codes "about")
    || (text_same a.name (codes "typeof") && list_any (begins_with (codes "mw:")) (words_of a.value))

-- those that an item may have: where it stands for an item that was shown, no name is barred
abbrev pub are_allowed : (exact : Bool) → List Attr → Bool
are_allowed true attrs = not (list_any holds_whole attrs)
are_allowed false attrs = are_free attrs

abbrev pub allowed_attrs_in : (exact : Bool) → Data → Option (List Attr)
allowed_attrs_in exact json = such_that (are_allowed exact) (attrs_in json)

-- ---- marks

abbrev pub is_mark : (exact : Bool) → Mark → Bool
is_mark exact m = is_annotation_tag m.tag && are_allowed exact m.attrs

-- `[tag, attributes]`
abbrev pub mark_in : (exact : Bool) → Data → Option Mark
mark_in exact json = do
  pair ← pair_in json
  tag ← text_in pair.0
  attrs ← attrs_in pair.1
  such_that (is_mark exact) (Some (record { tag = tag; attrs = attrs }))

-- no more marks than an item may have
abbrev pub marks_in : (exact : Bool) → Data → Option (List Mark)
marks_in exact json = such_that (λ marks. nat_le (length marks) max_marks) (list_in (mark_in exact) json)

-- ---- kinds

-- the kind of an element, by its tag
abbrev pub element_in : Data → Option Kind
element_in json = option_and_then kind_of_tag (as_str json)

-- kinds that no tag spells, by their names
abbrev pub leaf_kinds : List (List ℕ × Kind)
leaf_kinds =
    (codes "trans_block", TransBlock)
    ∷ (codes "alien_block", AlienBlock)
    ∷ (codes "ref", Ref)
    ∷ (codes "trans_inline", TransInline)
    ∷ (codes "alien_inline", AlienInline)
    ∷ []

-- the kind of an item: where it stands for one that was shown, any but the root, the internal list
-- and its items
abbrev pub kind_in : (exact : Bool) → Data → Option Kind
kind_in true json = option_or (word_in leaf_kinds json) (element_in json)
kind_in false json = element_in json

-- other than br and img
abbrev pub branch_in : Data → Option Kind
branch_in json = such_that (λ kind. not (kind_same kind Br || kind_same kind Img)) (element_in json)

abbrev pub kinds_in : Data → Option (List Kind)
kinds_in = list_in branch_in

-- `{"kind":kind,"attrs":attributes}`; the attributes may be absent
abbrev pub shape_in : Data → Option Shape
shape_in json = do
  members ← as_object json
  kind ← member_in (codes "kind") branch_in members
  attrs ← member_or (codes "attrs") [] free_attrs_in members
  Some (record { kind = kind; attrs = attrs })

abbrev pub shapes_in : Data → Option (List Shape)
shapes_in = list_in shape_in
