-- The items that builders make, and what they ask of one item.
use Rattle.std.specs.Prelude.{Bool, false, ◌||◌, List, [], codes, None}
use Rattle.ve_kinds.specs.declared.kind.Kind.{Kind}
use Rattle.ve_kinds.specs.declared.kind.Kind.TheVariants.{InternalList, InternalItem}
use Rattle.ve_base.specs.declared.attrs.Attr.{Attr}
use Rattle.model_items.specs.declared.plain_item.PlainItem.{PlainItem}
use Rattle.model_items.specs.declared.plain_item.PlainItem.TheVariants.{Char, Opening, Closing}
use Rattle.ve_kinds.specs.Table.{kind_same}
use Rattle.model_change.specs.Attributes.{attr_removed}

-- an opening with these attributes and nothing else
abbrev pub opening_of : Kind → List Attr → PlainItem
opening_of kind attrs = Opening kind (record { tag = []; attrs = attrs; raw = []; reference = None; owner = false }) [] [] None false

abbrev pub closing_of : Kind → PlainItem
closing_of kind = Closing kind []

-- an opening's kind, with its attributes but for `id`
abbrev pub copy_of : PlainItem → PlainItem
copy_of (Opening kind head marks pre origin generated) = opening_of kind (attr_removed (codes "id") head.attrs)
copy_of (Char c marks) = Char c marks
copy_of (Closing kind pre) = Closing kind pre

-- the closing of what an item opens
abbrev pub closing_for : PlainItem → PlainItem
closing_for (Opening kind head marks pre origin generated) = closing_of kind
closing_for (Char c marks) = Char c marks
closing_for (Closing kind pre) = Closing kind pre

abbrev pub is_opening_of : Kind → PlainItem → Bool
is_opening_of kind (Opening k head marks pre origin generated) = kind_same k kind
is_opening_of kind _ = false

abbrev pub is_closing_of : Kind → PlainItem → Bool
is_closing_of kind (Closing k pre) = kind_same k kind
is_closing_of kind _ = false

-- the internal list or one of its items
abbrev pub is_internal : Kind → Bool
is_internal k = kind_same k InternalList || kind_same k InternalItem

abbrev pub is_internal_bracket : PlainItem → Bool
is_internal_bracket (Char c marks) = false
is_internal_bracket (Opening kind head marks pre origin generated) = is_internal kind
is_internal_bracket (Closing kind pre) = is_internal kind
