-- Lists whose references can be written and can carry a body: each has its key and an editable
-- `data-mw`, and each internal item has its key.
use Rattle.std.specs.Prelude.{ℕ, Bool, true, ◌&&◌, List, [], ◌∷◌, Option, Some, None, is_some, if◌then◌else◌, codes, bytes_eq, encode_utf8_all, option_and_then}
use Rattle.std.specs.List.{list_all}
use Rattle.ve_base.specs.declared.attrs.Attr.{Attr}
use Rattle.ve_base.specs.declared.head.Head.{Head}
use Rattle.ve_kinds.specs.declared.kind.Kind.{Kind}
use Rattle.ve_kinds.specs.declared.kind.Kind.TheVariants.{Ref, InternalItem}
use Rattle.ve_kinds.specs.Table.{kind_same}
use Rattle.model_items.specs.declared.plain_item.PlainItem.{PlainItem}
use Rattle.model_items.specs.declared.plain_item.PlainItem.TheVariants.{Char, Opening, Closing}
use Rattle.model_page.specs.DataMw.{reference_of}

-- the bytes of the `data-mw` among the attributes of a head
abbrev pub data_mw : List Attr → Option (List ℕ)
data_mw [] = None
data_mw (a ∷ attrs) = if bytes_eq (encode_utf8_all a.name) (codes "data-mw") then Some (encode_utf8_all a.value) else data_mw attrs

abbrev pub is_editable_ref : Head → Bool
is_editable_ref head = is_some head.reference && is_some (option_and_then reference_of (data_mw head.attrs))

abbrev pub head_refers : Kind → Head → Bool
head_refers kind head =
    if kind_same kind Ref then is_editable_ref head else (if kind_same kind InternalItem then is_some head.reference else true)

abbrev pub item_refers : PlainItem → Bool
item_refers (Char c marks) = true
item_refers (Opening kind head marks pre origin generated) = head_refers kind head
item_refers (Closing kind pre) = true

-- each item of the list
abbrev pub all_refer : List PlainItem → Bool
all_refer items = list_all item_refers items
