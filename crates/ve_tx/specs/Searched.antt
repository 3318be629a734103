-- How the attributes of an opening are searched.
use Rattle.std.specs.Prelude.{◌≡◌, List, [], ◌∷◌}
use Rattle.ve_base.specs.declared.attrs.Attr.{Attr}
use Rattle.model_items.specs.declared.plain_item.PlainItem.{PlainItem}
use Rattle.model_items.specs.declared.plain_item.PlainItem.TheVariants.{Char, Opening, Closing}
use Rattle.ve_tx.specs.declared.lookup.Search.{Search}
use Rattle.ve_tx.specs.declared.lookup.Search.TheVariants.{Walks, Names}

-- a map of names is that of these attributes
abbrev pub SearchesIn : List Attr → Search → Type 0
SearchesIn attrs (Walks more) = Unit {0}
SearchesIn attrs (Names noted) = noted ≡ attrs

-- the attributes of an opening; another item has none
abbrev pub attrs_in : PlainItem → List Attr
attrs_in (Opening kind head marks pre origin generated) = head.attrs
attrs_in (Char ch marks) = []
attrs_in (Closing kind pre) = []

abbrev pub first_attrs : List PlainItem → List Attr
first_attrs [] = []
first_attrs (item ∷ items) = attrs_in item
