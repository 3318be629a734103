-- Preconditions of each call on a borrowed page.
use Rattle.std.specs.Prelude.{List}
use Rattle.model_items.specs.declared.plain_item.PlainItem.{PlainItem}
use Rattle.model_items.specs.Plain.{plain_list}
use Rattle.ve_offsets.specs.declared.doc.Doc.{Doc}
use Rattle.ve_tree.specs.IsTree.{unvalued}
use Rattle.ve_tree.specs.TreeOf.{IsTreeOf}

-- its tree is the list's
abbrev pub IsDoc : Doc → Type 0
IsDoc doc = IsTreeOf doc.tree.now (unvalued doc.list.now.items)

-- its items by value
abbrev pub page_items : Doc → List PlainItem
page_items doc = plain_list doc.store.now doc.list.now.items
