-- A list of which no node is kept is written fresh, and so is the range of all items.
use Rattle.std.specs.Prelude.{◌≡◌, List, ◌++◌, length, take, drop, None}
use Rattle.model_items.specs.declared.plain_item.PlainItem.{PlainItem}
use Rattle.model_page.specs.PageItems.{Opened}
use Rattle.model_page_write.specs.Nodes.{Nodes, Empty, Letter, Node, node_items, carried_nodes, carried_items}
use Rattle.model_page_write.specs.Written.{Writer}
use Rattle.model_page_write.specs.PageText.{fresh, page_writer, write}
use Rattle.model_page_write.specs.Range.{fresh_range}

-- the writer has original bytes for none of the nodes
abbrev pub KeepsNoneOf : Writer → Nodes → Type 0
KeepsNoneOf w Empty = Unit {0}
KeepsNoneOf w (Letter c marks later) = KeepsNoneOf w later
KeepsNoneOf w (Node s inside pre later) = (w.original s (node_items s inside pre) ≡ None) × KeepsNoneOf w inside × KeepsNoneOf w later

-- The page is then its prefix, the fresh text and its suffix, whatever the list holds.
abbrev pub WritesFresh : Type 0
WritesFresh = (o : Opened) (items : List PlainItem) → KeepsNoneOf (page_writer o) (carried_nodes (carried_items items)) →
    write o items ≡ take o.body.from o.page ++ fresh items ++ drop o.body.to o.page

-- The range of all items is written as the list is.
abbrev pub WholeRangeIsFresh : Type 0
WholeRangeIsFresh = (items : List PlainItem) → fresh_range items 0 (length items) ≡ fresh items
