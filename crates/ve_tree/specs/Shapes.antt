-- Shapes of items: all that a tree reads of its list.
use Rattle.std.specs.Prelude.{◌≡◌, List, map}
use Rattle.model_items.specs.declared.plain_item.PlainItem.{PlainItem}
use Rattle.model_items.specs.Tree.{shape_of}
use Rattle.ve_tree.specs.declared.tree.Tree.{Tree}
use Rattle.ve_tree.specs.TreeOf.{IsTreeOf}

-- A tree is that of every list that differs in what no tree shows: characters, heads, marks,
-- whitespace, origins, the flag generated.
abbrev pub ShapesAreRead : Type 0
ShapesAreRead = (t : Tree) (items others : List PlainItem) → IsTreeOf t items → map shape_of items ≡ map shape_of others → IsTreeOf t others
