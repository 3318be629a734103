-- Shapes and trees: the tree of a list tells the shape of each item, which is its sort and its
-- kind.
use Rattle.std.specs.Prelude.{◌≡◌, List, map}
use Rattle.model_items.specs.declared.plain_item.PlainItem.{PlainItem}
use Rattle.model_items.specs.Law.{Lawful}
use Rattle.model_items.specs.Tree.{shape_of, tree_of}

-- Lawful lists of one tree have one shape at each position,
abbrev pub TreeTellsShapes : Type 0
TreeTellsShapes =
    (items others : List PlainItem) → Lawful items → Lawful others → tree_of items ≡ tree_of others → map shape_of items ≡ map shape_of others

-- and lists of one shape at each position, lawful or not, have one tree.
abbrev pub ShapesTellTree : Type 0
ShapesTellTree = (items others : List PlainItem) → map shape_of items ≡ map shape_of others → tree_of items ≡ tree_of others
