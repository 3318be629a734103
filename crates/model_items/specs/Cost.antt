-- How many steps making a list's tree from nothing may take. A step makes a node of a linked tree,
-- lets one go, or writes one field of one.
use Rattle.std.specs.Prelude.{ℕ, ◌+◌, ◌*◌, List}
use Rattle.model_items.specs.declared.plain_item.PlainItem.{PlainItem}
use Rattle.model_items.specs.Tree.{node_count, tree_of}

-- at most eight a node, and sixteen more
abbrev pub cost_of_tree : List PlainItem → ℕ
cost_of_tree items = 8 * (node_count (tree_of items) + 2)
