-- Preconditions of each call on a tree.
use Rattle.std.specs.Prelude.{◌≤◌, ℕ, List, length}
use Rattle.model_items.specs.declared.plain_item.PlainItem.{PlainItem}
use Rattle.ve_arena.specs.declared.node.NodeId.{NodeId}
use Rattle.ve_tree.specs.declared.tree.Tree.{Tree}
use Rattle.ve_tree.specs.IsTree.{IsTree}
use Rattle.ve_tree.specs.Landmarks.{AreLandmarks}
use Rattle.ve_tree.specs.Places.{IsInTree}

-- Its linked nodes are the tree of the list, and its landmarks are where they are said to be.
pub record IsTreeOf (t : Tree) (items : List PlainItem) : Type 0 where
  pub links : IsTree t.arena.slots t.root items
  pub landmarks : AreLandmarks t.arena.slots t.root t.landmarks

-- it is the tree of some list, and the offset is one of that list
pub record HasOffset (t : Tree) (o : ℕ) : Type 0 where
  pub items : List PlainItem
  pub tree_of : IsTreeOf t items
  pub within : o ≤ length items

-- it is the tree of some list, and the node is one of its nodes
pub record HasNode (t : Tree) (n : NodeId) : Type 0 where
  pub node : IsInTree t.arena.slots t.root n
  pub landmarks : AreLandmarks t.arena.slots t.root t.landmarks
