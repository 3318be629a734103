-- Ways from node to node, by what is left of the list.
use Rattle.std.specs.Prelude.{◌≡◌, ◌<◌, ◌+◌, ℕ, Option, Some, List, Contains, length}
use Rattle.model_items.specs.declared.plain_item.PlainItem.{PlainItem}
use Rattle.ve_arena.specs.declared.node.NodeId.{NodeId}
use Rattle.ve_arena.specs.declared.node.ArenaNode.{ArenaNode}
use Rattle.ve_arena.specs.Arena.{node_under}
use Rattle.ve_tree.specs.IsTree.{IsTree}
use Rattle.ve_tree.specs.Places.{NodePlace, node_places}

-- a node under the root begins `left` items before the offset
pub record BeginsBefore {slots : List (Option ArenaNode)} {root : NodeId} {items : List PlainItem} (tree : IsTree slots root items) (o : ℕ) (n : NodeId) (left : ℕ) : Type 0 where
  pub place : NodePlace
  pub listed : Contains (node_places root.0 0 tree.named) place
  pub number_is : place.number ≡ n.0
  pub sum : place.from + left ≡ o

-- a node under the root ends `left` items before the offset
pub record EndsBefore {slots : List (Option ArenaNode)} {root : NodeId} {items : List PlainItem} (tree : IsTree slots root items) (o : ℕ) (n : NodeId) (left : ℕ) : Type 0 where
  pub place : NodePlace
  pub listed : Contains (node_places root.0 0 tree.named) place
  pub number_is : place.number ≡ n.0
  pub sum : place.to + left ≡ o

-- whatever list the tree is of
abbrev pub IsBefore : List (Option ArenaNode) → NodeId → ℕ → NodeId → ℕ → Type 0
IsBefore slots root o n left = (items : List PlainItem) (tree : IsTree slots root items) → BeginsBefore tree o n left

-- and the offset is the list's end
abbrev pub IsBeforeEnd : List (Option ArenaNode) → NodeId → NodeId → ℕ → Type 0
IsBeforeEnd slots root n left = (items : List PlainItem) (tree : IsTree slots root items) → BeginsBefore tree (length items) n left

abbrev pub EndsBeforeEnd : List (Option ArenaNode) → NodeId → NodeId → ℕ → Type 0
EndsBeforeEnd slots root n left = (items : List PlainItem) (tree : IsTree slots root items) → EndsBefore tree (length items) n left

-- there is a list that the tree is of
pub record IsSomeTree (slots : List (Option ArenaNode)) (root : NodeId) : Type 0 where
  pub items : List PlainItem
  pub tree : IsTree slots root items

-- a node stands under the number, and is longer
pub record IsInside (slots : List (Option ArenaNode)) (n : NodeId) (left : ℕ) : Type 0 where
  pub node : ArenaNode
  pub here : node_under slots n ≡ Some node
  pub longer : left < node.len
