-- Where an offset lies in a tree: the innermost node round it, and the child of that node which
-- comes next.
use Rattle.std.specs.Prelude.{◌≡◌, ◌<◌, ◌+◌, ℕ, Option, Some, None, List, Contains}
use Rattle.model_items.specs.declared.plain_item.PlainItem.{PlainItem}
use Rattle.model_items.specs.Tree.{node_at}
use Rattle.ve_arena.specs.declared.node.NodeId.{NodeId}
use Rattle.ve_arena.specs.declared.node.NodeWhat.{NodeWhat}
use Rattle.ve_arena.specs.declared.node.NodeWhat.TheVariants as what
use Rattle.ve_arena.specs.declared.node.ArenaNode.{ArenaNode}
use Rattle.ve_tree.specs.declared.lookup.Spot.{Spot}
use Rattle.ve_tree.specs.IsTree.{IsTree}
use Rattle.ve_tree.specs.Places.{tree_places, IsNodeAt}

-- the child of a node begins `left` items before the offset, and ends after it; a child that is no
-- run begins at the offset
pub record IsChildThere {slots : List (Option ArenaNode)} {root : NodeId} {items : List PlainItem} (tree : IsTree slots root items) (o : ℕ) (n child : NodeId) (left : ℕ) : Type 0 where
  pub sort : NodeWhat
  pub from : ℕ
  pub to : ℕ
  pub listed : Contains (tree_places tree) (record { number = child.0; parent = Some n.0; sort = sort; from = from; to = to })
  pub begins : from + left ≡ o
  pub ends : o < to
  pub inside : 0 < left → sort ≡ what.Run

-- how many items a node has after those inside it: its closing, and the root none
abbrev pub closing_length : Option ℕ → ℕ
closing_length None = 0
closing_length (Some parent) = 1

-- nothing inside the node stands after the offset
pub record IsAtEnd {slots : List (Option ArenaNode)} {root : NodeId} {items : List PlainItem} (tree : IsTree slots root items) (o : ℕ) (n : NodeId) : Type 0 where
  pub parent : Option ℕ
  pub sort : NodeWhat
  pub from : ℕ
  pub to : ℕ
  pub listed : Contains (tree_places tree) (record { number = n.0; parent = parent; sort = sort; from = from; to = to })
  pub ends : o + closing_length parent ≡ to

-- the node's child at the offset or next after it; none at the end of what is inside
abbrev pub IsNext : {slots : List (Option ArenaNode)} {root : NodeId} {items : List PlainItem} → IsTree slots root items → ℕ → NodeId → Option NodeId → ℕ → Type 0
IsNext tree o n None left = IsAtEnd tree o n × (left ≡ 0)
IsNext tree o n (Some child) left = IsChildThere tree o n child left

-- the innermost node round the offset, and its child there
pub record IsSpot {slots : List (Option ArenaNode)} {root : NodeId} {items : List PlainItem} (tree : IsTree slots root items) (o : ℕ) (spot : Spot) : Type 0 where
  pub node : IsNodeAt tree spot.node (node_at items o)
  pub next : IsNext tree o spot.node spot.next spot.left

-- the spot of an offset, in every list that the linked nodes are the tree of
abbrev pub IsSpotOf : List (Option ArenaNode) → NodeId → ℕ → Spot → Type 0
IsSpotOf slots root o spot = (items : List PlainItem) (tree : IsTree slots root items) → IsSpot tree o spot
