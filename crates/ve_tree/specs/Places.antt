-- Where the nodes of a tree stand in its list.
use Rattle.std.specs.Prelude.{◌≡◌, ℕ, suc, ◌+◌, Option, Some, None, List, [], ◌∷◌, ◌++◌, length, Contains, option_map}
use Rattle.ve_kinds.specs.declared.kind.Kind.{Kind}
use Rattle.ve_kinds.specs.declared.kind.Kind.TheVariants.{Root}
use Rattle.model_items.specs.declared.plain_item.PlainItem.{PlainItem}
use Rattle.model_items.specs.Tree.{NodeExtent, item_count, node_at}
use Rattle.ve_arena.specs.declared.node.NodeId.{NodeId}
use Rattle.ve_arena.specs.declared.node.NodeWhat.{NodeWhat}
use Rattle.ve_arena.specs.declared.node.NodeWhat.TheVariants as what
use Rattle.ve_arena.specs.declared.node.ArenaNode.{ArenaNode}
use Rattle.ve_arena.specs.Arena.{node_under}
use Rattle.ve_tree.specs.Named.{Named, NoNode, NamedRun, NamedBranch, unnumbered}
use Rattle.ve_tree.specs.IsTree.{IsTree}

-- a node's number, its parent's, what it is, and the positions of the list where it begins and
-- ends, its brackets included
pub record NodePlace : Type 0 where
  pub number : ℕ
  pub parent : Option ℕ
  pub sort : NodeWhat
  pub from : ℕ
  pub to : ℕ

-- the nodes of a forest that stands under p from a position on, in the order of their starts
abbrev pub node_places : ℕ → ℕ → Named → List NodePlace
node_places p at NoNode = []
node_places p at (NamedRun n count later) = record { number = n; parent = Some p; sort = what.Run; from = at; to = at + count } ∷ node_places p (at + count) later
node_places p at (NamedBranch n kind inside later) =
    record { number = n; parent = Some p; sort = what.Node kind; from = at; to = at + (item_count (unnumbered inside) + 2) }
    ∷ (node_places n (suc at) inside ++ node_places p (at + (item_count (unnumbered inside) + 2)) later)

-- the nodes of a tree: its root, and then the others
abbrev pub tree_places : {slots : List (Option ArenaNode)} {root : NodeId} {items : List PlainItem} → IsTree slots root items → List NodePlace
tree_places {root = root} {items = items} tree =
    record { number = root.0; parent = None; sort = what.Node Root; from = 0; to = length items } ∷ node_places root.0 0 tree.named

-- it is a node of the tree, of this kind, beginning and ending there
pub record IsNodeAt {slots : List (Option ArenaNode)} {root : NodeId} {items : List PlainItem} (tree : IsTree slots root items) (n : NodeId) (place : NodeExtent) : Type 0 where
  pub parent : Option ℕ
  pub listed : Contains (tree_places tree) (record { number = n.0; parent = parent; sort = what.Node place.kind; from = place.from; to = place.to })

-- whatever list the tree is of, it is the innermost node round the offset
abbrev pub IsNodeRound : List (Option ArenaNode) → NodeId → ℕ → NodeId → Type 0
IsNodeRound slots root o n = (items : List PlainItem) (tree : IsTree slots root items) → IsNodeAt tree n (node_at items o)

-- whatever list the tree is of, this holds of the node's position
abbrev pub OfItsPlace : List (Option ArenaNode) → NodeId → NodeId → (NodePlace → Type 0) → Type 0
OfItsPlace slots root n holds =
    (items : List PlainItem) (tree : IsTree slots root items) (place : NodePlace) → Contains (tree_places tree) place → place.number ≡ n.0 → holds place

-- the sort of the node under a number
abbrev pub sort_of : List (Option ArenaNode) → NodeId → Option NodeWhat
sort_of slots n = option_map (λ node. node.what) (node_under slots n)

-- a node of a kind stands under the number, and no text node
pub record IsBranch (slots : List (Option ArenaNode)) (n : NodeId) : Type 0 where
  pub kind : Kind
  pub is_kind : sort_of slots n ≡ Some (what.Node kind)

-- a node of the tree of some list stands under the number
pub record IsInTree (slots : List (Option ArenaNode)) (root n : NodeId) : Type 0 where
  pub items : List PlainItem
  pub tree : IsTree slots root items
  pub place : NodePlace
  pub listed : Contains (tree_places tree) place
  pub number_is : place.number ≡ n.0
