-- The model's nodes of a tree, each with its number and its parent's.
use Rattle.std.specs.Prelude.{◌≡◌, ℕ, suc, ◌+◌, Option, List, [], ◌∷◌, ◌++◌, length, map}
use Rattle.model_items.specs.declared.plain_item.PlainItem.{PlainItem}
use Rattle.model_items.specs.Tree.{item_count}
use Rattle.model_change.specs.Touch.{NodeName, TheRoot, Opened, Text, Node, nodes_of}
use Rattle.ve_arena.specs.declared.node.NodeId.{NodeId}
use Rattle.ve_arena.specs.declared.node.ArenaNode.{ArenaNode}
use Rattle.ve_tree.specs.Named.{Named, NoNode, NamedRun, NamedBranch, unnumbered, node_numbers}
use Rattle.ve_tree.specs.IsTree.{IsTree}
use Rattle.ve_tree.specs.Places.{NodePlace, tree_places}
use Rattle.ve_repair.specs.Kept.{name_of, count_of}

pub record Numbered : Type 0 where
  pub number : ℕ
  -- the number of its parent
  pub above : ℕ
  pub node : Node

-- a node in both readings: its number, its name and its length
pub record Brief : Type 0 where
  pub number : ℕ
  pub name : NodeName
  pub count : ℕ

abbrev pub brief : Numbered → Brief
brief n = record { number = n.number; name = n.node.name; count = n.node.count }

abbrev pub place_brief : NodePlace → Brief
place_brief y = record { number = y.number; name = name_of y; count = count_of y }

-- the nodes of a forest that stands under a node from a position on, in the order of their starts
abbrev pub numbered_from : ℕ → NodeName → ℕ → Named → List Numbered
numbered_from above parent at NoNode = []
numbered_from above parent at (NamedRun n count later) =
    record { number = n; above = above; node = record { name = Text at; parent = parent; count = count } } ∷ numbered_from above parent (at + count) later
numbered_from above parent at (NamedBranch n kind inside later) =
    record { number = n; above = above; node = record { name = Opened at; parent = parent; count = item_count (unnumbered inside) + 2 } }
    ∷ (numbered_from n (Opened at) (suc at) inside ++ numbered_from above parent (at + item_count (unnumbered inside) + 2) later)

-- all nodes, the root first
abbrev pub numbered_of : ℕ → ℕ → Named → List Numbered
numbered_of root count f =
    record { number = root; above = root; node = record { name = TheRoot; parent = TheRoot; count = count } } ∷ numbered_from root TheRoot 0 f

-- The nodes of a list, in order, are the nodes of its tree, each with its number, its name and its
-- length.
pub record AreNumbered {slots : List (Option ArenaNode)} {root : NodeId} {items : List PlainItem} (tree : IsTree slots root items) : Type 0 where
  pub nodes : map (λ (n : Numbered). n.node) (numbered_of root.0 (length items) tree.named) ≡ nodes_of items
  pub numbers : map (λ (n : Numbered). n.number) (numbered_of root.0 (length items) tree.named) ≡ root.0 ∷ node_numbers tree.named
  pub places : map brief (numbered_of root.0 (length items) tree.named) ≡ map place_brief (tree_places tree)

abbrev pub NodesAreNumbered : Type 0
NodesAreNumbered = (slots : List (Option ArenaNode)) (root : NodeId) (items : List PlainItem) (tree : IsTree slots root items) → AreNumbered tree
