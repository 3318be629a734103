-- A page under edit as the code keeps it, and its view.
use Rattle.std.specs.Prelude.{List, All, Option}
use Rattle.ve_base.specs.declared.value.Value.{Value}
use Rattle.model_items.specs.declared.item.Item.{Item}
use Rattle.model_items.specs.declared.plain_item.PlainItem.{PlainItem}
use Rattle.model_items.specs.Plain.{plain_list, CitesWell}
use Rattle.model_edit.specs.declared.selection.Selection.{Selection}
use Rattle.model_site.specs.Replica.{Replica}
use Rattle.ve_arena.specs.Arena.{first_slots}
use Rattle.ve_arena.specs.declared.node.ArenaNode.{ArenaNode}
use Rattle.ve_arena.specs.declared.node.NodeId.{NodeId}
use Rattle.ve_tree.specs.IsTree.{unvalued}
use Rattle.ve_tree.specs.TreeOf.{IsTreeOf}
use Rattle.ve_tree.specs.declared.tree.Tree.{Tree}

-- Each value that an item cites is in the store and of the sort that the item asks for; the list is
-- lawful, and the tree is the list's.
pub record IsPage (store : List Value) (items : List Item) (linked : Tree) : Type 0 where
  pub cites : All (CitesWell store) items
  pub tree : IsTreeOf linked (unvalued items)

-- the page by value
abbrev pub page_of : List Value → List Item → Selection → Replica
page_of store items selected = record { items = plain_list store items; store = store; selection = selected }

-- nodes by their numbers, and the number of their root
pub record Nodes : Type 0 where
  pub slots : List (Option ArenaNode)
  pub root : NodeId

-- the nodes of a tree
abbrev pub nodes_of_tree : Tree → Nodes
nodes_of_tree t = record { slots = t.arena.slots; root = t.root }

-- the nodes that a tree had when its trial began; without a trial those that it has
abbrev pub first_nodes : Tree → Nodes
first_nodes t = record { slots = first_slots t.arena; root = t.root }

-- The view of an editor: what a site's replica has, and the nodes of its tree.
pub record LinkedPage : Type 0 where
  pub items : List PlainItem
  pub store : List Value
  pub selection : Selection
  pub nodes : Nodes

-- an editor without its nodes
abbrev pub replica_of : LinkedPage → Replica
replica_of p = record { items = p.items; store = p.store; selection = p.selection }

-- a replica with nodes
abbrev pub linked_page : Replica → Nodes → LinkedPage
linked_page r nodes = record { items = r.items; store = r.store; selection = r.selection; nodes = nodes }
