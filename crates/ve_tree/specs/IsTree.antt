-- Linked nodes that are the tree of a list.
use Rattle.std.specs.Prelude.{◌≡◌, ℕ, Option, None, List, [], ◌∷◌, length}
use Rattle.ve_kinds.specs.declared.kind.Kind.TheVariants.{Root}
use Rattle.model_items.specs.declared.item.Item.{Item}
use Rattle.model_items.specs.declared.plain_item.PlainItem.{PlainItem}
use Rattle.model_items.specs.Plain.{plain_list}
use Rattle.model_items.specs.Law.{Lawful}
use Rattle.model_items.specs.Tree.{tree_of}
use Rattle.ve_arena.specs.declared.node.NodeId.{NodeId}
use Rattle.ve_arena.specs.declared.node.NodeWhat.TheVariants as what
use Rattle.ve_arena.specs.declared.node.ArenaNode.{ArenaNode}
use Rattle.ve_arena.specs.Arena.{slot_at}
use Rattle.ve_tree.specs.Links.{links_of, Apart, AllApart}
use Rattle.ve_tree.specs.Named.{Named, unnumbered, heads, node_numbers, IsShown, Shows}

-- The items without the values that they cite. The tree and the law read none.
abbrev pub unvalued : List Item → List PlainItem
unvalued items = plain_list [] items

-- the node stands under nothing and beside nothing
pub record IsAlone (slots : List (Option ArenaNode)) (n : ℕ) : Type 0 where
  pub no_parent : (links_of slots).parent n ≡ None
  pub no_before : (links_of slots).before n ≡ None
  pub no_after : (links_of slots).after n ≡ None

-- The items are a lawful list, and the arena's nodes are the root and the nodes of its tree, each
-- linked to its parent, its children and its siblings.
pub record IsTree (slots : List (Option ArenaNode)) (root : NodeId) (items : List PlainItem) : Type 0 where
  pub lawful : Lawful items
  -- the tree, with a number for each node
  pub named : Named
  pub is_tree : unnumbered named ≡ tree_of items
  pub apart : AllApart (root.0 ∷ node_numbers named)
  pub shown : Shows slots named
  -- the root is as long as the list, and stands under nothing and beside nothing
  pub root_shown : IsShown slots root.0 (what.Node Root) (length items) (heads named)
  pub root_alone : IsAlone slots root.0
  -- no node besides
  pub only : (q : ℕ) → Apart q (root.0 ∷ node_numbers named) → slot_at slots q ≡ None
