-- The nodes of an arena as they are read from a node on: by first child and next sibling.
use Rattle.std.specs.Prelude.{◌≡◌, ℕ, ◌+◌, Option, Some, None, List, ◌∷◌, length, map, option_map}
use Rattle.ve_kinds.specs.declared.kind.Kind.TheVariants.{Root}
use Rattle.model_items.specs.declared.plain_item.PlainItem.{PlainItem}
use Rattle.model_items.specs.Law.{Lawful}
use Rattle.model_items.specs.Tree.{item_count, tree_of, shape_of}
use Rattle.ve_arena.specs.declared.node.NodeId.{NodeId}
use Rattle.ve_arena.specs.declared.node.NodeWhat.{NodeWhat}
use Rattle.ve_arena.specs.declared.node.NodeWhat.TheVariants as what
use Rattle.ve_arena.specs.declared.node.ArenaNode.{ArenaNode}
use Rattle.ve_arena.specs.Arena.{slot_at}
use Rattle.ve_tree.specs.Links.{links_of, Apart}
use Rattle.ve_tree.specs.Named.{Named, NoNode, NamedRun, NamedBranch, unnumbered, node_numbers}
use Rattle.ve_tree.specs.IsTree.{IsAlone, IsTree}
use Rattle.ve_tree.specs.Fits.{IsLabelled}

-- the node says what it is, how long it is, and which node it stands in and after
pub record IsReadAs (slots : List (Option ArenaNode)) (n p : ℕ) (before : Option ℕ) (sort : NodeWhat) (len : ℕ) : Type 0 where
  pub sort_is : option_map (λ node. node.what) (slot_at slots n) ≡ Some sort
  pub len_is : option_map (λ node. node.len) (slot_at slots n) ≡ Some len
  pub parent_is : (links_of slots).parent n ≡ Some p
  pub before_is : (links_of slots).before n ≡ before

abbrev pub HasNoChild : List (Option ArenaNode) → ℕ → Type 0
HasNoChild slots n = ((links_of slots).first n ≡ None) × ((links_of slots).last n ≡ None)

-- The forest that is read from `here` on, among the children of p and after `before`. It is the
-- node, what is read from its first child, and what is read from its next sibling. The last one
-- read is the last child.
abbrev pub IsRead : List (Option ArenaNode) → ℕ → Option ℕ → Option ℕ → Named → Type 0
IsRead slots p before here NoNode = (here ≡ None) × ((links_of slots).last p ≡ before)
IsRead slots p before here (NamedRun n count later) =
    (here ≡ Some n) × IsReadAs slots n p before what.Run count × HasNoChild slots n × IsRead slots p (Some n) ((links_of slots).after n) later
IsRead slots p before here (NamedBranch n kind inside later) =
    (here ≡ Some n) × IsReadAs slots n p before (what.Node kind) (item_count (unnumbered inside) + 2) × IsRead slots n None ((links_of slots).first n) inside
    × IsRead slots p (Some n) ((links_of slots).after n) later

-- The forest that is read from a root's first child on.
abbrev pub IsReadUnder : List (Option ArenaNode) → NodeId → Named → Type 0
IsReadUnder slots root f = IsRead slots root.0 None ((links_of slots).first root.0) f

-- A lawful list's tree is read under a root that is as long as the list and stands alone, and no
-- node stands besides.
pub record IsTreeRead (slots : List (Option ArenaNode)) (root : NodeId) (items : List PlainItem) (f : Named) : Type 0 where
  pub lawful : Lawful items
  pub is_tree : unnumbered f ≡ tree_of items
  pub root_labelled : IsLabelled slots root.0 (what.Node Root) (length items)
  pub root_alone : IsAlone slots root.0
  pub read : IsReadUnder slots root f
  pub only : (q : ℕ) → Apart q (root.0 ∷ node_numbers f) → slot_at slots q ≡ None

-- Of the tree of a list, the tree is read, with the numbers that its nodes have,
abbrev pub TreeIsRead : Type 0
TreeIsRead = (slots : List (Option ArenaNode)) (root : NodeId) (items : List PlainItem) (tree : IsTree slots root items) → IsTreeRead slots root items tree.named

-- and where the tree is read, the nodes are the tree of the list: no number occurs twice.
abbrev pub ReadIsTree : Type 0
ReadIsTree = (slots : List (Option ArenaNode)) (root : NodeId) (items : List PlainItem) (f : Named) → IsTreeRead slots root items f → IsTree slots root items

-- From one node on one forest is read.
abbrev pub OneIsRead : Type 0
OneIsRead = (slots : List (Option ArenaNode)) (p : ℕ) (before here : Option ℕ) (f g : Named) → IsRead slots p before here f → IsRead slots p before here g → f ≡ g

-- Nodes are the tree of one list, but for what a tree doesn't show, and with one numbering.
abbrev pub OneNumbering : Type 0
OneNumbering = (slots : List (Option ArenaNode)) (root : NodeId) (items others : List PlainItem) (tree : IsTree slots root items) (other : IsTree slots root others) →
    (tree.named ≡ other.named) × (map shape_of items ≡ map shape_of others)
