-- The tree of a list by the children of each node: a list of numbers for each number.
use Rattle.std.specs.Prelude.{◌≡◌, ℕ, ◌+◌, nat_eq, if◌then◌else◌, Option, Some, None, List, [], ◌∷◌, ◌++◌, length, option_map}
use Rattle.ve_kinds.specs.declared.kind.Kind.TheVariants.{Root}
use Rattle.model_items.specs.declared.plain_item.PlainItem.{PlainItem}
use Rattle.model_items.specs.Law.{Lawful}
use Rattle.model_items.specs.Tree.{tree_of, item_count}
use Rattle.ve_arena.specs.declared.node.NodeId.{NodeId}
use Rattle.ve_arena.specs.declared.node.NodeWhat.{NodeWhat}
use Rattle.ve_arena.specs.declared.node.NodeWhat.TheVariants as what
use Rattle.ve_arena.specs.declared.node.ArenaNode.{ArenaNode}
use Rattle.ve_arena.specs.Arena.{slot_at}
use Rattle.ve_tree.specs.Links.{Links, links_of, Children, Apart, AllApart}
use Rattle.ve_tree.specs.Named.{Named, NoNode, NamedRun, NamedBranch, unnumbered, heads, node_numbers}
use Rattle.ve_tree.specs.IsTree.{IsAlone, IsTree}

-- each node's children are the list, and no list has a number twice
pub record Fits (links : Links) (kids : ℕ → List ℕ) : Type 0 where
  pub children : (p : ℕ) → Children links p (kids p)
  pub apart : (p : ℕ) → AllApart (kids p)

-- in these lists each node of the forest has the children that it has there
abbrev pub HaveKids : (ℕ → List ℕ) → Named → Type 0
HaveKids kids NoNode = Unit {0}
HaveKids kids (NamedRun n count later) = (kids n ≡ []) × HaveKids kids later
HaveKids kids (NamedBranch n kind inside later) = (kids n ≡ heads inside) × HaveKids kids inside × HaveKids kids later

-- such lists: the children of the forest's node with a number, none where no node has it
abbrev pub kids_in : Named → ℕ → List ℕ
kids_in NoNode q = []
kids_in (NamedRun n count later) q = kids_in later q
kids_in (NamedBranch n kind inside later) q = if nat_eq q n then heads inside else (kids_in inside q ++ kids_in later q)

-- the same of a root and the forest under it
abbrev pub kids_of : ℕ → Named → ℕ → List ℕ
kids_of root f q = if nat_eq q root then heads f else kids_in f q

-- the node says what it is and how long it is
pub record IsLabelled (slots : List (Option ArenaNode)) (n : ℕ) (sort : NodeWhat) (len : ℕ) : Type 0 where
  pub sort_is : option_map (λ node. node.what) (slot_at slots n) ≡ Some sort
  pub len_is : option_map (λ node. node.len) (slot_at slots n) ≡ Some len

abbrev pub AreLabelled : List (Option ArenaNode) → Named → Type 0
AreLabelled slots NoNode = Unit {0}
AreLabelled slots (NamedRun n count later) = IsLabelled slots n what.Run count × AreLabelled slots later
AreLabelled slots (NamedBranch n kind inside later) =
    IsLabelled slots n (what.Node kind) (item_count (unnumbered inside) + 2) × AreLabelled slots inside × AreLabelled slots later

-- The nodes of an arena are the tree of a list, with these numbers and these children.
pub record IsTreeWith (slots : List (Option ArenaNode)) (root : NodeId) (items : List PlainItem) (named : Named) (kids : ℕ → List ℕ) : Type 0 where
  pub lawful : Lawful items
  pub is_tree : unnumbered named ≡ tree_of items
  pub apart : AllApart (root.0 ∷ node_numbers named)
  pub top : kids root.0 ≡ heads named
  pub inside : HaveKids kids named
  pub fits : Fits (links_of slots) kids
  pub labelled : AreLabelled slots named
  pub root_labelled : IsLabelled slots root.0 (what.Node Root) (length items)
  pub root_alone : IsAlone slots root.0
  pub only : (q : ℕ) → Apart q (root.0 ∷ node_numbers named) → slot_at slots q ≡ None

-- The links of a list's tree fit its children lists,
abbrev pub TreeFits : Type 0
TreeFits = (slots : List (Option ArenaNode)) (root : NodeId) (items : List PlainItem) (tree : IsTree slots root items) →
    IsTreeWith slots root items tree.named (kids_of root.0 tree.named)

-- and links that fit any children lists are the tree of the list.
abbrev pub FitsAreTree : Type 0
FitsAreTree = (slots : List (Option ArenaNode)) (root : NodeId) (items : List PlainItem) (named : Named) (kids : ℕ → List ℕ) →
    IsTreeWith slots root items named kids → IsTree slots root items
