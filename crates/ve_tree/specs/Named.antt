-- A forest with a number for each node, and what it means that an arena shows it.
use Rattle.std.specs.Prelude.{◌≡◌, ℕ, ◌+◌, Option, Some, List, [], ◌∷◌, ◌++◌, option_map}
use Rattle.ve_kinds.specs.declared.kind.Kind.{Kind}
use Rattle.model_items.specs.Tree.{Forest, Empty, Run, Branch, item_count}
use Rattle.ve_arena.specs.declared.node.NodeWhat.{NodeWhat}
use Rattle.ve_arena.specs.declared.node.NodeWhat.TheVariants as what
use Rattle.ve_arena.specs.declared.node.ArenaNode.{ArenaNode}
use Rattle.ve_arena.specs.Arena.{slot_at}
use Rattle.ve_tree.specs.Links.{links_of, Children}

-- sibling nodes in order, each with its number and those inside it
pub data Named : Type 0 where
  NoNode : Named
  -- a run of characters, and the nodes after it
  NamedRun : (n count : ℕ) (later : Named) → Named
  -- a node of a kind, with the nodes inside it, and those after it
  NamedBranch : (n : ℕ) (kind : Kind) (inside later : Named) → Named

-- without the numbers
abbrev pub unnumbered : Named → Forest
unnumbered NoNode = Empty
unnumbered (NamedRun n count later) = Run count (unnumbered later)
unnumbered (NamedBranch n kind inside later) = Branch kind (unnumbered inside) (unnumbered later)

-- the numbers of the nodes that stand side by side
abbrev pub heads : Named → List ℕ
heads NoNode = []
heads (NamedRun n count later) = n ∷ heads later
heads (NamedBranch n kind inside later) = n ∷ heads later

-- the numbers of all nodes, in the order of their starts
abbrev pub node_numbers : Named → List ℕ
node_numbers NoNode = []
node_numbers (NamedRun n count later) = n ∷ node_numbers later
node_numbers (NamedBranch n kind inside later) = n ∷ (node_numbers inside ++ node_numbers later)

-- the arena has under a number a node of this sort, this length in items and these children, linked
-- to it and to each other
pub record IsShown (slots : List (Option ArenaNode)) (n : ℕ) (sort : NodeWhat) (len : ℕ) (kids : List ℕ) : Type 0 where
  pub sort_is : option_map (λ node. node.what) (slot_at slots n) ≡ Some sort
  pub len_is : option_map (λ node. node.len) (slot_at slots n) ≡ Some len
  pub children : Children (links_of slots) n kids

-- the arena has each node of the forest: a run is as long as its characters, a branch as long as
-- what is inside it and its two brackets
abbrev pub Shows : List (Option ArenaNode) → Named → Type 0
Shows slots NoNode = Unit {0}
Shows slots (NamedRun n count later) = IsShown slots n what.Run count [] × Shows slots later
Shows slots (NamedBranch n kind inside later) =
    IsShown slots n (what.Node kind) (item_count (unnumbered inside) + 2) (heads inside) × Shows slots inside × Shows slots later
