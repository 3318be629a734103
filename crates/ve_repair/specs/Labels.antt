-- The nodes of an arena without their links: kinds and lengths; and links that lead to nodes.
use Rattle.std.specs.Prelude.{◌≡◌, ℕ, Option, Some, None, List, IsSome, option_map}
use Rattle.ve_arena.specs.declared.node.NodeWhat.{NodeWhat}
use Rattle.ve_arena.specs.declared.node.ArenaNode.{ArenaNode}
use Rattle.ve_arena.specs.Arena.{slot_at}
use Rattle.ve_tree.specs.Nodes.{LinksLead}

-- the sort and the length of a node
pub record Label : Type 0 where
  pub sort : NodeWhat
  pub len : ℕ

abbrev pub label_of : ArenaNode → Label
label_of node = record { sort = node.what; len = node.len }

-- the label under a number, where there is a node
abbrev pub label_at : List (Option ArenaNode) → ℕ → Option Label
label_at slots n = option_map label_of (slot_at slots n)

-- the same nodes under the same numbers, but for their links
abbrev pub SameLabels : List (Option ArenaNode) → List (Option ArenaNode) → Type 0
SameLabels old new = (q : ℕ) → label_at new q ≡ label_at old q

-- every link of every node leads to a node
abbrev pub AllLead : List (Option ArenaNode) → Type 0
AllLead slots = (q : ℕ) → LinksLead slots q

-- where there was a node there is one
abbrev pub StayLive : List (Option ArenaNode) → List (Option ArenaNode) → Type 0
StayLive old new = (q : ℕ) → IsSome (slot_at old q) → IsSome (slot_at new q)

-- how many items the node in a slot takes
abbrev pub len_in : Option ArenaNode → ℕ
len_in None = 0
len_in (Some node) = node.len
