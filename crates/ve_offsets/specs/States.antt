-- The law's state at an offset of a list. The law reads no value that an item cites.
use Rattle.std.specs.Prelude.{◌≡◌, ◌≤◌, ◌<◌, ℕ, Option, List, [], length, take, Ok}
use Rattle.model_items.specs.declared.item.Item.{Item}
use Rattle.model_items.specs.declared.plain_item.PlainItem.{PlainItem}
use Rattle.model_items.specs.Law.{State, start}
use Rattle.model_items.specs.Law as law
use Rattle.model_items.specs.Tree.{opens_after, node_at}
use Rattle.ve_arena.specs.declared.node.NodeId.{NodeId}
use Rattle.ve_arena.specs.declared.node.ArenaNode.{ArenaNode}
use Rattle.ve_tree.specs.IsTree.{IsTree, unvalued}
use Rattle.ve_tree.specs.Places.{IsNodeAt}
use Rattle.ve_lawful.specs.Uncited.{after}

-- from the start of the list, the items before the offset lead to the state
abbrev pub IsStateAt : List Item → ℕ → State → Type 0
IsStateAt items o s = after start (take o items) ≡ Ok s

-- the node is the innermost one round the offset
abbrev pub IsRound : List (Option ArenaNode) → NodeId → List PlainItem → NodeId → ℕ → Type 0
IsRound slots root items n o = (tree : IsTree slots root items) → IsNodeAt tree n (node_at items o)

-- from the start of the list, the items before any offset that the node is the innermost one round
-- lead to the state
abbrev pub IsStateRound : List (Option ArenaNode) → NodeId → List Item → NodeId → State → Type 0
IsStateRound slots root items n s =
    (o : ℕ) → o < length items → IsRound slots root (unvalued items) n o → law.after start (take o (unvalued items)) ≡ Ok s

-- the node is the innermost one round an offset at which no more nodes are open
pub record IsRoundSome (slots : List (Option ArenaNode)) (root : NodeId) (items : List PlainItem) (n : NodeId) (levels : ℕ) : Type 0 where
  pub at : ℕ
  pub within : at < length items
  pub round : IsRound slots root items n at
  pub few : length (opens_after [] 0 (take at items)) ≤ levels
