-- Where the links of a tree's nodes lead.
use Rattle.std.specs.Prelude.{ℕ, Option, IsSome, IfSome, List}
use Rattle.model_items.specs.declared.plain_item.PlainItem.{PlainItem}
use Rattle.ve_arena.specs.declared.node.NodeId.{NodeId}
use Rattle.ve_arena.specs.declared.node.ArenaNode.{ArenaNode}
use Rattle.ve_arena.specs.Arena.{slot_at, IsLive}
use Rattle.ve_tree.specs.Links.{links_of}
use Rattle.ve_tree.specs.IsTree.{IsTree}
use Rattle.ve_tree.specs.Places.{IsInTree}

-- the link is to no node, or to one that is there
abbrev pub LeadsToNode : List (Option ArenaNode) → Option ℕ → Type 0
LeadsToNode slots link = IfSome link (λ m. IsSome (slot_at slots m))

pub record LinksLead (slots : List (Option ArenaNode)) (n : ℕ) : Type 0 where
  pub parent : LeadsToNode slots ((links_of slots).parent n)
  pub first : LeadsToNode slots ((links_of slots).first n)
  pub last : LeadsToNode slots ((links_of slots).last n)
  pub before : LeadsToNode slots ((links_of slots).before n)
  pub after : LeadsToNode slots ((links_of slots).after n)

-- In a tree every link leads to a node,
abbrev pub LinksLeadToNodes : Type 0
LinksLeadToNodes = (slots : List (Option ArenaNode)) (root : NodeId) (items : List PlainItem) (n : ℕ) → IsTree slots root items → LinksLead slots n

-- and every node is one of the tree's.
abbrev pub NodesAreInTree : Type 0
NodesAreInTree = (slots : List (Option ArenaNode)) (root n : NodeId) (items : List PlainItem) → IsTree slots root items → IsLive slots n → IsInTree slots root n
