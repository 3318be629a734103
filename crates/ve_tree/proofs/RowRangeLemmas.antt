-- Where what stands in a node begins and ends, and where a child of it does, from the node and its
-- range.
use Rattle.std.proofs.Common.{◌≡◌, ℕ, Some, List, refl}
use Rattle.model_items.specs.declared.plain_item.PlainItem.{PlainItem}
use Rattle.ve_arena.specs.declared.node.NodeId.{NodeId}
use Rattle.ve_arena.specs.declared.node.ArenaNode.{ArenaNode}
use Rattle.ve_arena.specs.Arena.{slot_at, IsLive}
use Rattle.ve_tree.specs.IsTree.{IsTree}
use Rattle.ve_tree.specs.declared.lookup.Spot.{Spot}
use Rattle.ve_tree.specs.Spots.{IsSpot}
use Rattle.ve_tree.proofs.ClimbLemmas.{listed_live}
use Rattle.ve_tree.proofs.NodesLemmas.{link_live, links_lead_to_nodes}
use Rattle.ve_tree.proofs.WalkLemmas.{Slots}

pub up_live : {slots : Slots} {root : NodeId} {items : List PlainItem} (tree : IsTree slots root items) (n m : NodeId) (node : ArenaNode) → slot_at slots n.0 ≡ Some node → node.parent ≡ Some m → IsLive slots m
up_live {slots = slots} {root = root} {items = items} tree n m node here is = link_live slots (λ node. node.parent) n m node here (links_lead_to_nodes slots root items n.0 tree).parent is

-- the nodes of a spot are there
pub spot_live : {slots : Slots} {root : NodeId} {items : List PlainItem} (tree : IsTree slots root items) (o : ℕ) (spot : Spot) → IsSpot tree o spot → IsLive slots spot.node
spot_live tree o spot s = listed_live tree _ spot.node s.node.listed refl
