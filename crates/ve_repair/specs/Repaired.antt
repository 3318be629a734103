-- The answer of a repair, and the tree that it leaves.
use Rattle.std.specs.Prelude.{◌≡◌, ℕ, ◌+◌, ◌*◌, ◌≤◌, Option, List, map}
use Rattle.ve_base.specs.declared.value.Value.{Value}
use Rattle.model_items.specs.declared.item.Item.{Item}
use Rattle.model_items.specs.declared.plain_item.PlainItem.{PlainItem}
use Rattle.model_items.specs.declared.law_fault.LawFault.{LawFault}
use Rattle.model_items.specs.declared.law_fault.LawFault.TheVariants as law
use Rattle.model_items.specs.Plain.{plain_list}
use Rattle.model_items.specs.Tree.{shape_of}
use Rattle.model_change.specs.Touch.{touch}
use Rattle.ve_arena.specs.declared.node.NodeId.{NodeId}
use Rattle.ve_arena.specs.declared.node.ArenaNode.{ArenaNode}
use Rattle.ve_arena.specs.Arena.{slot_at}
use Rattle.ve_tree.specs.IsTree.{IsTree}
use Rattle.ve_tree.specs.TreeOf.{IsTreeOf}
use Rattle.ve_tree.specs.declared.tree.Tree.{Tree}
use Rattle.ve_tx.specs.Operation.{Operation, by_value}
use Rattle.ve_repair.specs.declared.fault.RepairFault.{RepairFault}
use Rattle.ve_repair.specs.declared.fault.RepairFault.TheVariants.{Unlawful, TooDeep, Memory}
use Rattle.ve_repair.specs.Change.{new_list, LawfulAfter, FailsAfter}

-- The nodes are the tree of the list that the transaction gives, whatever the values are.
abbrev pub IsTreeAfter : List (Option ArenaNode) → NodeId → List Operation → List Item → Type 0
IsTreeAfter slots root tx items = (values : List Value) → IsTree slots root (new_list values tx items)

-- It is the tree of the list that the transaction gives, whatever the values are.
abbrev pub IsTreeOfAfter : Tree → List Operation → List Item → Type 0
IsTreeOfAfter t tx items = (values : List Value) → IsTreeOf t (new_list values tx items)

-- each number has the node that it had, or none as before
abbrev pub SameNodes : List (Option ArenaNode) → List (Option ArenaNode) → Type 0
SameNodes old new = (q : ℕ) → slot_at new q ≡ slot_at old q

-- an offence as the cause of a refusal
abbrev pub fault_of : LawFault → RepairFault
fault_of (law.Unlawful at) = Unlawful at
fault_of (law.TooDeep at) = TooDeep at

-- The new list's first offence is this one; and at want of memory it has none.
abbrev pub IsCause : List Operation → List Item → RepairFault → Type 0
IsCause tx items (Unlawful at) = FailsAfter tx items (law.Unlawful at)
IsCause tx items (TooDeep at) = FailsAfter tx items (law.TooDeep at)
IsCause tx items Memory = LawfulAfter tx items

-- how many steps a fault may have cost: none, where the new list is not lawful
abbrev pub CostsNone : ℕ → ℕ → RepairFault → Type 0
CostsNone before after (Unlawful at) = after ≡ before
CostsNone before after (TooDeep at) = after ≡ before
CostsNone before after Memory = Unit {0}

-- at most eight steps for each node that is touched, and sixteen more
abbrev pub IsWithinTouch : ℕ → ℕ → List Operation → List Item → Type 0
IsWithinTouch before after tx items = (values : List Value) → after ≤ before + 8 * (touch (by_value values tx) (plain_list values items) + 2)

-- Nodes are the tree of a list exactly as of every other that differs in what no tree shows:
-- letters, heads, marks and white text.
abbrev pub TreeReadsShapes : Type 0
TreeReadsShapes = (slots : List (Option ArenaNode)) (root : NodeId) (items others : List PlainItem) → IsTree slots root items → map shape_of items ≡ map shape_of others → IsTree slots root others
