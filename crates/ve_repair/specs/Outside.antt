-- Nodes outside of what a transaction changes: they stand where they stood, or as much farther on
-- as the list is longer.
use Rattle.std.specs.Prelude.{◌≡◌, ◌≤◌, ◌<◌, ◌+◌, ◌⊎◌, ℕ, Option, Some, List, length}
use Rattle.ve_base.specs.declared.value.Value.{Value}
use Rattle.model_items.specs.declared.item.Item.{Item}
use Rattle.model_items.specs.Plain.{plain_list}
use Rattle.model_change.specs.Fault.{Applies}
use Rattle.model_change.specs.Touch.{new_place}
use Rattle.model_change.specs.Transaction.{Transaction}
use Rattle.ve_arena.specs.declared.node.NodeId.{NodeId}
use Rattle.ve_arena.specs.declared.node.ArenaNode.{ArenaNode}
use Rattle.ve_tree.specs.IsTree.{IsTree}
use Rattle.ve_tree.specs.Landmarks.{IsAt}
use Rattle.ve_tx.specs.Operation.{Operation, by_value}
use Rattle.ve_repair.specs.Change.{new_list}
use Rattle.ve_repair.specs.Kept.{KeepsNumbers}

-- Of so many items those before one position stay where they are; those from another on stay too,
-- behind `len` items that come for what lies between.
pub record Spares (t : Transaction) (from to len count : ℕ) : Type 0 where
  pub between : from ≤ to
  pub within : to ≤ count
  pub before : (p : ℕ) → p < from → new_place t p ≡ Some p
  pub after : (p q : ℕ) → to ≤ p → p < count → q + to ≡ p + (from + len) → new_place t p ≡ Some q

-- A node that begins before the first position, or is the root, begins there still; one that begins
-- past the second position begins by so much farther on.
abbrev pub NodesStand : Type 0
NodesStand = (old new : List (Option ArenaNode)) (root : NodeId) (tx : List Operation) (items : List Item) (values : List Value) (from to len : ℕ) →
    Applies (by_value values tx) (plain_list values items) → IsTree old root (plain_list values items) → IsTree new root (new_list values tx items) →
    KeepsNumbers old new root tx items → Spares (by_value values tx) from to len (length items) →
    (n : NodeId) (start : ℕ) → IsAt old root n start →
    ((start < from) ⊎ (n ≡ root) → IsAt new root n start)
    × ((q : ℕ) → to < start → q + to ≡ start + (from + len) → IsAt new root n q)
