-- The gap between two landmarks: the items that lie there.
use Rattle.std.specs.Prelude.{◌≡◌, ◌≤◌, ◌<◌, ◌+◌, ◌^◌, Option, List, length, take, sum, slice_index}
use Rattle.model_items.specs.declared.plain_item.PlainItem.{PlainItem}
use Rattle.ve_arena.specs.declared.node.NodeId.{NodeId}
use Rattle.ve_arena.specs.declared.node.ArenaNode.{ArenaNode}
use Rattle.ve_tree.specs.declared.mark.Gap.{Gap}
use Rattle.ve_tree.specs.IsTree.{IsTree}
use Rattle.ve_tree.specs.Landmarks.{LandmarkRow, AreLandmarks}

-- the landmarks are true; the one before the gap begins `from` items before the list's end, and the
-- one after it `to` items; after the last `to` is 0
pub record IsGap (slots : List (Option ArenaNode)) (root : NodeId) (row : LandmarkRow) (gap : Gap) : Type 0 where
  pub are : AreLandmarks slots root row
  pub among : gap.next ≤ length row.gaps
  pub as_long : length row.nodes ≡ length row.gaps
  pub start : (items : List PlainItem) → IsTree slots root items → sum (take gap.next row.gaps) + gap.from ≡ length items
  pub end : gap.next < length row.gaps → slice_index row.gaps gap.next + gap.to ≡ gap.from
  pub small : (items : List PlainItem) → IsTree slots root items → length items < 2 ^ 64
