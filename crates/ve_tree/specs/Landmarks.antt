-- Nodes whose positions are known.
use Rattle.std.specs.Prelude.{◌≡◌, ◌≤◌, ◌<◌, ◌+◌, ◌-◌, ◌^◌, ◌⊎◌, ℕ, Option, List, suc, Contains, length, take, sum, slice_index, slice_index_or}
use Rattle.model_items.specs.declared.plain_item.PlainItem.{PlainItem}
use Rattle.ve_arena.specs.declared.node.NodeId.{NodeId}
use Rattle.ve_arena.specs.declared.node.ArenaNode.{ArenaNode}
use Rattle.ve_tree.specs.IsTree.{IsTree}
use Rattle.ve_tree.specs.Places.{NodePlace, tree_places}

-- some nodes in the order of their starts, and how far the start of each is from that of the one
-- before; of the first, from the list's start
pub record LandmarkRow : Type 0 where
  pub nodes : List NodeId
  pub gaps : List ℕ

-- the node is one of them, and by the gaps it begins there
pub record IsLandmark (row : LandmarkRow) (n : NodeId) (from : ℕ) : Type 0 where
  pub k : ℕ
  pub among : k < length row.nodes
  pub node_is : slice_index_or row.nodes k n ≡ n
  pub from_is : sum (take (suc k) row.gaps) ≡ from

-- and it begins at the offset or before it
pub record IsLandmarkBefore (row : LandmarkRow) (o : ℕ) (n : NodeId) (from : ℕ) : Type 0 where
  pub landmark : IsLandmark row n from
  pub before : from ≤ o

-- it is a node of the tree, and begins there
pub record NodeBeginsAt {slots : List (Option ArenaNode)} {root : NodeId} {items : List PlainItem} (tree : IsTree slots root items) (n : NodeId) (from : ℕ) : Type 0 where
  pub place : NodePlace
  pub listed : Contains (tree_places tree) place
  pub number_is : place.number ≡ n.0
  pub from_is : place.from ≡ from

-- whatever list the tree is of
abbrev pub IsAt : List (Option ArenaNode) → NodeId → NodeId → ℕ → Type 0
IsAt slots root n from = (items : List PlainItem) (tree : IsTree slots root items) → NodeBeginsAt tree n from

-- each of them is a node of the tree, and begins where the gaps say
abbrev pub AreLandmarks : List (Option ArenaNode) → NodeId → LandmarkRow → Type 0
AreLandmarks slots root row = (n : NodeId) (from : ℕ) → IsLandmark row n from → IsAt slots root n from

-- it is the one with that number, and by the gaps it begins there
pub record IsNumbered (row : LandmarkRow) (k : ℕ) (n : NodeId) (from : ℕ) : Type 0 where
  pub among : k < length row.nodes
  pub as_long : length row.nodes ≡ length row.gaps
  pub node_is : slice_index_or row.nodes k n ≡ n
  pub from_is : sum (take (suc k) row.gaps) ≡ from

-- one more may begin so far after the start of the one before that number: not past the start of
-- the next; at the end, where numbers of positions end
pub record HasSpace (gaps : List ℕ) (k gap : ℕ) : Type 0 where
  pub before_next : k < length gaps → gap ≤ slice_index gaps k
  pub at_end : length gaps ≤ k → sum gaps + gap < 2 ^ 64

-- the length with that number, if there is one, is less by that much, and the others stand: what
-- lies before a position is less from there on
pub record IsShortened (old new : List ℕ) (k by : ℕ) : Type 0 where
  pub count : length new ≡ length old
  pub before : (j : ℕ) → j ≤ k → sum (take j new) ≡ sum (take j old)
  pub here : k < length old → slice_index new k + by ≡ slice_index old k
  pub after : (j : ℕ) → k < j → k < length old → sum (take j new) + by ≡ sum (take j old)

-- the row is as it was, but for one more before that number
pub record HasOneMore (old new : LandmarkRow) (k : ℕ) (n : NodeId) (gap : ℕ) : Type 0 where
  pub count : length new.gaps ≡ suc (length old.gaps)
  pub as_long : length new.nodes ≡ length new.gaps
  pub start_is : sum (take (suc k) new.gaps) ≡ sum (take k old.gaps) + gap
  pub next_is : k < length old.gaps → slice_index new.gaps (suc k) + gap ≡ slice_index old.gaps k
  pub others : (m : NodeId) (from : ℕ) → IsLandmark new m from → IsLandmark old m from ⊎ ((m ≡ n) × (from ≡ sum (take k old.gaps) + gap))

-- The node was one of them. Where it began before the first position, or is the root, it begins
-- there still. Else it began at the second position or later, past the list's start. Then it begins
-- by what lies between the positions farther back, and so many items on.
pub record WasKept (old : LandmarkRow) (root : NodeId) (from to len : ℕ) (n : NodeId) (start : ℕ) : Type 0 where
  pub was : ℕ
  pub landmark : IsLandmark old n was
  pub kept : (((was < from) ⊎ (n ≡ root)) × (start ≡ was)) ⊎ ((to ≤ was) × (0 < was) × (start + (to - from) ≡ was + len))

abbrev pub IsCut : LandmarkRow → LandmarkRow → NodeId → ℕ → ℕ → ℕ → Type 0
IsCut old new root from to len = (n : NodeId) (start : ℕ) → IsLandmark new n start → WasKept old root from to len n start

-- so many lengths end before a position, and the next one does not
pub record EndBefore (gaps : List ℕ) (place count : ℕ) : Type 0 where
  pub among : count ≤ length gaps
  pub before : (j : ℕ) → j < count → sum (take (suc j) gaps) < place
  pub after : (j : ℕ) → count ≤ j → j < length gaps → place ≤ sum (take (suc j) gaps)

-- the first so many nodes stay where they are when those from a position on go: each begins before
-- it, or is the root
pub record Stay (nodes : List NodeId) (gaps : List ℕ) (root : NodeId) (from count : ℕ) : Type 0 where
  pub among : count ≤ length gaps
  pub begins : sum (take count gaps) ≤ from
  pub each : (j : ℕ) (n : NodeId) → j < count → slice_index_or nodes j n ≡ n → (sum (take (suc j) gaps) < from) ⊎ (n ≡ root)

-- The lengths from one up to another are gone, and what lies before the end of the one that stands
-- there now is so many less and so many more.
pub record IsClosedUp (old new : List ℕ) (low high less more : ℕ) : Type 0 where
  pub count : length new + (high - low) ≡ length old
  pub before : (j : ℕ) → j ≤ low → sum (take j new) ≡ sum (take j old)
  pub after : (j : ℕ) → low < j → j ≤ length new → sum (take j new) + less ≡ sum (take (j + (high - low)) old) + more

-- A landmark that began there follows a change of what lies between two positions. Before it, or at
-- the root, the node begins there still. From the second position on, past the list's start, it
-- begins by what lies between the positions farther back, and so many items on.
pub record Follows (slots : List (Option ArenaNode)) (root : NodeId) (from to len : ℕ) (n : NodeId) (start : ℕ) : Type 0 where
  pub fits : start + len < 2 ^ 64
  pub stays : (start < from) ⊎ (n ≡ root) → IsAt slots root n start
  pub moves : (q : ℕ) → to ≤ start → 0 < start → q + (to - from) ≡ start + len → IsAt slots root n q

abbrev pub MayFollow : List (Option ArenaNode) → NodeId → LandmarkRow → ℕ → ℕ → ℕ → Type 0
MayFollow slots root row from to len = (n : NodeId) (start : ℕ) → IsLandmark row n start → Follows slots root from to len n start
