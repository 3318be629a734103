-- An arena as a finite map: the slots give the node under each number, or nothing. What one write
-- changes, and what the slots were when a trial began.
use Rattle.std.specs.Prelude.{◌≡◌, ◌≢◌, ℕ, List, Option, None, is_some, IsSome, count_by, slice_index_or, option_map}
use Rattle.std.specs.Option.{option_map_or}
use Rattle.ve_arena.specs.declared.node.NodeId.{NodeId}
use Rattle.ve_arena.specs.declared.node.NodeWhat.{NodeWhat}
use Rattle.ve_arena.specs.declared.node.ArenaNode.{ArenaNode}
use Rattle.ve_arena.specs.declared.node.Field.{Field}
use Rattle.ve_arena.specs.declared.node.Field.TheVariants.{Parent, First, Last, Before, After, Len}

-- The view of an arena: its slots, and during a trial those that were there when it began.
pub record ArenaView : Type 0 where
  pub slots : List (Option ArenaNode)
  pub first : Option (List (Option ArenaNode))

-- an arena in which no trial runs
abbrev pub settled : List (Option ArenaNode) → ArenaView
settled slots = record { slots = slots; first = None }

-- the slots that were there when the trial began; without a trial those that are there
abbrev pub first_slots : ArenaView → List (Option ArenaNode)
first_slots arena = option_map_or (λ slots. slots) arena.first arena.slots

-- the node in the slot of a number; none past the last slot
abbrev pub slot_at : List (Option ArenaNode) → ℕ → Option ArenaNode
slot_at slots n = slice_index_or slots n None

-- the node under a number
abbrev pub node_under : List (Option ArenaNode) → NodeId → Option ArenaNode
node_under slots n = slot_at slots n.0

-- there is a node under the number
abbrev pub IsLive : List (Option ArenaNode) → NodeId → Type 0
IsLive slots n = IsSome (node_under slots n)

-- how many numbers have a node
abbrev pub live_count : List (Option ArenaNode) → ℕ
live_count slots = count_by is_some slots

-- the number now has this slot, and every other number has what it had
pub record Puts (old new : List (Option ArenaNode)) (n : NodeId) (slot : Option ArenaNode) : Type 0 where
  pub here : slot_at new n.0 ≡ slot
  pub others : (q : ℕ) → q ≢ n.0 → slot_at new q ≡ slot_at old q

-- the node under the number is changed so, and every other number has what it had
abbrev pub Changes : List (Option ArenaNode) → List (Option ArenaNode) → NodeId → (ArenaNode → ArenaNode) → Type 0
Changes old new n change = Puts old new n (option_map change (node_under old n))

-- a node that was just made
abbrev pub new_node : NodeWhat → ArenaNode
new_node what = record { what = what; parent = None; first = None; last = None; before = None; after = None; len = 0 }

abbrev pub with_parent : Option NodeId → ArenaNode → ArenaNode
with_parent to node = record node { parent = to }

abbrev pub with_first : Option NodeId → ArenaNode → ArenaNode
with_first to node = record node { first = to }

abbrev pub with_last : Option NodeId → ArenaNode → ArenaNode
with_last to node = record node { last = to }

abbrev pub with_before : Option NodeId → ArenaNode → ArenaNode
with_before to node = record node { before = to }

abbrev pub with_after : Option NodeId → ArenaNode → ArenaNode
with_after to node = record node { after = to }

abbrev pub with_len : ℕ → ArenaNode → ArenaNode
with_len len node = record node { len = len }

abbrev pub with_field : Field → ArenaNode → ArenaNode
with_field (Parent to) = with_parent to
with_field (First to) = with_first to
with_field (Last to) = with_last to
with_field (Before to) = with_before to
with_field (After to) = with_after to
with_field (Len len) = with_len len
