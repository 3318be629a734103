-- How an arena keeps its nodes, and in a trial what stood under the numbers that were written.
use Rattle.std.specs.Prelude.{◌≡◌, ◌≢◌, ◌≤◌, ◌+◌, ℕ, List, [], ◌∷◌, Option, Some, None, Bool, true, false, is_some, IsSome, count_by, length, map, nat_lt, if◌then◌else◌, slice_get, slice_index_or, option_map}
use Rattle.ve_arena.specs.declared.node.ArenaNode.{ArenaNode}
use Rattle.ve_arena.specs.declared.node.Field.{Field}
use Rattle.ve_arena.specs.declared.slot.Slot.{Slot}
use Rattle.ve_arena.specs.declared.slot.Note.{Note}
use Rattle.ve_arena.specs.Arena.{with_field}

abbrev pub slot_of : List (Option Slot) → ℕ → Option Slot
slot_of slots n = slice_index_or slots n None

-- the node in a slot
abbrev pub node_in : Option Slot → Option ArenaNode
node_in None = None
node_in (Some slot) = slot.node

abbrev pub node_of_note : Option Note → Option ArenaNode
node_of_note None = None
node_of_note (Some note) = note.node

-- what stood in a slot when the trial began: what its note says, if it has one
abbrev pub first_by : List Note → Option ℕ → Option ArenaNode → Option ArenaNode
first_by notes None here = here
first_by notes (Some k) here = node_of_note (slice_get notes k)

abbrev pub first_in : List Note → Option Slot → Option ArenaNode
first_in notes None = None
first_in notes (Some slot) = first_by notes slot.note slot.node

-- a list without what is vacant at its end: the same nodes are the same list then
abbrev pub put_first : Option ArenaNode → List (Option ArenaNode) → List (Option ArenaNode)
put_first None [] = []
put_first None (slot ∷ slots) = None ∷ slot ∷ slots
put_first (Some node) slots = Some node ∷ slots

abbrev pub trimmed : List (Option ArenaNode) → List (Option ArenaNode)
trimmed [] = []
trimmed (slot ∷ slots) = put_first slot (trimmed slots)

abbrev pub nodes_in : List (Option Slot) → List (Option ArenaNode)
nodes_in slots = trimmed (map node_in slots)

abbrev pub first_nodes : List (Option Slot) → List Note → List (Option ArenaNode)
first_nodes slots notes = trimmed (map (first_in notes) slots)

abbrev pub has_node : Option Slot → Bool
has_node slot = is_some (node_in slot)

abbrev pub is_none : Option ℕ → Bool
is_none None = true
is_none (Some k) = false

-- there is a slot, and it has no note yet
abbrev pub lacks_note : Option Slot → Bool
lacks_note None = false
lacks_note (Some slot) = is_none slot.note

-- the note of that number is of this slot
abbrev pub IsNoteOf : List Note → ℕ → ℕ → Type 0
IsNoteOf notes k n = (note : Note) × (slice_get notes k ≡ Some note) × (note.number ≡ n)

-- a slot without a note has a node, and one with a note has its own
abbrev pub IsMarked : List Note → ℕ → Option ArenaNode → Option ℕ → Type 0
IsMarked notes n here None = IsSome here
IsMarked notes n here (Some k) = IsNoteOf notes k n

abbrev pub HasNote : Option Slot → ℕ → Type 0
HasNote None k = ⊥
HasNote (Some slot) k = slot.note ≡ Some k

-- Each slot has its own note or none, each note is of a slot, and so each slot that has none is one
-- of those that the notes leave.
pub record AreNoted (slots : List (Option Slot)) (notes : List Note) : Type 0 where
  pub slot : (n : ℕ) (slot : Slot) → slot_of slots n ≡ Some slot → IsMarked notes n slot.node slot.note
  pub note : (k : ℕ) (note : Note) → slice_get notes k ≡ Some note → HasNote (slot_of slots note.number) k
  pub balance : length notes + count_by lacks_note slots ≡ count_by is_some slots

-- In a trial there is room for a note of each slot; else there is no note. So many slots lost their
-- node.
pub record IsSound (slots : List (Option Slot)) (notes : List Note) (room : ℕ) (in_trial : Bool) (freed : ℕ) : Type 0 where
  pub noted : AreNoted slots notes
  pub has_room : in_trial ≡ true → count_by is_some slots ≤ room
  pub is_still : in_trial ≡ false → notes ≡ []
  pub counted : count_by has_node slots + freed ≡ count_by is_some slots

-- A slot is ready to be written: in a trial it has a note now, and nothing else has changed.
pub record IsReady (in_trial : Bool) (n : ℕ) (slots : List (Option Slot)) (notes : List Note) (slots' : List (Option Slot)) (notes' : List Note) : Type 0 where
  pub noted : AreNoted slots' notes'
  pub is_still : in_trial ≡ false → notes' ≡ []
  pub others : (q : ℕ) → q ≢ n → slot_of slots' q ≡ slot_of slots q
  pub node : node_in (slot_of slots' n) ≡ node_in (slot_of slots n)
  pub there : is_some (slot_of slots' n) ≡ is_some (slot_of slots n)
  pub has_note : in_trial ≡ true → lacks_note (slot_of slots' n) ≡ false
  pub first : (q : ℕ) → first_in notes' (slot_of slots' q) ≡ first_in notes (slot_of slots q)

-- what is left of a slot when a trial ends: a node, without a note
abbrev pub kept : Option ArenaNode → Option Slot
kept None = None
kept (Some node) = Some (record { node = Some node; note = None })

-- the node that stays: the one that was there when the trial began, or the one that is
abbrev pub staying : Bool → List Note → Option Slot → Option ArenaNode
staying back notes slot = if back then first_in notes slot else node_in slot

abbrev pub is_below : Option ℕ → ℕ → Bool
is_below None count = false
is_below (Some k) count = nat_lt k count

-- the slot has one of the first so many notes
abbrev pub is_among : ℕ → Option Slot → Bool
is_among count None = false
is_among count (Some slot) = is_below slot.note count

-- a slot when the first so many notes are done
abbrev pub settled_to : Bool → List Note → ℕ → Option Slot → Option Slot
settled_to back notes count slot = if is_among count slot then kept (staying back notes slot) else slot

abbrev pub AreSettled : Bool → List Note → ℕ → List (Option Slot) → List (Option Slot) → Type 0
AreSettled back notes count old new = (n : ℕ) → slot_of new n ≡ settled_to back notes count (slot_of old n)

-- a slot with another value in a field of its node
abbrev pub with_slot_field : Field → Slot → Slot
with_slot_field field slot = record slot { node = option_map (with_field field) slot.node }

-- a slot without its node
abbrev pub vacated : Slot → Slot
vacated slot = record slot { node = None }
