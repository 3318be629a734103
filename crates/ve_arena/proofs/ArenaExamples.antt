-- An arena of a paragraph and its text: the paragraph has number 0, number 1 is vacant, the text
-- has number 2.
use Rattle.std.proofs.Common.{◌≡◌, ◌∷◌, List, [], Option, Some, None, true, false, count_by, map, refl}
use Rattle.ve_kinds.specs.declared.kind.Kind.TheVariants.{P}
use Rattle.ve_arena.specs.declared.node.NodeWhat.TheVariants.{Node, Run}
use Rattle.ve_arena.specs.declared.node.ArenaNode.{ArenaNode}
use Rattle.ve_arena.specs.declared.slot.Note.{Note}
use Rattle.ve_arena.specs.declared.slot.Slot.{Slot}
use Rattle.ve_arena.specs.Slots.{first_nodes, lacks_note, nodes_in, settled_to}
use Rattle.ve_arena.specs.Arena.{node_under, new_node, with_parent, with_first, with_last, with_before, with_after, with_len, live_count, settled, first_slots}

abbrev text : ArenaNode
text = with_len 3 (with_parent (Some (record { 0 = 0 })) (new_node Run))

abbrev slots : List (Option ArenaNode)
slots = Some (new_node (Node P)) ∷ None ∷ Some text ∷ []

here : node_under slots (record { 0 = 2 }) ≡ Some text
here = refl

vacant : node_under slots (record { 0 = 1 }) ≡ None
vacant = refl

past : node_under slots (record { 0 = 3 }) ≡ None
past = refl

written : with_first (Some (record { 0 = 4 })) (with_last (Some (record { 0 = 5 })) (with_before None (with_after (Some (record { 0 = 6 })) text)))
    ≡ record { what = Run; parent = Some (record { 0 = 0 }); first = Some (record { 0 = 4 }); last = Some (record { 0 = 5 }); before = None; after = Some (record { 0 = 6 }); len = 3 }
written = refl

counted : live_count slots ≡ 2
counted = refl

-- A trial began when the paragraph had no text; without a trial, the slots are their own first ones.
began : first_slots (record { slots = slots; first = Some (Some (new_node (Node P)) ∷ []) }) ≡ Some (new_node (Node P)) ∷ []
began = refl

no_trial : first_slots (settled slots) ≡ slots
no_trial = refl

-- ---- how it is kept: in a trial the text was made under number 2, and the paragraph was freed

abbrev notes : List Note
notes = record { number = 2; node = None } ∷ record { number = 0; node = Some (new_node (Node P)) } ∷ []

abbrev kept_slots : List (Option Slot)
kept_slots = Some (record { node = None; note = Some 1 }) ∷ None ∷ Some (record { node = Some text; note = Some 0 }) ∷ []

shown : nodes_in kept_slots ≡ None ∷ None ∷ Some text ∷ []
shown = refl

shown_first : first_nodes kept_slots notes ≡ Some (new_node (Node P)) ∷ []
shown_first = refl

none_lack : count_by lacks_note kept_slots ≡ 0
none_lack = refl

-- one note done, and both
half_back : map (settled_to true notes 1) kept_slots ≡ Some (record { node = None; note = Some 1 }) ∷ None ∷ None ∷ []
half_back = refl

all_back : map (settled_to true notes 2) kept_slots ≡ Some (record { node = Some (new_node (Node P)); note = None }) ∷ None ∷ None ∷ []
all_back = refl

all_kept : map (settled_to false notes 2) kept_slots ≡ None ∷ None ∷ Some (record { node = Some text; note = None }) ∷ []
all_kept = refl
