use Rattle.std.proofs.Common.{◌≡◌, ◌≢◌, ◌≤◌, ◌+◌, ◌∙◌, ap, sym, subst, refl, Some, None, ℕ, Option, arith, List, ◌∷◌, [], ◌++◌, length, Bool}
use Rattle.std.specs.Prelude.{vec_capacity, if◌then◌else◌}
use Rattle.ve_arena.specs.declared.slot.Slot.{Slot}
use Rattle.ve_arena.specs.declared.slot.Note.{Note}
use Rattle.ve_arena.specs.Arena.{ArenaView, new_node, slot_at}
use Rattle.ve_arena.specs.Slots.{node_in, slot_of}
use Rattle.ve_arena.proofs.SlotLemmas.{Slots, shows}
use Rattle.ve_arena.proofs.MakeLemmas.{made_first, made_sound, slot_with}
use Rattle.ve_arena.proofs.WriteLemmas.{first_same, puts}
use Rattle.ve_arena.proofs.arena.Arena.make.Goals as goal

pub invariant_of-self-2 : goal.invariant_of-self-2
invariant_of-self-2 g c =
    let s = c.self.inside in
    let old : Slots = s.slots.slots in
    let new : Slots = c.insert.new.self.slots in
    let n = c.in_ok-number.number in
    let node = new_node c.args.what in
    let notes : List Note = s.notes.items in
    let updates = c.in_ok-number.ensures.updates in
    let same = c.reserve_notes.ensures.items in
    let told = c.as_slice.ensures.value ∙ same in
    let mark = c.note_for-note.ensures ∙ ap (λ (l : List Note). if s.in_trial then Some (length l) else None) told in
    let here = updates.changed ∙ ap (slot_with node) mark in
    let note : Note = record { number = n; node = None } in
    let more = c.push_note.ensures.items ∙ ap (λ (l : List Note). if s.in_trial then l ++ note ∷ [] else l) same in
    made_sound old notes c.self.invariant.noted n node new c.in_ok-number.ensures.was_vacant updates.others s.in_trial c.push_note.new.notes.items
    (vec_capacity s.notes) (vec_capacity c.push_note.new.notes) s.freed here more c.self.invariant
    (λ runs.
    let fits = c.in_ok-reserve_notes.ensures.room runs in
    let count = c.len.ensures in
    let same_room = c.push_note.ensures.room in
    omega (arith, fits, count, same_room))

pub returns-clause-free : goal.returns-clause-free
returns-clause-free g c =
    ap (λ (v : ArenaView). slot_at v.slots c.in_ok-number.number) (sym c.self.view_is) ∙ shows c.self.inside.slots.slots c.in_ok-number.number ∙ ap node_in c.in_ok-number.ensures.was_vacant

pub returns-clause-made : goal.returns-clause-made
returns-clause-made g c =
    let own = c.in_ok-number.ensures in
    puts c.self.inside.slots.slots c.insert.new.self.slots c.args.self.now.slots (record { 0 = c.in_ok-number.number }) (Some (new_node c.args.what)) (ap (λ (v : ArenaView). v.slots) c.self.view_is)
    (ap node_in own.updates.changed) (λ q ne. ap node_in (own.updates.others q ne))

pub returns-clause-first : goal.returns-clause-first
returns-clause-first g c =
    let s = c.self.inside in
    let old : Slots = s.slots.slots in
    let new : Slots = c.insert.new.self.slots in
    let n = c.in_ok-number.number in
    let node = new_node c.args.what in
    let notes : List Note = s.notes.items in
    let updates = c.in_ok-number.ensures.updates in
    let same = c.reserve_notes.ensures.items in
    let told = c.as_slice.ensures.value ∙ same in
    let mark = c.note_for-note.ensures ∙ ap (λ (l : List Note). if s.in_trial then Some (length l) else None) told in
    let here = updates.changed ∙ ap (slot_with node) mark in
    let note : Note = record { number = n; node = None } in
    let more = c.push_note.ensures.items ∙ ap (λ (l : List Note). if s.in_trial then l ++ note ∷ [] else l) same in
    first_same s.in_trial old new notes c.push_note.new.notes.items
    (made_first old notes c.self.invariant.noted n node new c.in_ok-number.ensures.was_vacant updates.others s.in_trial c.push_note.new.notes.items here more)
    ∙ ap (λ (v : ArenaView). v.first) c.self.view_is
