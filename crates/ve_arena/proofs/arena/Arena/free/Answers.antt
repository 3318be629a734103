use Rattle.std.proofs.Common.{◌≡◌, ◌≢◌, ◌≤◌, ◌+◌, ◌∙◌, ap, sym, subst, refl, IsSome, Some, None, ℕ, Option, arith, is_some}
use Rattle.std.specs.Prelude.{option_map, vec_capacity, if◌then◌else◌}
use Rattle.ve_arena.specs.declared.node.ArenaNode.{ArenaNode}
use Rattle.ve_arena.specs.declared.slot.Slot.{Slot}
use Rattle.ve_arena.specs.Arena.{ArenaView}
use Rattle.ve_arena.specs.Slots.{node_in, slot_of, vacated}
use Rattle.ve_arena.proofs.SlotLemmas.{Slots, live_in, there}
use Rattle.ve_arena.proofs.WriteLemmas.{first_same, is_one, marked_slot, node_vacated, puts, ready_slot, removed_sound, written_first, written_sound}
use Rattle.ve_arena.proofs.arena.Arena.free.Goals as goal

pub make_ready-requires-clause-there : goal.make_ready-requires-clause-there
make_ready-requires-clause-there g c =
    there _ (live_in c.self.inside.slots.slots c.args.self.now c.args.n.0 (ap (λ (v : ArenaView). v.slots) c.self.view_is) c.requires)

pub vacate-requires : goal.vacate-requires
vacate-requires g c =
    let old : Slots = c.self.inside.slots.slots in
    let live = live_in old c.args.self.now c.args.n.0 (ap (λ (v : ArenaView). v.slots) c.self.view_is) c.requires in
    let found = ready_slot (slot_of c.make_ready.new.slots.slots c.args.n.0) (slot_of old c.args.n.0) c.make_ready.ensures.ready.node live in
    subst (λ (s : Option Slot). IsSome s) (sym found.1) refl

pub invariant_of-self : goal.invariant_of-self
invariant_of-self g c =
    let s = c.self.inside in
    let old : Slots = s.slots.slots in
    let mid : Slots = c.make_ready.new.slots.slots in
    let new : Slots = c.vacate.new.slots.slots in
    let n = c.args.n.0 in
    let ready = c.make_ready.ensures.ready in
    let live = live_in old c.args.self.now n (ap (λ (v : ArenaView). v.slots) c.self.view_is) c.requires in
    let found = ready_slot (slot_of mid n) (slot_of old n) ready.node live in
    let has = subst (λ (x : Option ArenaNode). IsSome x) (sym ready.node ∙ ap node_in found.1) live in
    let was_one = is_one found.0.node has in
    written_sound s.in_trial n old s.notes.items mid c.make_ready.new.notes.items ready found.0 found.1 None (λ e. absurd (marked_slot (slot_of mid n) found.0 found.1 (ready.has_note c.if-self.true) e)) new
    (c.vacate.ensures.here ∙ ap (option_map vacated) found.1) c.vacate.ensures.others
    (vec_capacity s.notes) (vec_capacity c.make_ready.new.notes) s.freed (s.freed + 1) c.self.invariant c.make_ready.ensures.room (omega (arith, was_one))

pub returns-then-self-clause-gone : goal.returns-then-self-clause-gone
returns-then-self-clause-gone g c =
    let ready = c.make_ready.ensures.ready in
    puts c.self.inside.slots.slots c.vacate.new.slots.slots c.args.self.now.slots c.args.n None (ap (λ (v : ArenaView). v.slots) c.self.view_is)
    (ap node_in c.vacate.ensures.here ∙ node_vacated _)
    (λ q ne. ap node_in (c.vacate.ensures.others q ne ∙ ready.others q ne))

pub returns-then-self-clause-first : goal.returns-then-self-clause-first
returns-then-self-clause-first g c =
    let s = c.self.inside in
    let old : Slots = s.slots.slots in
    let mid : Slots = c.make_ready.new.slots.slots in
    let new : Slots = c.vacate.new.slots.slots in
    let n = c.args.n.0 in
    let ready = c.make_ready.ensures.ready in
    let live = live_in old c.args.self.now n (ap (λ (v : ArenaView). v.slots) c.self.view_is) c.requires in
    let found = ready_slot (slot_of mid n) (slot_of old n) ready.node live in
    first_same s.in_trial old new s.notes.items c.make_ready.new.notes.items
    (written_first s.in_trial n old s.notes.items mid c.make_ready.new.notes.items ready found.0 found.1 None (λ e. absurd (marked_slot (slot_of mid n) found.0 found.1 (ready.has_note c.if-self.true) e)) new
    (c.vacate.ensures.here ∙ ap (option_map vacated) found.1) c.vacate.ensures.others)
    ∙ ap (λ (v : ArenaView). v.first) c.self.view_is

pub remove-requires : goal.remove-requires
remove-requires g c =
    let old : Slots = c.self.inside.slots.slots in
    let live = live_in old c.args.self.now c.args.n.0 (ap (λ (v : ArenaView). v.slots) c.self.view_is) c.requires in
    let found = ready_slot (slot_of c.make_ready.new.slots.slots c.args.n.0) (slot_of old c.args.n.0) c.make_ready.ensures.ready.node live in
    subst (λ (s : Option Slot). IsSome s) (sym found.1) refl

pub invariant_of-self-2 : goal.invariant_of-self-2
invariant_of-self-2 g c =
    let s = c.self.inside in
    let old : Slots = s.slots.slots in
    let mid : Slots = c.make_ready.new.slots.slots in
    let n = c.args.n.0 in
    let ready = c.make_ready.ensures.ready in
    let live = live_in old c.args.self.now n (ap (λ (v : ArenaView). v.slots) c.self.view_is) c.requires in
    let found = ready_slot (slot_of mid n) (slot_of old n) ready.node live in
    let has = subst (λ (x : Option ArenaNode). IsSome x) (sym ready.node ∙ ap node_in found.1) live in
    removed_sound s.in_trial n old s.notes.items mid c.make_ready.new.notes.items ready c.if-self.false found.0 found.1 has c.remove.new.self.slots c.remove.ensures.updates.changed c.remove.ensures.updates.others
    (vec_capacity s.notes) (vec_capacity c.make_ready.new.notes) s.freed c.self.invariant

pub returns-clause-gone : goal.returns-clause-gone
returns-clause-gone g c =
    let ready = c.make_ready.ensures.ready in
    puts c.self.inside.slots.slots c.remove.new.self.slots c.args.self.now.slots c.args.n None (ap (λ (v : ArenaView). v.slots) c.self.view_is)
    (ap node_in c.remove.ensures.updates.changed)
    (λ q ne. ap node_in (c.remove.ensures.updates.others q ne ∙ ready.others q ne))
