use Rattle.std.proofs.Common.{◌≡◌, ◌≢◌, ◌≤◌, ◌∙◌, ap, sym, subst, refl, IsSome, Some, None, ℕ, Option, arith, is_some}
use Rattle.std.specs.Prelude.{option_map, vec_capacity, if◌then◌else◌}
use Rattle.ve_arena.specs.declared.node.ArenaNode.{ArenaNode}
use Rattle.ve_arena.specs.declared.slot.Slot.{Slot}
use Rattle.ve_arena.specs.Arena.{ArenaView, slot_at, with_field}
use Rattle.ve_arena.specs.Slots.{node_in, slot_of, with_slot_field, has_node}
use Rattle.ve_arena.proofs.SlotLemmas.{Slots, live_in, shows, there}
use Rattle.ve_arena.proofs.WriteLemmas.{first_same, is_one, live_map, node_with_field, puts, ready_slot, written_first, written_nodes, written_sound}
use Rattle.ve_arena.proofs.arena.Arena.write.Goals as goal

pub make_ready-requires-clause-there : goal.make_ready-requires-clause-there
make_ready-requires-clause-there c =
    there _ (live_in c.self.inside.slots.slots c.args.self.now c.args.n.0 (ap (λ (v : ArenaView). v.slots) c.self.view_is) c.requires)

pub set_field-requires : goal.set_field-requires
set_field-requires c =
    let old : Slots = c.self.inside.slots.slots in
    let live = live_in old c.args.self.now c.args.n.0 (ap (λ (v : ArenaView). v.slots) c.self.view_is) c.requires in
    let found = ready_slot (slot_of c.make_ready.new.slots.slots c.args.n.0) (slot_of old c.args.n.0) c.make_ready.ensures.ready.node live in
    subst (λ (s : Option Slot). IsSome s) (sym found.1) refl

pub invariant_of-self : goal.invariant_of-self
invariant_of-self c =
    let s = c.self.inside in
    let old : Slots = s.slots.slots in
    let mid : Slots = c.make_ready.new.slots.slots in
    let new : Slots = c.set_field.new.slots.slots in
    let n = c.args.n.0 in
    let ready = c.make_ready.ensures.ready in
    let live = live_in old c.args.self.now n (ap (λ (v : ArenaView). v.slots) c.self.view_is) c.requires in
    let found = ready_slot (slot_of mid n) (slot_of old n) ready.node live in
    let has = subst (λ (x : Option ArenaNode). IsSome x) (sym ready.node ∙ ap node_in found.1) live in
    let node = option_map (with_field c.args.field) found.0.node in
    let is = live_map (with_field c.args.field) found.0.node has in
    let was_one = is_one found.0.node has in
    let is_one = is_one node is in
    written_sound s.in_trial n old s.notes.items mid c.make_ready.new.notes.items ready found.0 found.1 node (λ e. is) new
    (c.set_field.ensures.here ∙ ap (option_map (with_slot_field c.args.field)) found.1) c.set_field.ensures.others
    (vec_capacity s.notes) (vec_capacity c.make_ready.new.notes) s.freed s.freed c.self.invariant c.make_ready.ensures.room (omega (arith, was_one, is_one))

pub returns-clause-write : goal.returns-clause-write
returns-clause-write c =
    let s = c.self.inside in
    let old : Slots = s.slots.slots in
    let mid : Slots = c.make_ready.new.slots.slots in
    let new : Slots = c.set_field.new.slots.slots in
    let n = c.args.n.0 in
    let ready = c.make_ready.ensures.ready in
    let view = ap (λ (v : ArenaView). v.slots) c.self.view_is in
    let node = ap node_in c.set_field.ensures.here ∙ node_with_field c.args.field (slot_of mid n)
    ∙ ap (option_map (with_field c.args.field)) (ready.node ∙ sym (shows old n) ∙ ap (λ l. slot_at l n) view) in
    puts old new c.args.self.now.slots c.args.n _ view node (λ q ne. ap node_in (c.set_field.ensures.others q ne ∙ ready.others q ne))

pub returns-clause-first : goal.returns-clause-first
returns-clause-first c =
    let s = c.self.inside in
    let old : Slots = s.slots.slots in
    let mid : Slots = c.make_ready.new.slots.slots in
    let new : Slots = c.set_field.new.slots.slots in
    let n = c.args.n.0 in
    let ready = c.make_ready.ensures.ready in
    let live = live_in old c.args.self.now n (ap (λ (v : ArenaView). v.slots) c.self.view_is) c.requires in
    let found = ready_slot (slot_of mid n) (slot_of old n) ready.node live in
    let has = subst (λ (x : Option ArenaNode). IsSome x) (sym ready.node ∙ ap node_in found.1) live in
    let node = option_map (with_field c.args.field) found.0.node in
    let is = live_map (with_field c.args.field) found.0.node has in
    first_same s.in_trial old new s.notes.items c.make_ready.new.notes.items
    (written_first s.in_trial n old s.notes.items mid c.make_ready.new.notes.items ready found.0 found.1 node (λ e. is) new
    (c.set_field.ensures.here ∙ ap (option_map (with_slot_field c.args.field)) found.1) c.set_field.ensures.others)
    ∙ ap (λ (v : ArenaView). v.first) c.self.view_is
