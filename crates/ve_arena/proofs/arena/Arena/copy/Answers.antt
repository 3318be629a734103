use Rattle.std.specs.Prelude.{vec_capacity}
use Rattle.std.proofs.Common.{◌≡◌, ◌+◌, ◌∙◌, arith, ap, sym, subst, List, length, false}
use Rattle.std.proofs.lemmas.List.Elements.{same_from_all_zip}
use Rattle.ve_arena.specs.declared.slot.Note.{Note}
use Rattle.ve_arena.specs.Arena.{ArenaView, live_count, settled}
use Rattle.ve_arena.specs.Slots.{AreNoted, AreSettled, slot_of, staying}
use Rattle.ve_arena.proofs.SettleLemmas.{kept_at, nodes_kept, same_clones, sound_kept}
use Rattle.ve_arena.proofs.SlotLemmas.{Slots, live_shown}
use Rattle.ve_arena.proofs.arena.Arena.copy.Goals as goal

pub returns-in_err-slots-clause-step_a_node : goal.returns-in_err-slots-clause-step_a_node
returns-in_err-slots-clause-step_a_node g c =
    let live = ap (λ (v : ArenaView). live_count v.slots) (sym c.self.view_is) ∙ live_shown c.self.inside.slots.slots in
    let counted = c.self.invariant.counted in
    let len = c.len.ensures in
    omega (arith, live, counted, len, c.loop.invariant, c.loop-test.false, c.loop.auto.counter-end)

pub returns-in_err-notes-clause-step_a_node : goal.returns-in_err-notes-clause-step_a_node
returns-in_err-notes-clause-step_a_node g c =
    let live = ap (λ (v : ArenaView). live_count v.slots) (sym c.self.view_is) ∙ live_shown c.self.inside.slots.slots in
    let counted = c.self.invariant.counted in
    let len = c.len.ensures in
    omega (arith, live, counted, len, c.loop.invariant, c.loop-test.false, c.loop.auto.counter-end)

pub settle-requires : goal.settle-requires
settle-requires g c =
    let s = c.self.inside in
    let old : Slots = s.slots.slots in
    let copied : Slots = c.in_ok-slots.slots.slots in
    let notes : List Note = s.notes.items in
    let same_slots = same_clones _ (λ x y e. e) old copied c.in_ok-slots.ensures.cases.slots in
    let same_notes = same_from_all_zip _ notes c.in_ok-notes.notes.items c.in_ok-notes.ensures.cases.0 (λ x y e. e) in
    subst (λ (l : List Note). AreNoted copied l) (sym (c.as_slice.ensures.value ∙ same_notes))
    (subst (λ (l : Slots). AreNoted l notes) (sym same_slots) c.self.invariant.noted)

pub invariant_of-result : goal.invariant_of-result
invariant_of-result g c =
    let s = c.self.inside in
    let old : Slots = s.slots.slots in
    let copied : Slots = c.in_ok-slots.slots.slots in
    let notes : List Note = s.notes.items in
    let same_slots = same_clones _ (λ x y e. e) old copied c.in_ok-slots.ensures.cases.slots in
    let same_notes = same_from_all_zip _ notes c.in_ok-notes.notes.items c.in_ok-notes.ensures.cases.0 (λ x y e. e) in
    let new : Slots = c.settle.new.slots.slots in
    let all : AreSettled false notes (length notes) old new =
    subst (λ (l : List Note). AreSettled false l (length l) old new) (c.as_slice.ensures.value ∙ same_notes)
    (subst (λ (l : Slots). AreSettled false c.as_slice.result.now (length c.as_slice.result.now) l new) same_slots c.settle.ensures) in
    let kept = kept_at false notes old new c.self.invariant.noted all in
    sound_kept new (λ n. staying false notes (slot_of old n)) kept c.clear.new.self.items (vec_capacity c.clear.new.self) c.clear.ensures.items

pub returns-clause-copy : goal.returns-clause-copy
returns-clause-copy g c =
    let s = c.self.inside in
    let old : Slots = s.slots.slots in
    let copied : Slots = c.in_ok-slots.slots.slots in
    let notes : List Note = s.notes.items in
    let same_slots = same_clones _ (λ x y e. e) old copied c.in_ok-slots.ensures.cases.slots in
    let same_notes = same_from_all_zip _ notes c.in_ok-notes.notes.items c.in_ok-notes.ensures.cases.0 (λ x y e. e) in
    let new : Slots = c.settle.new.slots.slots in
    let all : AreSettled false notes (length notes) old new =
    subst (λ (l : List Note). AreSettled false l (length l) old new) (c.as_slice.ensures.value ∙ same_notes)
    (subst (λ (l : Slots). AreSettled false c.as_slice.result.now (length c.as_slice.result.now) l new) same_slots c.settle.ensures) in
    let kept = kept_at false notes old new c.self.invariant.noted all in
    ap settled (nodes_kept false notes old new kept ∙ ap (λ (v : ArenaView). v.slots) c.self.view_is)

pub returns-clause-step_a_node : goal.returns-clause-step_a_node
returns-clause-step_a_node g c =
    let live = ap (λ (v : ArenaView). live_count v.slots) (sym c.self.view_is) ∙ live_shown c.self.inside.slots.slots in
    let counted = c.self.invariant.counted in
    let len = c.len.ensures in
    omega (arith, live, counted, len, c.loop.invariant, c.loop-test.false, c.loop.auto.counter-end)
