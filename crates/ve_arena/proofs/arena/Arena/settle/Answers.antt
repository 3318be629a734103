use Rattle.std.proofs.Common.{◌≡◌, ◌∙◌, ap, sym, subst, length, List}
use Rattle.std.specs.Prelude.{if◌then◌else◌, vec_capacity}
use Rattle.ve_arena.specs.declared.slot.Note.{Note}
use Rattle.ve_arena.specs.Arena.{ArenaView, first_slots, settled}
use Rattle.ve_arena.specs.Slots.{AreSettled, staying, slot_of}
use Rattle.ve_arena.proofs.SettleLemmas.{first_shown, kept_at, nodes_kept, sound_kept}
use Rattle.ve_arena.proofs.SlotLemmas.{Slots}
use Rattle.ve_arena.proofs.arena.Arena.settle.Goals as goal

pub invariant_of-self : goal.invariant_of-self
invariant_of-self c =
    let s = c.self.inside in
    let old : Slots = s.slots.slots in
    let new : Slots = c.settle.new.slots.slots in
    let notes : List Note = s.notes.items in
    let all = subst (λ (l : List Note). AreSettled c.args.back l (length l) old new) c.as_slice.ensures.value c.settle.ensures in
    sound_kept new (λ n. staying c.args.back notes (slot_of old n)) (kept_at c.args.back notes old new c.self.invariant.noted all) c.clear.new.self.items (vec_capacity c.clear.new.self) c.clear.ensures.items

pub returns : goal.returns
returns c =
    let s = c.self.inside in
    let now = c.args.self.now in
    let old : Slots = s.slots.slots in
    let new : Slots = c.settle.new.slots.slots in
    let notes : List Note = s.notes.items in
    let are = c.self.invariant.noted in
    let all = subst (λ (l : List Note). AreSettled c.args.back l (length l) old new) c.as_slice.ensures.value c.settle.ensures in
    let first = sym (first_shown old notes s.in_trial are c.self.invariant.is_still) ∙ ap first_slots c.self.view_is in
    let slots = ap (λ (v : ArenaView). v.slots) c.self.view_is in
    ap settled (nodes_kept c.args.back notes old new (kept_at c.args.back notes old new are all) ∙ (λ i. if c.args.back then first i else slots i))
