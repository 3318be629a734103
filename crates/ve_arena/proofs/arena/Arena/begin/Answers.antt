use Rattle.std.proofs.Common.{◌≡◌, ◌∙◌, Some, ap, sym, Option, None, true, false, Bool, List, refl}
use Rattle.std.specs.Prelude.{if◌then◌else◌}
use Rattle.ve_arena.specs.declared.slot.Note.{Note}
use Rattle.ve_arena.specs.Arena.{ArenaView}
use Rattle.ve_arena.specs.Slots.{first_nodes}
use Rattle.ve_arena.proofs.SettleLemmas.{first_still}
use Rattle.ve_arena.proofs.SlotLemmas.{Nodes}
use Rattle.ve_arena.proofs.arena.Arena.begin.Goals as goal

-- no trial runs where there are no first slots
no_trial : (in_trial : Bool) (nodes : Nodes) → (if in_trial then Some nodes else None) ≡ None → in_trial ≡ false
no_trial false nodes e = refl
no_trial true nodes e = cc

pub returns-clause-first : goal.returns-clause-first
returns-clause-first c =
    let s = c.self.inside in
    let still = no_trial s.in_trial (first_nodes s.slots.slots s.notes.items) (ap (λ (v : ArenaView). v.first) c.self.view_is ∙ c.requires.none) in
    ap (λ (n : Nodes). Some n)
    (ap (first_nodes s.slots.slots) c.reserve.ensures.items
    ∙ first_still s.slots.slots s.notes.items c.self.invariant.noted (c.self.invariant.is_still still)
    ∙ ap (λ (v : ArenaView). v.slots) c.self.view_is)
