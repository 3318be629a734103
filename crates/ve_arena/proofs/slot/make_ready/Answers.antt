use Rattle.std.specs.Prelude.{vec_len, slice_set}
use Rattle.std.proofs.Common.{rules, refl, ◌≡◌, ◌∙◌, ℕ, Option, Some, None, is_some, sym, subst, List, ◌∷◌, [], ◌++◌, length, false}
use Rattle.ve_arena.specs.declared.slot.Note.{Note}
use Rattle.ve_arena.specs.Slots.{IsReady}
use Rattle.ve_arena.proofs.NoteLemmas.{readied}
use Rattle.ve_arena.proofs.slot.make_ready.Goals as goal

no_mark : (mark : Option ℕ) → false ≡ is_some mark → mark ≡ None
no_mark None h = refl
no_mark (Some k) h = cc

pub returns-clause-ready : goal.returns-clause-ready
returns-clause-ready c =
    let slots = c.args.slots.now.slots in
    let notes = c.args.notes.now.items in
    let n = c.args.number in
    let slot = c.index.result.now in
    let note : Note = record { number = n; node = slot.node } in
    let long : vec_len c.args.notes.now ≡ length notes = search rules in
    subst (λ (items : List Note). IsReady c.args.in_trial n slots notes (slice_set slots n (Some (record { node = slot.node; note = Some c.len.result }))) items)
    (sym c.push_reserved.ensures.items)
    (subst (λ k. IsReady c.args.in_trial n slots notes (slice_set slots n (Some (record { node = slot.node; note = Some k }))) (notes ++ note ∷ []))
    (sym (c.len.ensures ∙ long))
    (readied slots notes n slot c.requires.noted c.index.ensures (no_mark slot.note c.if-is_some.ensures) c.args.in_trial c.if-not-in_trial.false))
