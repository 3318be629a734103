use Rattle.std.proofs.Common.{sym, ◌∙◌, subst}
use Rattle.model_items.specs.Law.{finish}
use Rattle.ve_offsets.specs.States.{IsStateAt}
use Rattle.ve_offsets.proofs.StateLemmas.{state_at_end}
use Rattle.ve_offsets.proofs.state.state_at.Goals as goal

pub returns-then-o-len : goal.returns-then-o-len
returns-then-o-len c =
    let items = c.args.doc.list.now.items in
    subst (IsStateAt items c.args.o) (sym c.finished.ensures)
    (subst (λ o. IsStateAt items o finish) (sym (c.if-o-len.true ∙ c.len.ensures)) (state_at_end items c.requires.doc.links.lawful))
