use Rattle.std.proofs.Common.{sym, ap, ◌∙◌}
use Rattle.model_items.specs.Law.{top}
use Rattle.ve_edits.proofs.StackLemmas.{stack_is, top_none, top_some}
use Rattle.ve_lists.proofs.brackets.kind_at.Goals as goal

pub returns-then-depth-eq0 : goal.returns-then-depth-eq0
returns-then-depth-eq0 c = λ values.
    let state = c.state_at-state.result in
    sym (ap top (stack_is values c.args.doc.list.now.items c.args.o state c.state_at-state.ensures) ∙ top_none state.stack (sym c.depth.ensures.depth ∙ c.if-depth-eq0.true))

pub returns : goal.returns
returns c = λ values.
    let state = c.state_at-state.result in
    sym (ap top (stack_is values c.args.doc.list.now.items c.args.o state c.state_at-state.ensures) ∙ top_some state.stack c.kind.result c.kind.ensures)
