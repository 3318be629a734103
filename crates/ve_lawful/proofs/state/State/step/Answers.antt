use Rattle.std.proofs.Common.{sym, ap, ◌∙◌}
use Rattle.model_items.proofs.SameLemmas.{Means-kind_same}
use Rattle.model_items.specs.Law as law
use Rattle.ve_lawful.proofs.StackLemmas.{closed_stack_of}
use Rattle.ve_lawful.proofs.state.State.step.Goals as goal

pub returns-then-eq-clause-ok : goal.returns-then-eq-clause-ok
returns-then-eq-clause-ok c =
    let inside = c.self.inside in
    let view = c.self.view_is in
    let inner = ap (λ (s : law.State). law.top s.stack) view ∙ sym c.top-then-self-gt0.ensures in
    let same = Means-kind_same.equal c.top-then-self-gt0.result c.in-Closing.kind (sym c.if-eq.ensures) in
    rw (c.in-Closing.is, ← view)
    (closed_stack_of inside.kinds inside.len inside.seen c.in-Closing.kind c.if-self-gt0.true (inner ∙ same))
