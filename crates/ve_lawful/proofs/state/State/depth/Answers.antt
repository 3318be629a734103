use Rattle.std.proofs.Common.{length, sym, ap, ◌∙◌}
use Rattle.model_items.specs.Law as law
use Rattle.ve_lawful.proofs.StackLemmas.{length_stack_of}
use Rattle.ve_lawful.proofs.state.State.depth.Goals as goal

pub returns-clause-depth : goal.returns-clause-depth
returns-clause-depth c = sym (length_stack_of c.self.inside.kinds c.self.inside.len) ∙ ap (λ (s : law.State). length s.stack) c.self.view_is
