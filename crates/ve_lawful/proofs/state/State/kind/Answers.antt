use Rattle.std.proofs.Common.{◌<◌, length, slice_get, sym, ap, ◌∙◌, arith}
use Rattle.model_items.specs.Law as law
use Rattle.ve_lawful.proofs.StackLemmas.{length_stack_of, stack_at}
use Rattle.ve_lawful.proofs.state.State.kind.Goals as goal

pub overflow_sub-result-2 : goal.overflow_sub-result-2
overflow_sub-result-2 c =
    let depth = sym (length_stack_of c.self.inside.kinds c.self.inside.len) ∙ ap (λ (s : law.State). length s.stack) c.self.view_is in
    let within : c.args.n < length c.args.self.now.stack = c.requires in
    omega arith

pub returns : goal.returns
returns c =
    let depth = sym (length_stack_of c.self.inside.kinds c.self.inside.len) ∙ ap (λ (s : law.State). length s.stack) c.self.view_is in
    let within : c.args.n < length c.args.self.now.stack = c.requires in
    let below : c.args.n < c.self.inside.len = omega arith in
    ap (λ (s : law.State). slice_get s.stack c.args.n) (sym c.self.view_is) ∙ stack_at c.self.inside.kinds c.self.inside.len c.args.n below
