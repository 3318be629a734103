use Rattle.std.proofs.Common.{sym, ◌∙◌}
use Rattle.ve_classify.proofs.ValueLemmas.{found}
use Rattle.ve_classify.proofs.values.spelled_value.Goals as goal

pub returns-then-eq : goal.returns-then-eq
returns-then-eq c = found c.args.attrs c.loop-attr.attr-iterator c.next.new.self c.in-Some.attr c.args.name.now c.loop-attr.invariant.2 c.in-Some.ensures.steps (sym c.eq.ensures ∙ c.if-eq.true)
