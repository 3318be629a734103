use Rattle.std.proofs.Common.{true, false, refl}
use Rattle.ve_kinds.specs.declared.kind.Kind.TheVariants.{Root}
use Rattle.ve_classify.specs.declared.around.Fit.TheVariants as fit
use Rattle.ve_classify.proofs.UnitLemmas.{in_run}
use Rattle.ve_classify.proofs.runs.is_in_run.Goals as goal

pub returns-in-Inline : goal.returns-in-Inline
returns-in-Inline c = in_run c.args.forest.now c.args.n Root fit.Inline true c.in-Inline.ensures (λ _. refl) (λ other. absurd (other refl))

pub returns-in_default : goal.returns-in_default
returns-in_default c = in_run c.args.forest.now c.args.n Root c.fit.result false c.fit.ensures (λ e. absurd (c.in_default.not-Inline e)) (λ _. refl)
