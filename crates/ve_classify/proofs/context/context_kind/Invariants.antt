use Rattle.ve_classify.proofs.ContextLemmas.{LeftOf}
use Rattle.ve_classify.proofs.context.context_kind.Given as goal

abbrev pub invariant-loop-n : goal.invariant-loop-n
invariant-loop-n l = LeftOf l.text l.forest l.state.stack l.n
