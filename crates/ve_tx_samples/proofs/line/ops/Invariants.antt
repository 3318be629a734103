use Rattle.ve_tx_samples.specs.NoValues.{OpsCiteNothing}
use Rattle.ve_tx_samples.proofs.line.ops.Given as goal

abbrev pub invariant-loop-word : goal.invariant-loop-word
invariant-loop-word l = (goal.iterator-loop-word).can_next l.word-iterator × ((goal.iterator-loop-word).is_finite l.word-iterator × OpsCiteNothing l.ops)
