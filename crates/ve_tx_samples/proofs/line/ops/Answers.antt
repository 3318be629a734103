use Rattle.std.proofs.Common.{sym, subst}
use Rattle.ve_tx_samples.specs.NoValues.{OpsCiteNothing}
use Rattle.ve_tx_samples.proofs.OpsLemmas.{one_more}
use Rattle.ve_tx_samples.proofs.line.ops.Goals as goal

pub loop-word-preserved : goal.loop-word-preserved
loop-word-preserved c =
    let more = one_more c.loop-word.ops c.in_ok-op.field-0 c.loop-word.invariant.1.1 c.in_ok-op.ensures in
    (tt, (tt, subst OpsCiteNothing (sym c.in_ok-push.ensures.ok) more))
