use Rattle.ve_classify.proofs.ContextLemmas.{found, passed}
use Rattle.ve_classify.proofs.context.context_kind.Goals as goal

pub returns-then-fits : goal.returns-then-fits
returns-then-fits c = found c.args.text.now c.args.forest.now c.args.state.now.stack c.loop-n.n c.kind-kind.result c.fits.result c.loop-n.invariant c.kind-kind.ensures c.fits.ensures c.if-fits.true

pub loop-n-preserved : goal.loop-n-preserved
loop-n-preserved c = passed c.args.text.now c.args.forest.now c.args.state.now.stack c.loop-n.n c.kind-kind.result c.fits.result c.loop-n.invariant c.kind-kind.ensures c.fits.ensures c.if-fits.false
