use Rattle.ve_lawful.proofs.PieceLemmas.{one_more, stopped_at}
use Rattle.ve_lawful.proofs.piece.go_on.Goals as goal

pub returns-in-Err-clause-err : goal.returns-in-Err-clause-err
returns-in-Err-clause-err c =
    stopped_at c.args.state.now c.loop-n.state c.args.items.now c.args.at c.loop-n.n _ c.in-Err.fault c.moved_to.result c.loop-n-test.true c.loop-n.invariant c.in-Err.ensures.err
    c.moved_to.ensures

pub loop-n-preserved : goal.loop-n-preserved
loop-n-preserved c =
    one_more c.args.state.now c.loop-n.state c.step.new.self c.args.items.now c.loop-n.n _ c.loop-n-test.true c.loop-n.invariant c.in-Ok.ensures.ok
