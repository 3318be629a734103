use Rattle.ve_peer_undo.proofs.PositionLemmas.{found_first, none_more}
use Rattle.ve_peer_undo.proofs.live.position.Goals as goal

pub returns-then-numbers-i-clause-first : goal.returns-then-numbers-i-clause-first
returns-then-numbers-i-clause-first c = found_first c.args.number c.args.numbers.now c.loop-i.i _ c.loop-i-test.true c.loop-i.invariant c.if-numbers-i.true

pub loop-i-preserved : goal.loop-i-preserved
loop-i-preserved c = none_more c.args.number c.args.numbers.now c.loop-i.i _ c.loop-i-test.true c.loop-i.invariant c.if-numbers-i.false
