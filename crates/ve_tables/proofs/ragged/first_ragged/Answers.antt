use Rattle.std.proofs.Common.{arith}
use Rattle.ve_tables.proofs.GapLemmas.{ragged_at, not_ragged}
use Rattle.ve_tables.proofs.ragged.first_ragged.Goals as goal

pub returns-then-gaps-row : goal.returns-then-gaps-row
returns-then-gaps-row c = λ g are more.
    ragged_at g c.args.gaps.now c.args.column are c.loop-row.row (omega (arith, c.loop-row-test.true)) c.loop-row.invariant (omega (arith, c.if-gaps-row.true)) more

pub returns : goal.returns
returns c = λ g are more.
    not_ragged g c.args.gaps.now c.args.column are (λ k inside. c.loop-row.invariant k (omega (arith, c.loop-row-test.false, inside))) more
