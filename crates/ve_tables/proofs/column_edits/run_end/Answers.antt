use Rattle.std.proofs.Common.{arith}
use Rattle.ve_tables.proofs.ColumnLemmas.{run_ended, run_goes_on}
use Rattle.ve_tables.proofs.column_edits.run_end.Goals as goal

pub returns-then-cells-next : goal.returns-then-cells-next
returns-then-cells-next c =
    let inv = c.loop-next.invariant in
    run_ended c.args.row c.args.rows c.args.cells.now c.args.from c.loop-next.next inv.order c.loop-next-test.true inv.rise inv.run c.if-cells-next.true

pub loop-next-preserved : goal.loop-next-preserved
loop-next-preserved c =
    let inv = c.loop-next.invariant in
    let r = run_goes_on c.args.row c.args.rows c.args.cells.now c.args.from c.loop-next.next inv.order c.loop-next-test.true inv.rise inv.run c.if-cells-next.false in
    record { order = omega (arith, inv.order); within = omega (arith, c.loop-next-test.true); rise = r.0; run = r.1 }
