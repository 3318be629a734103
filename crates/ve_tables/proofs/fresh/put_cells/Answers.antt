use Rattle.ve_tables.proofs.FreshLemmas.{cells_skipped, cells_put}
use Rattle.ve_tables.proofs.fresh.put_cells.Goals as goal

pub loop-taken-preserved-then-taken : goal.loop-taken-preserved-then-taken
loop-taken-preserved-then-taken c =
    cells_skipped c.args.items.now c.loop-taken.items c.args.taken.now c.loop-taken.taken-index _ c.loop-taken-test.true c.if-taken.true c.loop-taken.invariant

pub loop-taken-preserved : goal.loop-taken-preserved
loop-taken-preserved c =
    cells_put c.args.items.now c.loop-taken.items c.new_cell-cell.result c.extend.new.self c.args.taken.now c.loop-taken.taken-index _ c.loop-taken-test.true c.if-taken.false c.in_ok-extend.ensures.ok
    c.new_cell-cell.ensures.means c.new_cell-cell.ensures.cites c.loop-taken.invariant
