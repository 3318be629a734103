use Rattle.ve_read.proofs.UnitLemmas.{white_unit, run_unit, flow_block_unit}
use Rattle.ve_read.proofs.units.flow_unit.Goals as goal

pub returns-then-run-clause-unit : goal.returns-then-run-clause-unit
returns-then-run-clause-unit c =
    white_unit c.args.forest.now c.args.kind c.args.n c.args.to.end c.args.to.byte c.run_at-run.result.part.end c.run_at-run.result.part.byte c.is_in_run.result c.run_at-run.result.white c.requires.within
    c.run_at-run.ensures.more c.is_in_run.ensures c.if-is_in_run.true c.run_at-run.ensures.run c.if-run.true

pub returns-else-run-clause-unit : goal.returns-else-run-clause-unit
returns-else-run-clause-unit c =
    run_unit c.args.forest.now c.args.kind c.args.n c.args.to.end c.args.to.byte c.run_at-run.result.part.end c.run_at-run.result.part.byte c.is_in_run.result c.run_at-run.result.white c.requires.within
    c.is_in_run.ensures c.if-is_in_run.true c.run_at-run.ensures.run c.if-run.false

pub returns-else-is_in_run-clause-unit : goal.returns-else-is_in_run-clause-unit
returns-else-is_in_run-clause-unit c =
    flow_block_unit c.args.forest.now c.args.kind c.args.n c.args.to.end c.args.to.byte c.part_at-part.result.end c.part_at-part.result.byte c.is_in_run.result c.requires.within
    c.is_in_run.ensures c.if-is_in_run.false c.part_at-part.ensures.part
