use Rattle.std.proofs.Common.{◌∙◌, sym, arith}
use Rattle.ve_write.proofs.RangeLemmas.{none_stand, none_yet_stand, one_stands}
use Rattle.ve_write.proofs.range.some_stand_in.Goals as goal

pub returns-then-stands_in : goal.returns-then-stands_in
returns-then-stands_in c = one_stands c.args.from c.args.to c.args.rows.now c.loop-row.row-index c.row-item.result c.loop-row-test.true c.row-item.is (sym c.stands_in.ensures ∙ c.if-stands_in.true)

pub loop-row-preserved : goal.loop-row-preserved
loop-row-preserved c = none_yet_stand c.args.from c.args.to c.args.rows.now c.loop-row.row-index c.row-item.result c.loop-row-test.true c.row-item.is (sym c.stands_in.ensures ∙ c.if-stands_in.false) c.loop-row.invariant

pub returns : goal.returns
returns c = none_stand c.args.from c.args.to c.args.rows.now c.loop-row.row-index (omega (arith, c.loop-row-test.false)) c.loop-row.invariant
