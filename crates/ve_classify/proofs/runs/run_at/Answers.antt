use Rattle.std.proofs.Common.{◌≡◌, ◌&&◌, sym, ap, ◌∙◌, arith}
use Rattle.ve_classify.proofs.UnitLemmas.{begins, goes_on, both_true, both_false, run_ends, over_at_end, over_at_block}
use Rattle.ve_classify.proofs.runs.run_at.Goals as goal
use Rattle.ve_classify.proofs.runs.run_at.Goals.{then-white, else-white}

pub parts-init : goal.parts-init
parts-init c = record {
  more = c.part_at-part.ensures.more;
  bound = c.part_at-part.ensures.bound;
  so_far = begins c.args.forest.now c.args.n c.args.to c.args.byte c.part_at-part.result.end c.part_at-part.result.byte c.is_white_text-white.result c.node.result.now c.part_at-part.ensures.part c.node.ensures c.is_white_text-white.ensures;
}

pub parts-preserved : goal.parts-preserved
parts-preserved c =
    let both : c.if-white.white ≡ (c.parts.white && c.is_white_text-text.result) =
    elim c.if-white.branch [
      | then-white w ↦ both_true c.parts.white c.is_white_text-text.result c.if-white.white w.if-white.true w.white-is
      | else-white w ↦ both_false c.parts.white c.is_white_text-text.result c.if-white.white w.if-white.false w.white-is
    ] in
    record {
      more = omega (arith, c.parts.invariant.more, c.part_at-part-in-parts.ensures.more);
      bound = c.part_at-part-in-parts.ensures.bound;
      so_far = goes_on c.args.forest.now c.args.n c.args.to c.args.byte c.parts.part.end c.parts.part.byte c.part_at-part-in-parts.result.end c.part_at-part-in-parts.result.byte c.parts.white c.is_in_run.result c.is_white_text-text.result c.node-in-parts.result.now c.parts-test.true c.parts.invariant.so_far c.is_in_run.ensures c.if-is_in_run.true c.part_at-part-in-parts.ensures.part c.node-in-parts.ensures c.is_white_text-text.ensures c.if-white.white both;
    }

pub returns-else-is_in_run-clause-run : goal.returns-else-is_in_run-clause-run
returns-else-is_in_run-clause-run c =
    run_ends c.args.forest.now c.args.n c.args.to c.args.byte c.parts.part.end c.parts.part.byte c.parts.white c.parts.invariant.so_far
    (over_at_block c.args.forest.now c.args.to c.args.byte c.parts.part.end c.parts.part.byte c.is_in_run.result c.parts-test.true c.is_in_run.ensures c.if-is_in_run.false)

pub returns-after-parts-clause-run : goal.returns-after-parts-clause-run
returns-after-parts-clause-run c =
    run_ends c.args.forest.now c.args.n c.args.to c.args.byte c.parts.part.end c.parts.part.byte c.parts.white c.parts.invariant.so_far
    (over_at_end c.args.forest.now c.args.to c.args.byte c.parts.part.end c.parts.part.byte c.parts-test.false)
