use Rattle.std.proofs.Common.{◌+◌, arith}
use Rattle.std.proofs.lemmas.Option.{slice_get-get_or}
use Rattle.ve_write.proofs.DepthLemmas.{over_char, over_opening, over_closing, piece_on}
use Rattle.ve_write.proofs.AfterLemmas.{closing_ends}
use Rattle.ve_write.proofs.ends.pass.Goals as goal
use Rattle.ve_write.proofs.ends.pass.Goals.{in-Char, in-Opening, in-Closing+else-depth-eq0}

pub returns-then-depth-eq0-clause-closed : goal.returns-then-depth-eq0-clause-closed
returns-then-depth-eq0-clause-closed c = λ less. record {
  none = c.if-depth-eq0.true;
  ends = λ items at stands. closing_ends items (at + c.loop-count.count) _ _ _ (stands c.loop-count.count _ (slice_get-get_or _ _ _ c.loop-count-test.true)) c.in-Closing.is;
}

pub loop-count-preserved : goal.loop-count-preserved
loop-count-preserved c =
    let n = c.loop-count.count in
    let d = c.loop-count.depth in
    let e = c.match-items-count.depth in
    elim c.match-items-count.branch [
      | in-Char w ↦ record {
        within = omega (arith, c.loop-count-test.true);
        shallow = omega (arith, c.loop-count.invariant.shallow, w.depth-is);
        rest = λ items from at stands so. piece_on items from at n e
            (over_char items from (at + n) d e _ _ _ (stands n _ (slice_get-get_or _ _ _ c.loop-count-test.true)) w.in-Char.is w.depth-is (c.loop-count.invariant.rest items from at stands so));
      }
      | in-Opening w ↦ record {
        within = omega (arith, c.loop-count-test.true);
        shallow = omega (arith, c.loop-count.invariant.shallow, w.depth-is);
        rest = λ items from at stands so. piece_on items from at n e
            (over_opening items from (at + n) d e _ _ _ _ _ _ _ (stands n _ (slice_get-get_or _ _ _ c.loop-count-test.true)) w.in-Opening.is w.depth-is (c.loop-count.invariant.rest items from at stands so));
      }
      | in-Closing+else-depth-eq0 w ↦ record {
        within = omega (arith, c.loop-count-test.true);
        shallow = omega (arith, c.loop-count.invariant.shallow, w.depth-is);
        rest = λ items from at stands so. piece_on items from at n e
            (over_closing items from (at + n) d e _ _ _ (stands n _ (slice_get-get_or _ _ _ c.loop-count-test.true)) w.in-Closing.is (omega (arith, w.depth-is, w.if-depth-eq0.false))
            (c.loop-count.invariant.rest items from at stands so));
      }
    ]
