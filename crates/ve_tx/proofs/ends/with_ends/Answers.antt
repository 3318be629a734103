use Rattle.std.proofs.Common.{◌<◌, ◌∷◌, [], length, ◌++◌, ap, ◌∙◌, arith}
use Rattle.ve_tx.specs.Operation.{with_position, with_positions}
use Rattle.ve_tx.specs.Ends.{core_end, core_of, retain_of}
use Rattle.ve_tx.proofs.EndsLemmas.{core-next}
use Rattle.ve_tx.proofs.ends.with_ends.Goals as goal

pub loop-i-preserved : goal.loop-i-preserved
loop-i-preserved c =
    let made = with_positions c.loop-i.made.ops.items c.loop-i.made.kept.items in
    let below : c.loop-i.i < core_end c.args.ops.now = omega (arith, c.loop-i-test.true, c.core_end-i-end.ensures.end) in
    let within : c.loop-i.i < length c.args.ops.now = omega (arith, c.loop-i-test.true, c.core_end-i-end.ensures.within) in (
      c.in_ok-push.ensures.even,
      core-next
          c.args.ops.now
          c.args.kept.now
          (retain_of c.args.first ++ core_of c.args.ops.now (with_positions c.args.ops.now c.args.kept.now))
          made
          (with_positions c.push.new.self.ops.items c.push.new.self.kept.items)
          c.index-ops-i.result
          c.position_at.result
          c.loop-i.i
          (core_end c.args.ops.now)
          within
          below
          c.index-ops-i.is
          c.position_at.ensures
          (c.in_ok-push.ensures.ok ∙ ap (λ o. made ++ with_position o c.position_at.result ∷ []) c.in_ok-copy.ensures)
          c.loop-i.invariant.1,
    )
