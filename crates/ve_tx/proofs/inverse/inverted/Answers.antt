use Rattle.std.proofs.Common.{◌∙◌}
use Rattle.ve_tx.specs.Gathered.{gathered}
use Rattle.ve_tx.specs.Turned.{run_of}
use Rattle.ve_tx.proofs.TurnedLemmas.{put-next, put-all}
use Rattle.ve_tx.proofs.inverse.inverted.Goals as goal

pub loop-i-preserved : goal.loop-i-preserved
loop-i-preserved c = (
  c.in_ok-put_back.ensures.even,
  put-next
      (gathered c.loop-i.back)
      (run_of c.loop-i.run.items)
      (gathered c.put_back.new.back)
      (run_of c.put_back.new.run.items)
      c.loop-i.i
      c.args.ops.now
      c.args.kept.now
      c.index-ops-i.result
      c.position_at.result
      c.loop-i-test.true
      c.index-ops-i.is
      c.position_at.ensures
      c.in_ok-put_back.ensures.ok
      c.loop-i.invariant.1,
)

pub returns : goal.returns
returns c =
    c.in_ok-append_backwards.ensures.ok
    ∙ put-all (gathered c.loop-i.back) (run_of c.loop-i.run.items) c.loop-i.i c.args.ops.now c.args.kept.now c.loop-i-test.false c.loop-i.invariant.1
