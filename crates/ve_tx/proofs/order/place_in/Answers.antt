use Rattle.std.proofs.Common.{sym, ap, ◌∙◌}
use Rattle.std.proofs.lemmas.List.{take_all}
use Rattle.ve_tx.specs.Order.{stands}
use Rattle.ve_tx.proofs.OrderLemmas.{place_found, passed, no_place}
use Rattle.ve_tx.proofs.order.place_in.Goals as goal

pub loop-i-preserved : goal.loop-i-preserved
loop-i-preserved c = passed c.args.number c.args.chunk.now c.loop-i.i c.loop-i-test.true c.loop-i.invariant c.if-chunk-i.false

pub returns-then-chunk-i-clause-place : goal.returns-then-chunk-i-clause-place
returns-then-chunk-i-clause-place c = sym (place_found c.args.number c.args.chunk.now c.loop-i.i c.loop-i-test.true c.loop-i.invariant c.if-chunk-i.true)

pub returns-clause-place : goal.returns-clause-place
returns-clause-place c =
    let all = take_all c.loop-i.i c.args.chunk.now c.loop-i-test.false in
    sym (no_place c.args.number c.args.chunk.now (ap (stands c.args.number) (sym all) ∙ c.loop-i.invariant))
