use Rattle.std.proofs.Common.{◌≤◌, refl, arith, length}
use Rattle.std.proofs.lemmas.List.{length-take-le}
use Rattle.ve_origin.proofs.BodyLemmas.{lent, found_same, found_different, found_open}
use Rattle.ve_origin.proofs.bodies.are_same_inside.Goals as goal

pub returns-in-Same : goal.returns-in-Same
returns-in-Same c =
    let n : c.min-n.result ≤ length c.piece-one.result.now = omega (arith, c.min-n.ensures) in
    let m : c.min-n.result ≤ length c.piece-other.result.now = omega (arith, c.min-n.ensures) in
    let l = lent c.args.now.now.items _ c.args.first.now.items _ c.loop-here.here c.loop-here.there c.min-n.result c.piece-one.ensures.items c.piece-other.ensures.items n m in
    (λ t. c.loop-here.invariant.rest.0 (found_same _ _ _ _ _ _ _ c.loop-here.depth l c.in-Same.ensures.found), λ e. refl)

pub returns-in-Different : goal.returns-in-Different
returns-in-Different c =
    let n : c.min-n.result ≤ length c.piece-one.result.now = omega (arith, c.min-n.ensures) in
    let m : c.min-n.result ≤ length c.piece-other.result.now = omega (arith, c.min-n.ensures) in
    let l = lent c.args.now.now.items _ c.args.first.now.items _ c.loop-here.here c.loop-here.there c.min-n.result c.piece-one.ensures.items c.piece-other.ensures.items n m in
    (λ t. cc, λ e. absurd (found_different _ _ _ _ _ _ _ c.loop-here.depth l c.in-Different.ensures.found (c.loop-here.invariant.rest.1 e)))

pub loop-here-preserved : goal.loop-here-preserved
loop-here-preserved c =
    let n : c.min-n.result ≤ length c.piece-one.result.now = omega (arith, c.min-n.ensures) in
    let m : c.min-n.result ≤ length c.piece-other.result.now = omega (arith, c.min-n.ensures) in
    let l = lent c.args.now.now.items _ c.args.first.now.items _ c.loop-here.here c.loop-here.there c.min-n.result c.piece-one.ensures.items c.piece-other.ensures.items n m in
    let o = found_open _ _ _ _ _ _ _ c.loop-here.depth c.in-Open.open l c.in-Open.ensures.found in
    record {
      here = omega (arith, n, c.piece-one.ensures.within, c.loop-here.invariant.here);
      there = omega (arith, m, c.piece-other.ensures.within, c.loop-here.invariant.there);
      bound = omega (arith, c.in-Open.ensures.bound, c.loop-here.invariant.bound, c.loop-here.invariant.from, length-take-le c.min-n.result c.piece-one.result.now n);
      from = omega (arith, c.loop-here.invariant.from);
      rest = (λ e. c.loop-here.invariant.rest.0 (o.0 e), λ e. o.1 (c.loop-here.invariant.rest.1 e));
    }
