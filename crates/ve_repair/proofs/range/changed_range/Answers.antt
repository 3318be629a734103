use Rattle.std.proofs.Common.{arith}
use Rattle.ve_repair.proofs.RangeLemmas.{taken_fits, given_fits, begins_before, spares_found, found_all, seen_more, if_none, if_some}
use Rattle.ve_repair.proofs.range.changed_range.Goals as goal

pub with_op-found-requires-clause-old_fits : goal.with_op-found-requires-clause-old_fits
with_op-found-requires-clause-old_fits c =
    taken_fits c.args.ops.now c.loop-k.k c.loop-k.at c.index-ops-k.result c.requires.fits c.loop-k-test.true c.index-ops-k.is c.loop-k.invariant.at_is

pub with_op-found-requires-clause-new_fits : goal.with_op-found-requires-clause-new_fits
with_op-found-requires-clause-new_fits c =
    given_fits c.args.ops.now c.loop-k.k c.loop-k.new_at c.index-ops-k.result c.requires.fits c.loop-k-test.true c.index-ops-k.is c.loop-k.invariant.new_at_is

pub with_op-found-requires-clause-begins : goal.with_op-found-requires-clause-begins
with_op-found-requires-clause-begins c = begins_before _ c.loop-k.found c.loop-k.k c.loop-k.at c.loop-k.new_at c.loop-k.invariant

pub overflow_add-at : goal.overflow_add-at
overflow_add-at c =
    let fits = taken_fits c.args.ops.now c.loop-k.k c.loop-k.at c.index-ops-k.result c.requires.fits c.loop-k-test.true c.index-ops-k.is c.loop-k.invariant.at_is in
    omega (arith, fits, c.taken-at.ensures)

pub overflow_add-new_at : goal.overflow_add-new_at
overflow_add-new_at c =
    let fits = given_fits c.args.ops.now c.loop-k.k c.loop-k.new_at c.index-ops-k.result c.requires.fits c.loop-k-test.true c.index-ops-k.is c.loop-k.invariant.new_at_is in
    omega (arith, fits, c.given-new_at.ensures)

pub returns-clause-spares : goal.returns-clause-spares
returns-clause-spares c = spares_found c.args.ops.now c.loop-k.found (found_all c.args.ops.now c.loop-k.found c.loop-k.k c.loop-k.at c.loop-k.new_at c.loop-k-test.false c.loop-k.invariant)

pub loop-k-preserved : goal.loop-k-preserved
loop-k-preserved c =
    seen_more c.args.ops.now c.loop-k.found c.with_op-found.result c.loop-k.k c.loop-k.at c.loop-k.new_at c.taken-at.result c.given-new_at.result c.index-ops-k.result
    c.loop-k-test.true c.index-ops-k.is c.taken-at.ensures c.given-new_at.ensures c.loop-k.invariant (c.with_op-found.ensures _ c.loop-k.invariant)

pub returns-clause-none : goal.returns-clause-none
returns-clause-none c = if_none c.args.ops.now c.loop-k.found (found_all c.args.ops.now c.loop-k.found c.loop-k.k c.loop-k.at c.loop-k.new_at c.loop-k-test.false c.loop-k.invariant)

pub returns-clause-some : goal.returns-clause-some
returns-clause-some c = if_some c.args.ops.now c.loop-k.found (found_all c.args.ops.now c.loop-k.found c.loop-k.k c.loop-k.at c.loop-k.new_at c.loop-k-test.false c.loop-k.invariant)
