use Rattle.std.proofs.Common.{get_or, ap}
use Rattle.std.proofs.lemmas.Result.{err_from_is_err_and}
use Rattle.ve_rebase.proofs.RowLemmas.{row_begun, one_shifted, one_length, row_refused, row_over, row_done}
use Rattle.ve_rebase.proofs.join_lists.row.Goals as goal

pub pass_apart-at-requires-clause-row : goal.pass_apart-at-requires-clause-row
pass_apart-at-requires-clause-row c =
    (c.args.committed.now, c.args.mine.span, row_begun c.args.committed.now c.args.mine c.requires.shifted c.requires.follow c.requires.mine)

pub loop-at-init : goal.loop-at-init
loop-at-init c =
    c.pass_apart-at.ensures.row c.args.committed.now c.args.mine.span (row_begun c.args.committed.now c.args.mine c.requires.shifted c.requires.follow c.requires.mine)

pub over-requires-clause-shifted : goal.over-requires-clause-shifted
over-requires-clause-shifted c =
    let now = c.loop-at.committed in
    one_shifted c.args.committed.now now c.args.mine c.loop-at.span c.loop-at.at (get_or now c.loop-at.at c.index-committed-at.result) c.loop-at.invariant c.loop-at-test.true
    (ap (get_or now c.loop-at.at) c.index-committed-at.is)

pub over-requires-clause-mine : goal.over-requires-clause-mine
over-requires-clause-mine c = c.loop-at.invariant.mine_shifted

pub over-requires-clause-lengths : goal.over-requires-clause-lengths
over-requires-clause-lengths c =
    let now = c.loop-at.committed in
    one_length c.args.committed.now now c.args.mine c.loop-at.span c.loop-at.at (get_or now c.loop-at.at c.index-committed-at.result) c.loop-at.invariant c.loop-at-test.true
    (ap (get_or now c.loop-at.at) c.index-committed-at.is)

pub returns-in_err-met-clause-refused : goal.returns-in_err-met-clause-refused
returns-in_err-met-clause-refused c =
    let now = c.loop-at.committed in
    let p = err_from_is_err_and c.from_residual.result c.from_residual.ensures.1 in
    rw (p.1, p.2) (row_refused c.args.committed.now now c.args.mine c.loop-at.span c.loop-at.at (get_or now c.loop-at.at c.index-committed-at.result) c.loop-at.invariant c.loop-at-test.true
    (ap (get_or now c.loop-at.at) c.index-committed-at.is) c.in_err-met.field-0.0 c.in_err-met.ensures.refused)

pub pass_apart-next-requires-clause-row : goal.pass_apart-next-requires-clause-row
pass_apart-next-requires-clause-row c =
    let now = c.loop-at.committed in (
      c.args.committed.now,
      c.args.mine.span,
      row_over c.args.committed.now now c.args.mine c.loop-at.span c.loop-at.at (get_or now c.loop-at.at c.index-committed-at.result) c.loop-at.invariant c.loop-at-test.true
          (ap (get_or now c.loop-at.at) c.index-committed-at.is) c.over.new.one c.in_ok-met.met c.in_ok-met.ensures.over,
    )

pub loop-at-preserved : goal.loop-at-preserved
loop-at-preserved c =
    let now = c.loop-at.committed in
    c.pass_apart-next.ensures.row c.args.committed.now c.args.mine.span
    (row_over c.args.committed.now now c.args.mine c.loop-at.span c.loop-at.at (get_or now c.loop-at.at c.index-committed-at.result) c.loop-at.invariant c.loop-at-test.true
    (ap (get_or now c.loop-at.at) c.index-committed-at.is) c.over.new.one c.in_ok-met.met c.in_ok-met.ensures.over)

pub returns-clause-row : goal.returns-clause-row
returns-clause-row c = row_done c.args.committed.now c.loop-at.committed c.args.mine c.loop-at.span c.loop-at.at c.loop-at.invariant c.loop-at-test.false
