use Rattle.std.proofs.Common.{◌≡◌, ◌<◌, ◌+◌, suc, List, length, All, sym, subst, arith}
use Rattle.std.specs.Prelude.{slice_set}
use Rattle.std.proofs.lemmas.Result.{err_from_is_err_and}
use Rattle.ve_rebase.proofs.RowLemmas.{RowsSoFar, rows_begun, mine_one, committed_follow, rows_refused, rows_next, rows_done, lent_whole, length-map-same}
use Rattle.ve_base.specs.declared.value.Value.{Value}
use Rattle.ve_rebase.specs.Lists.{IsRefusedAs}
use Rattle.ve_rebase.specs.Shifted.{FollowFrom, IsRow, IsShifted, joined_row, operations}
use Rattle.ve_rebase.specs.Span.{old_size}
use Rattle.ve_rebase.proofs.join_lists.rows.Goals as goal

pub loop-j-init : goal.loop-j-init
loop-j-init c = record {
  size = omega (arith, c.len-j-end.ensures, c.args.mine.now.ok);
  so_far = rows_begun c.args.committed.now.items c.args.mine.now.items c.requires.shifted c.requires.mine_shifted c.requires.one_length;
}

pub row-requires-clause-shifted : goal.row-requires-clause-shifted
row-requires-clause-shifted c = subst (All IsShifted) (sym c.as_mut_slice.ensures.value) c.loop-j.invariant.so_far.shifted

pub row-requires-clause-follow : goal.row-requires-clause-follow
row-requires-clause-follow c =
    let old = c.args.mine.now.items in
    let now = c.loop-j.mine.items in
    let same : length now ≡ length old = length-map-same operations now old c.loop-j.invariant.so_far.mine_kept in
    let lt : c.loop-j.j < length now = omega (arith, same, c.loop-j.invariant.size, c.loop-j-test.true) in
    subst (FollowFrom (old_size c.index-one.result.now.span)) (sym c.as_mut_slice.ensures.value)
    (committed_follow c.args.committed.now.items c.loop-j.committed.items old now c.loop-j.j c.index-one.result.now c.loop-j.invariant.so_far lt c.index-one.ensures)

pub row-requires-clause-mine : goal.row-requires-clause-mine
row-requires-clause-mine c =
    let old = c.args.mine.now.items in
    let now = c.loop-j.mine.items in
    let same : length now ≡ length old = length-map-same operations now old c.loop-j.invariant.so_far.mine_kept in
    let lt : c.loop-j.j < length now = omega (arith, same, c.loop-j.invariant.size, c.loop-j-test.true) in
    mine_one c.args.committed.now.items c.loop-j.committed.items old now c.loop-j.j c.index-one.result.now c.loop-j.invariant.so_far lt c.index-one.ensures

pub returns-in_err-span-clause-refused : goal.returns-in_err-span-clause-refused
returns-in_err-span-clause-refused c =
    let old = c.args.mine.now.items in
    let now = c.loop-j.mine.items in
    let same : length now ≡ length old = length-map-same operations now old c.loop-j.invariant.so_far.mine_kept in
    let lt : c.loop-j.j < length now = omega (arith, same, c.loop-j.invariant.size, c.loop-j-test.true) in
    let p = err_from_is_err_and c.from_residual.result c.from_residual.ensures.1 in
    let refused = subst (λ l. (values : List (List Value)) (others : List Value) → IsRefusedAs (joined_row values others l c.index-one.result.now) c.in_err-span.field-0.0)
    c.as_mut_slice.ensures.value c.in_err-span.ensures.refused in
    rw (p.1, p.2) (rows_refused c.args.committed.now.items c.loop-j.committed.items old now c.loop-j.j c.index-one.result.now c.loop-j.invariant.so_far lt c.index-one.ensures c.in_err-span.field-0.0 refused)

pub loop-j-preserved : goal.loop-j-preserved
loop-j-preserved c =
    let old = c.args.mine.now.items in
    let now = c.loop-j.mine.items in
    let same : length now ≡ length old = length-map-same operations now old c.loop-j.invariant.so_far.mine_kept in
    let lt : c.loop-j.j < length now = omega (arith, same, c.loop-j.invariant.size, c.loop-j-test.true) in
    let next : suc c.loop-j.j ≡ c.loop-j.j + 1 = omega arith in
    let committed = c.loop-j.committed.items in
    let row = subst (λ l. IsRow l c.index-one.result.now c.row.new.committed c.in_ok-span.span) c.as_mut_slice.ensures.value c.in_ok-span.ensures.row in
    let whole = lent_whole c.loop-j.committed.len c.row.new.committed committed (length-map-same operations c.row.new.committed committed row.kept) (omega (arith, c.loop-j.committed.ok)) in
    record {
      size = c.loop-j.invariant.size;
      so_far = subst (RowsSoFar c.args.committed.now.items _ old _) next
          (subst (λ l. RowsSoFar c.args.committed.now.items l old (slice_set now c.loop-j.j (record { tx = c.index-one.result.now.tx; span = c.in_ok-span.span })) (suc c.loop-j.j)) (sym whole)
          (rows_next c.args.committed.now.items committed old now c.loop-j.j c.index-one.result.now c.loop-j.invariant.so_far lt c.index-one.ensures c.row.new.committed c.in_ok-span.span row));
    }

pub returns-clause-rows : goal.returns-clause-rows
returns-clause-rows c =
    let old = c.args.mine.now.items in
    let now = c.loop-j.mine.items in
    let same : length now ≡ length old = length-map-same operations now old c.loop-j.invariant.so_far.mine_kept in
    rows_done c.args.committed.now.items c.loop-j.committed.items old now c.loop-j.j c.loop-j.invariant.so_far (omega (arith, same, c.loop-j.invariant.size, c.loop-j-test.false))
