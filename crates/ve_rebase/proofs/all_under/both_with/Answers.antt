use Rattle.std.proofs.Common.{◌<◌, ◌≤◌, ◌+◌, ◌++◌, length, drop, sym, ap, subst, arith}
use Rattle.std.proofs.lemmas.List.{length-append, take_rest, length-take-le}
use Rattle.ve_rebase.proofs.MovedLemmas.{WrittenSoFar, written_begun, within_left, kept_left, shifted_left, written_next, written_done}
use Rattle.ve_rebase.proofs.UnderLemmas.{found}
use Rattle.ve_rebase.proofs.all_under.both_with.Goals as goal

pub loop-i-init : goal.loop-i-init
loop-i-init c =
    subst (WrittenSoFar (c.args.sent.now ++ c.args.unsent.now) 0 c.args.all.now c.args.all.now) (sym c.new-made.ensures)
    (written_begun (c.args.sent.now ++ c.args.unsent.now) c.args.all.now c.requires.shifted c.requires.kept)

pub slice_bounds-entry_with-end : goal.slice_bounds-entry_with-end
slice_bounds-entry_with-end c =
    let both = c.args.sent.now ++ c.args.unsent.now in
    let size = length-append c.args.sent.now c.args.unsent.now in
    let within : c.loop-i.i < length both = omega (arith, size, c.in-Some.ensures.1, c.loop-i-test.true) in
    let n = length c.as_slice-size.result.now in
    sym (length-take-le n c.loop-i.left.now
    (within_left both c.loop-i.i c.args.all.now c.loop-i.left.now c.loop-i.made c.entry_in-entry.result.now n c.loop-i.invariant within
    (found both c.loop-i.i c.entry_in-entry.result.now c.entry_in-entry.ensures) (ap length c.as_slice-size.ensures)))

pub entry_with-requires-clause-shifted : goal.entry_with-requires-clause-shifted
entry_with-requires-clause-shifted c =
    let both = c.args.sent.now ++ c.args.unsent.now in
    let size = length-append c.args.sent.now c.args.unsent.now in
    let within : c.loop-i.i < length both = omega (arith, size, c.in-Some.ensures.1, c.loop-i-test.true) in
    shifted_left both c.loop-i.i c.args.all.now c.loop-i.left.now c.loop-i.made c.entry_in-entry.result.now (length c.as_slice-size.result.now) c.loop-i.invariant within
    (found both c.loop-i.i c.entry_in-entry.result.now c.entry_in-entry.ensures) (ap length c.as_slice-size.ensures)

pub entry_with-requires-clause-kept : goal.entry_with-requires-clause-kept
entry_with-requires-clause-kept c =
    let both = c.args.sent.now ++ c.args.unsent.now in
    let size = length-append c.args.sent.now c.args.unsent.now in
    let within : c.loop-i.i < length both = omega (arith, size, c.in-Some.ensures.1, c.loop-i-test.true) in
    kept_left both c.loop-i.i c.args.all.now c.loop-i.left.now c.loop-i.made c.entry_in-entry.result.now (length c.as_slice-size.result.now) c.loop-i.invariant within
    (found both c.loop-i.i c.entry_in-entry.result.now c.entry_in-entry.ensures) (ap length c.as_slice-size.ensures)

pub slice_bounds-left-count : goal.slice_bounds-left-count
slice_bounds-left-count c =
    let both = c.args.sent.now ++ c.args.unsent.now in
    let size = length-append c.args.sent.now c.args.unsent.now in
    let within : c.loop-i.i < length both = omega (arith, size, c.in-Some.ensures.1, c.loop-i-test.true) in
    within_left both c.loop-i.i c.args.all.now c.loop-i.left.now c.loop-i.made c.entry_in-entry.result.now (length c.as_slice-size.result.now) c.loop-i.invariant within
    (found both c.loop-i.i c.entry_in-entry.result.now c.entry_in-entry.ensures) (ap length c.as_slice-size.ensures)

pub slice_bounds-left-start : goal.slice_bounds-left-start
slice_bounds-left-start c =
    let both = c.args.sent.now ++ c.args.unsent.now in
    let size = length-append c.args.sent.now c.args.unsent.now in
    let within : c.loop-i.i < length both = omega (arith, size, c.in-Some.ensures.1, c.loop-i-test.true) in
    within_left both c.loop-i.i c.args.all.now c.loop-i.left.now c.loop-i.made c.entry_in-entry.result.now (length c.as_slice-size.result.now) c.loop-i.invariant within
    (found both c.loop-i.i c.entry_in-entry.result.now c.entry_in-entry.ensures) (ap length c.as_slice-size.ensures)

pub loop-i-preserved : goal.loop-i-preserved
loop-i-preserved c =
    let both = c.args.sent.now ++ c.args.unsent.now in
    let size = length-append c.args.sent.now c.args.unsent.now in
    let within : c.loop-i.i < length both = omega (arith, size, c.in-Some.ensures.1, c.loop-i-test.true) in
    let n = length c.as_slice-size.result.now in
    subst (λ l. WrittenSoFar both (c.loop-i.i + 1) c.args.all.now l c.push.new.self) (sym (take_rest c.loop-i.left.now n))
    (subst (WrittenSoFar both (c.loop-i.i + 1) c.args.all.now (drop n c.loop-i.left.now)) (sym c.in_ok-push.ensures.ok)
    (written_next both c.loop-i.i c.args.all.now c.loop-i.left.now c.loop-i.made c.entry_in-entry.result.now n c.loop-i.invariant within
    (found both c.loop-i.i c.entry_in-entry.result.now c.entry_in-entry.ensures) (ap length c.as_slice-size.ensures) c.in_ok-entry_with.field-0 c.in_ok-entry_with.ensures))

pub returns : goal.returns
returns c =
    let both = c.args.sent.now ++ c.args.unsent.now in
    let size = length-append c.args.sent.now c.args.unsent.now in
    let end : length both ≤ c.loop-i.i = omega (arith, size, c.in-Some.ensures.1, c.loop-i-test.false) in
    written_done both c.loop-i.i c.args.all.now c.loop-i.left.now c.loop-i.made end c.loop-i.invariant
