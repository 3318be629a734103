use Rattle.std.proofs.Common.{◌≡◌, ◌+◌, ◌-◌, sym, subst, arith}
use Rattle.ve_rebase.specs.Moved.{WereMoved, IsMoveRefused}
use Rattle.ve_rebase.proofs.MovedLemmas.{MovedSoFar, moved_begun, moved_meets, moved_next, moved_clash, moved_done, some_meet, moved_some}
use Rattle.ve_rebase.proofs.all_under.moved_over_all.Goals as goal

pub loop-at-init : goal.loop-at-init
loop-at-init c = record {
  within = omega arith;
  some = omega arith;
  so_far =
      subst (λ made. MovedSoFar c.args.foreign.now c.args.mine.now.items c.args.mine.now.items made 0) (sym c.new-committed.ensures)
      (moved_begun c.args.foreign.now c.args.mine.now.items c.requires.shifted c.requires.meet);
}

pub moved_at_once-requires-clause-meet : goal.moved_at_once-requires-clause-meet
moved_at_once-requires-clause-meet c =
    let at = c.loop-at.at in
    some_meet c.args.foreign.now c.args.mine.now.items c.loop-at.mine.items c.loop-at.committed at ((at + c.within.result) - at) c.loop-at.invariant.so_far

pub loop-at-preserved-in-Ok : goal.loop-at-preserved-in-Ok
loop-at-preserved-in-Ok c =
    let at = c.loop-at.at in
    let now = c.loop-at.mine.items in
    let end : at + ((at + c.within.result) - at) ≡ at + c.within.result = omega arith in
    record {
      within = omega (arith, c.within.ensures.left, c.loop-at.invariant.within);
      some = c.longer-count.ensures;
      so_far =
          subst (λ made. MovedSoFar c.args.foreign.now c.args.mine.now.items c.moved_at_once.new.mine.items made (at + c.within.result)) (sym c.in_ok-append-in-Ok.ensures.ok)
          (subst (MovedSoFar c.args.foreign.now c.args.mine.now.items c.moved_at_once.new.mine.items _) end
          (moved_some c.args.foreign.now c.args.mine.now.items now c.loop-at.committed at ((at + c.within.result) - at) c.loop-at.invariant.so_far c.moved_at_once.new.mine.items c.in-Ok.some
          c.in-Ok.ensures.moved));
    }

pub moved_over-requires-clause-meet : goal.moved_over-requires-clause-meet
moved_over-requires-clause-meet c =
    let now = c.moved_at_once.new.mine.items in
    let so_far = subst (λ l. MovedSoFar c.args.foreign.now c.args.mine.now.items l c.loop-at.committed c.loop-at.at) (sym c.in-Err-Conflict.ensures.kept) c.loop-at.invariant.so_far in
    moved_meets c.args.foreign.now c.args.mine.now.items now c.loop-at.committed c.loop-at.at c.index-foreign-at.result so_far c.loop-at-test.true c.index-foreign-at.is

pub returns-in-Err-Conflict-moved_over : goal.returns-in-Err-Conflict-moved_over
returns-in-Err-Conflict-moved_over c =
    let one = c.index-foreign-at.result in
    let now = c.moved_at_once.new.mine.items in
    let so_far = subst (λ l. MovedSoFar c.args.foreign.now c.args.mine.now.items l c.loop-at.committed c.loop-at.at) (sym c.in-Err-Conflict.ensures.kept) c.loop-at.invariant.so_far in
    let refused = subst (IsMoveRefused one now) c.in-Err-Conflict-moved_over.field-0-is c.in-Err-Conflict-moved_over.ensures.refused in
    subst (λ l. WereMoved c.args.foreign.now c.args.mine.now.items l c.loop-at.committed) (sym c.in-Err-Conflict-moved_over.ensures.kept)
    (moved_clash c.args.foreign.now c.args.mine.now.items now c.loop-at.committed c.loop-at.at one so_far
    c.loop-at-test.true c.index-foreign-at.is (record { committed = c.in-Err-Conflict-moved_over.field-0-0; mine = c.in-Err-Conflict-moved_over.field-0-1 }) refused)

pub loop-at-preserved : goal.loop-at-preserved
loop-at-preserved c =
    let now = c.moved_at_once.new.mine.items in
    let so_far = subst (λ l. MovedSoFar c.args.foreign.now c.args.mine.now.items l c.loop-at.committed c.loop-at.at) (sym c.in-Err-Conflict.ensures.kept) c.loop-at.invariant.so_far in
    record {
      within = omega (arith, c.loop-at-test.true);
      some = omega arith;
      so_far =
          subst (λ made. MovedSoFar c.args.foreign.now c.args.mine.now.items c.moved_over.new.mine.items made (c.loop-at.at + 1)) (sym c.in_ok-push-in-Ok-moved_over.ensures.ok)
          (moved_next c.args.foreign.now c.args.mine.now.items now c.loop-at.committed c.loop-at.at c.index-foreign-at.result so_far
          c.loop-at-test.true c.index-foreign-at.is c.moved_over.new.mine.items c.in-Ok-moved_over.made c.in-Ok-moved_over.ensures.moved);
    }

pub returns : goal.returns
returns c = moved_done c.args.foreign.now c.args.mine.now.items c.loop-at.mine.items c.loop-at.committed c.loop-at.at c.loop-at.invariant.so_far c.loop-at-test.false
