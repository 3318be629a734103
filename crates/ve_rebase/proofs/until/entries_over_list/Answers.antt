use Rattle.std.proofs.Common.{◌+◌, refl, sym, subst}
use Rattle.model_change.specs.Join.{join_list}
use Rattle.ve_tx.specs.ByValue.{parcel_by_value}
use Rattle.ve_rebase.specs.Lists.{IsRefusedAs}
use Rattle.ve_rebase.specs.Shifted.{all_by_value}
use Rattle.ve_rebase.proofs.EntryLemmas.{values_of}
use Rattle.ve_rebase.proofs.UntilLemmas.{JoinedSoFar, joined_begun, one_meets, joined_next, joined_clash, joined_done}
use Rattle.ve_rebase.proofs.until.entries_over_list.Goals as goal

pub loop-one-init : goal.loop-one-init
loop-one-init c =
    subst (λ kept. JoinedSoFar c.args.committed.now c.args.mine.now c.in_ok-over.over.items kept 0) (sym c.new-kept.ensures)
    (joined_begun c.args.committed.now c.args.mine.now c.in_ok-over.over.items c.in_ok-over.ensures.written c.in_ok-over.ensures.shifted c.requires)

pub joined_over-requires-clause-shifted : goal.joined_over-requires-clause-shifted
joined_over-requires-clause-shifted c = c.loop-one.invariant.shifted

pub joined_over-requires-clause-meet : goal.joined_over-requires-clause-meet
joined_over-requires-clause-meet c = one_meets c.args.committed.now c.args.mine.now c.loop-one.over.items c.loop-one.kept c.loop-one.one-index c.one-item.result c.loop-one.invariant c.loop-one-test.true c.one-item.is

pub returns-in-Err-Conflict : goal.returns-in-Err-Conflict
returns-in-Err-Conflict c =
    let values = values_of c.args.committed.now in
    let one = c.one-item.result in
    let refused = subst (λ why. IsRefusedAs (join_list (all_by_value values c.loop-one.over.items) (parcel_by_value one)) why) c.in-Err-Conflict.field-0-is (c.in-Err-Conflict.ensures.refused values) in
    rw (c.in-Err-Conflict.a_range-is, c.in-Err-Conflict.b_range-is) (joined_clash c.args.committed.now c.args.mine.now c.loop-one.over.items c.loop-one.kept c.loop-one.one-index one c.loop-one.invariant c.loop-one-test.true c.one-item.is
    (record { committed = c.in-Err-Conflict.a_range; mine = c.in-Err-Conflict.b_range }) _ refused refl refl)

pub loop-one-preserved : goal.loop-one-preserved
loop-one-preserved c =
    subst (λ kept. JoinedSoFar c.args.committed.now c.args.mine.now c.joined_over.new.over.items kept (c.loop-one.one-index + 1)) (sym c.in_ok-push-in-Ok.ensures.ok)
    (joined_next c.args.committed.now c.args.mine.now c.loop-one.over.items c.loop-one.kept c.loop-one.one-index c.one-item.result c.loop-one.invariant c.loop-one-test.true c.one-item.is
    c.joined_over.new.over.items c.in-Ok.made c.in-Ok.ensures.joined)

pub returns : goal.returns
returns c = joined_done c.args.committed.now c.args.mine.now c.loop-one.over.items c.loop-one.kept c.loop-one.one-index _ c.loop-one.invariant c.loop-one-test.false refl refl
