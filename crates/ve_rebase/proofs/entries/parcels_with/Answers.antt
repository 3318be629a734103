use Rattle.std.proofs.Common.{◌≡◌, ◌+◌, suc, length, drop, sym, ap, subst, arith}
use Rattle.std.proofs.lemmas.List.{take_rest, length-take-le}
use Rattle.ve_rebase.proofs.EntryLemmas.{PartedSoFar, parted_begun, part_within, part_kept, part_shifted, parted_next, parted_done}
use Rattle.ve_rebase.proofs.entries.parcels_with.Goals as goal

pub loop-parcel-init : goal.loop-parcel-init
loop-parcel-init c = subst (PartedSoFar c.args.parcels.now 0 c.args.all.now c.args.all.now) (sym c.new-made.ensures) (parted_begun c.args.parcels.now c.args.all.now c.requires.shifted c.requires.kept)

pub slice_bounds-parcel_with-end : goal.slice_bounds-parcel_with-end
slice_bounds-parcel_with-end c =
    let n = length c.as_slice-count.result.now in
    sym (length-take-le n c.loop-parcel.left.now
    (part_within c.args.parcels.now c.loop-parcel.parcel-index c.args.all.now c.loop-parcel.left.now c.loop-parcel.made c.parcel-item.result n c.loop-parcel.invariant
    c.loop-parcel-test.true c.parcel-item.is (ap length c.as_slice-count.ensures)))

pub parcel_with-requires-clause-shifted : goal.parcel_with-requires-clause-shifted
parcel_with-requires-clause-shifted c =
    part_shifted c.args.parcels.now c.loop-parcel.parcel-index c.args.all.now c.loop-parcel.left.now c.loop-parcel.made c.parcel-item.result (length c.as_slice-count.result.now) c.loop-parcel.invariant
    c.loop-parcel-test.true c.parcel-item.is (ap length c.as_slice-count.ensures)

pub parcel_with-requires-clause-kept : goal.parcel_with-requires-clause-kept
parcel_with-requires-clause-kept c =
    part_kept c.args.parcels.now c.loop-parcel.parcel-index c.args.all.now c.loop-parcel.left.now c.loop-parcel.made c.parcel-item.result (length c.as_slice-count.result.now) c.loop-parcel.invariant
    c.loop-parcel-test.true c.parcel-item.is (ap length c.as_slice-count.ensures)

pub slice_bounds-left-count : goal.slice_bounds-left-count
slice_bounds-left-count c =
    part_within c.args.parcels.now c.loop-parcel.parcel-index c.args.all.now c.loop-parcel.left.now c.loop-parcel.made c.parcel-item.result (length c.as_slice-count.result.now) c.loop-parcel.invariant
    c.loop-parcel-test.true c.parcel-item.is (ap length c.as_slice-count.ensures)

pub slice_bounds-left-start : goal.slice_bounds-left-start
slice_bounds-left-start c =
    part_within c.args.parcels.now c.loop-parcel.parcel-index c.args.all.now c.loop-parcel.left.now c.loop-parcel.made c.parcel-item.result (length c.as_slice-count.result.now) c.loop-parcel.invariant
    c.loop-parcel-test.true c.parcel-item.is (ap length c.as_slice-count.ensures)

pub loop-parcel-preserved : goal.loop-parcel-preserved
loop-parcel-preserved c =
    let n = length c.as_slice-count.result.now in
    let i = c.loop-parcel.parcel-index in
    let next : suc i ≡ i + 1 = omega arith in
    let left = c.loop-parcel.left.now in
    subst (λ l. PartedSoFar c.args.parcels.now (i + 1) c.args.all.now l c.push.new.self) (sym (take_rest left n))
    (subst (λ m. PartedSoFar c.args.parcels.now m c.args.all.now (drop n left) c.push.new.self) next
    (parted_next c.args.parcels.now i c.args.all.now left c.loop-parcel.made c.parcel-item.result n c.loop-parcel.invariant
    c.loop-parcel-test.true c.parcel-item.is (ap length c.as_slice-count.ensures) c.in_ok-parcel_with.field-0 c.push.new.self
    c.in_ok-parcel_with.ensures.written c.in_ok-parcel_with.ensures.outline c.in_ok-parcel_with.ensures.cites c.in_ok-push.ensures.ok))

pub returns-clause-written : goal.returns-clause-written
returns-clause-written c =
    let d = parted_done c.args.parcels.now c.loop-parcel.parcel-index c.args.all.now c.loop-parcel.left.now c.loop-parcel.made c.loop-parcel-test.false c.loop-parcel.invariant in d.0

pub returns-clause-outlines : goal.returns-clause-outlines
returns-clause-outlines c =
    let d = parted_done c.args.parcels.now c.loop-parcel.parcel-index c.args.all.now c.loop-parcel.left.now c.loop-parcel.made c.loop-parcel-test.false c.loop-parcel.invariant in d.1

pub returns-clause-cite : goal.returns-clause-cite
returns-clause-cite c = c.loop-parcel.invariant.cite
