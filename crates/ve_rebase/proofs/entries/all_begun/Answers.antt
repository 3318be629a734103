use Rattle.std.proofs.Common.{[], refl, sym, subst}
use Rattle.std.proofs.lemmas.List.Elements.{All-nil}
use Rattle.ve_rebase.specs.Shifted.{IsShifted}
use Rattle.ve_rebase.proofs.EntryLemmas.{GatheredSoFar, gathered_next, gathered_all}
use Rattle.ve_rebase.proofs.entries.all_begun.Goals as goal

pub loop-parcel-init : goal.loop-parcel-init
loop-parcel-init c = subst (GatheredSoFar []) (sym c.new-all.ensures.items) (record { shifted = All-nil IsShifted; written = tt; kept = refl })

pub loop-parcel-preserved : goal.loop-parcel-preserved
loop-parcel-preserved c =
    gathered_next c.args.parcels.now c.loop-parcel.parcel-index c.parcel-item.result c.loop-parcel.all.items c.in_ok-some.some.items c.append.new.self.items c.as_slice.result.now
    c.loop-parcel-test.true c.parcel-item.is c.in_ok-append.ensures.items c.as_slice.ensures
    (record { shifted = c.in_ok-some.ensures.shifted; written = c.in_ok-some.ensures.written; kept = c.in_ok-some.ensures.kept }) c.loop-parcel.invariant

pub returns-clause-shifted : goal.returns-clause-shifted
returns-clause-shifted c = c.loop-parcel.invariant.shifted

pub returns-clause-written : goal.returns-clause-written
returns-clause-written c = let g = gathered_all c.args.parcels.now c.loop-parcel.parcel-index c.loop-parcel.all.items c.loop-parcel-test.false c.loop-parcel.invariant in g.written

pub returns-clause-kept : goal.returns-clause-kept
returns-clause-kept c = let g = gathered_all c.args.parcels.now c.loop-parcel.parcel-index c.loop-parcel.all.items c.loop-parcel-test.false c.loop-parcel.invariant in g.kept
