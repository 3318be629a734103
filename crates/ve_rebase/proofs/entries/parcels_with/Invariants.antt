use Rattle.ve_rebase.proofs.EntryLemmas.{PartedSoFar}
use Rattle.ve_rebase.proofs.entries.parcels_with.Given as goal

abbrev pub invariant-loop-parcel : goal.invariant-loop-parcel
invariant-loop-parcel l = PartedSoFar l.parcels l.parcel-index l.all l.left l.made
