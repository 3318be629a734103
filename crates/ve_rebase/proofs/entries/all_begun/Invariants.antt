use Rattle.std.proofs.Common.{take}
use Rattle.ve_rebase.specs.Entries.{operations_of}
use Rattle.ve_rebase.proofs.EntryLemmas.{GatheredSoFar}
use Rattle.ve_rebase.proofs.entries.all_begun.Given as goal

abbrev pub invariant-loop-parcel : goal.invariant-loop-parcel
invariant-loop-parcel l = GatheredSoFar (operations_of (take l.parcel-index l.parcels)) l.all.items
