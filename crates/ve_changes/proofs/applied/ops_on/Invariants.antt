use Rattle.std.proofs.Common.{◌≡◌, drop, length}
use Rattle.ve_offsets.specs.Docs.{page_items}
use Rattle.ve_store.specs.Following.{together}
use Rattle.ve_tx.specs.Searched.{SearchesIn, first_attrs}
use Rattle.ve_changes.proofs.AppliedLemmas.{Applying}
use Rattle.ve_changes.proofs.applied.ops_on.Given as goal

abbrev pub invariant-loop-op : goal.invariant-loop-op
invariant-loop-op l =
    let S = l.doc.store.now in
    let P = page_items l.doc in
    ((l.new.after ≡ length S) × SearchesIn (first_attrs (drop l.at P)) l.search) × Applying (together S l.fn.new) (together S l.new) P l.ops (drop l.op-index l.ops) l.at l.made
