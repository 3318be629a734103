use Rattle.std.proofs.Common.{◌∷◌, map, subst}
use Rattle.std.specs.Prelude.{IsPermutation}
use Rattle.std.specs.BinaryHeap.{heap_items}
use Rattle.std.proofs.lemmas.List.Sorted.{IsPermutation-map}
use Rattle.ve_tables.specs.Runs.{run_of}
use Rattle.ve_tables.proofs.runs.Runs.push.Goals as goal

pub returns : goal.returns
returns c =
    let new = heap_items c.push.new.self in
    subst (λ old. IsPermutation (c.args.run ∷ old) (map run_of new)) c.self.view_is
    (IsPermutation-map run_of (record { 0 = c.args.run } ∷ heap_items c.self.inside.heap) new c.in_ok-push.ensures.permutation)
