use Rattle.std.proofs.Common.{◌∷◌, map, subst}
use Rattle.std.specs.Prelude.{IsPermutation}
use Rattle.std.specs.BinaryHeap.{heap_items}
use Rattle.std.proofs.lemmas.List.Sorted.{IsPermutation-map}
use Rattle.ve_tables.specs.Runs.{run_of}
use Rattle.ve_tables.proofs.RunLemmas.{numbers_from}
use Rattle.ve_tables.proofs.runs.Runs.pop_up_to.Goals as goal

pub returns-clause-taken : goal.returns-clause-taken
returns-clause-taken c =
    let run = c.in_ok-run.field-0 in
    let new = heap_items c.pop.new.self in
    subst (λ old. IsPermutation old (run.0 ∷ map run_of new)) c.self.view_is
    (IsPermutation-map run_of (heap_items c.self.inside.heap) (run ∷ new) c.in_ok-run.ensures.permutation)

pub returns-clause-first : goal.returns-clause-first
returns-clause-first c =
    numbers_from c.in_ok-run.field-0 (heap_items c.pop.new.self) (c.in_ok-run.ensures.below_top c.self.invariant)
