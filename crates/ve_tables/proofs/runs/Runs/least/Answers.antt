use Rattle.std.proofs.Common.{length, map, subst, sym}
use Rattle.std.specs.BinaryHeap.{heap_items}
use Rattle.std.proofs.lemmas.Bool.{ltb-true}
use Rattle.ve_tables.specs.Runs.{run_of, IsLeast}
use Rattle.ve_tables.proofs.RunLemmas.{least_is}
use Rattle.ve_tables.proofs.runs.Runs.least.Goals as goal

pub returns-in-Some-clause-some : goal.returns-in-Some-clause-some
returns-in-Some-clause-some c =
    let first = c.in-Some.field-0.now in
    let turned = heap_items c.self.inside.heap in
    subst (IsLeast first.0.number) c.self.view_is
    (least_is first turned (ltb-true 0 (length turned) (sym c.in-Some.ensures.item.0)) c.in-Some.ensures.lookup (c.in-Some.ensures.greatest c.self.invariant))
