use Rattle.std.proofs.Common.{refl, arith}
use Rattle.std.proofs.lemmas.List.Sorted.{length_permutation}
use Rattle.ve_tables.specs.declared.floors.Floors.{Floors}
use Rattle.ve_tables.proofs.FloorLemmas.{freed_apart, freed_settled, settled_next}
use Rattle.ve_tables.proofs.floors.settle.Goals as goal

pub loop-run-smaller : goal.loop-run-smaller
loop-run-smaller c = let n = length_permutation _ _ c.in-Some.ensures.taken in omega arith

pub loop-run-preserved : goal.loop-run-preserved
loop-run-preserved c =
    let run = c.in-Some.run' in
    let old = c.loop-run.floors in
    let new : Floors = record { taken = c.pop_up_to.new.self; free = c.push.new.self; width = old.width } in
    let inv = c.loop-run.invariant in
    record {
      apart = freed_apart c.args.row run old new inv.apart c.in-Some.ensures.taken c.in-Some.ensures.few c.in_ok-push.ensures refl;
      settled = settled_next c.args.row c.args.floors.now old new inv.settled
          (freed_settled c.args.row run old new inv.apart c.in-Some.ensures.taken c.in-Some.ensures.few c.in_ok-push.ensures refl);
    }
