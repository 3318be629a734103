use Rattle.std.proofs.Common.{arith}
use Rattle.std.proofs.lemmas.List.Sorted.{length_permutation}
use Rattle.ve_tables.proofs.FloorLemmas.{out_next}
use Rattle.ve_tables.proofs.floors.free_end.Goals as goal

pub loop-end-smaller : goal.loop-end-smaller
loop-end-smaller c = let n = length_permutation _ _ c.in-Some.ensures.taken in omega arith

pub loop-end-preserved : goal.loop-end-preserved
loop-end-preserved c =
    out_next c.args.free.now c.loop-end.free c.pop_up_to.new.self c.args.from c.loop-end.end c.in-Some.run' c.loop-end.invariant c.in-Some.ensures.taken c.in-Some.ensures.few
