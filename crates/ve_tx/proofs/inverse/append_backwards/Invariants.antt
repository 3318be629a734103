use Rattle.std.proofs.Common.{◌≡◌, ◌++◌, reverse, vec_len}
use Rattle.ve_tx.specs.Gathered.{gathered}
use Rattle.ve_tx.specs.Turned.{run_of}
use Rattle.ve_tx.proofs.inverse.append_backwards.Given as goal

abbrev pub invariant-loop-op : goal.invariant-loop-op
invariant-loop-op l =
    (vec_len l.back.ops ≡ vec_len l.back.kept)
    × (gathered l.back ++ reverse (run_of l.run.items) ≡ gathered l.initial.back ++ reverse (run_of l.initial.run.items))

abbrev pub decreases-loop-op : goal.decreases-loop-op
decreases-loop-op l = vec_len l.run
