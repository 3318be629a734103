use Rattle.std.proofs.Common.{◌≡◌, ◌-◌, ◌++◌, take, drop, vec_len}
use Rattle.ve_tx.specs.Operation.{with_positions}
use Rattle.ve_tx.specs.Ends.{core_end, core_of, retain_of}
use Rattle.ve_tx.proofs.ends.with_ends.Given as goal

abbrev pub invariant-loop-i : goal.invariant-loop-i
invariant-loop-i l =
    (vec_len l.made.ops ≡ vec_len l.made.kept)
    × (with_positions l.made.ops.items l.made.kept.items ++ take (core_end l.ops - l.i) (drop l.i (with_positions l.ops l.kept))
    ≡ retain_of l.first ++ core_of l.ops (with_positions l.ops l.kept))
