use Rattle.std.proofs.Common.{◌≡◌, drop, vec_len}
use Rattle.ve_tx.specs.Operation.{with_positions}
use Rattle.ve_tx.specs.Turned.{run_of, turned, finished}
use Rattle.ve_tx.proofs.inverse.inverted.Given as goal

abbrev pub invariant-loop-i : goal.invariant-loop-i
invariant-loop-i l =
    (vec_len l.back.ops ≡ vec_len l.back.kept)
    × (finished (with_positions l.back.ops.items l.back.kept.items) (run_of l.run.items) (drop l.i (with_positions l.ops l.kept)) ≡ turned (with_positions l.ops l.kept))
