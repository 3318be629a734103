use Rattle.std.proofs.Common.{◌≡◌}
use Rattle.ve_build_insert.proofs.RefusalLemmas.{any_internal_from}
use Rattle.ve_build_insert.proofs.splits.is_bad_depth.Given as goal

abbrev pub invariant-loop-level : goal.invariant-loop-level
invariant-loop-level l = any_internal_from l.fn.state.stack 0 l.fn.depth ≡ any_internal_from l.fn.state.stack l.level l.fn.depth
