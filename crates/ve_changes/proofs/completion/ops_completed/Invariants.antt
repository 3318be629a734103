use Rattle.std.proofs.Common.{◌≡◌, length}
use Rattle.model_world.specs.Completed.{op_completed, all_completed}
use Rattle.ve_changes.specs.Completions.{first_items}
use Rattle.ve_changes.proofs.CompletionLemmas.{joined}
use Rattle.ve_changes.proofs.completion.ops_completed.Given as goal

abbrev pub invariant-loop-op : goal.invariant-loop-op
invariant-loop-op l = record {
  together : joined l.done (all_completed (op_completed (first_items l.first)) l.op-iterator.rest.items) ≡ all_completed (op_completed (first_items l.first)) l.fn.ops;
  long : l.op-iterator.rest.len ≡ length l.op-iterator.rest.items;
}
