use Rattle.std.proofs.Common.{◌≡◌, ◌++◌, length, map}
use Rattle.model_world.specs.Completed.{completed}
use Rattle.ve_changes.specs.Completions.{first_items}
use Rattle.ve_changes.proofs.completion.all_completed.Given as goal

abbrev pub invariant-loop-change : goal.invariant-loop-change
invariant-loop-change l = record {
  together : l.done ++ map (completed (first_items l.first)) l.change-iterator.rest.items ≡ map (completed (first_items l.first)) l.fn.changes;
  long : l.change-iterator.rest.len ≡ length l.change-iterator.rest.items;
}
