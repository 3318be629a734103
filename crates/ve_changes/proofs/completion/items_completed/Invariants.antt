use Rattle.std.proofs.Common.{◌≡◌, length}
use Rattle.model_world.specs.Completed.{item_completed, all_completed}
use Rattle.ve_changes.specs.Completions.{first_items}
use Rattle.ve_changes.proofs.CompletionLemmas.{joined}
use Rattle.ve_changes.proofs.completion.items_completed.Given as goal

abbrev pub invariant-loop-item : goal.invariant-loop-item
invariant-loop-item l = record {
  together : joined l.done (all_completed (item_completed (first_items l.first)) l.item-iterator.rest.items) ≡ all_completed (item_completed (first_items l.first)) l.fn.items;
  long : l.item-iterator.rest.len ≡ length l.item-iterator.rest.items;
}
