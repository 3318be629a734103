use Rattle.std.proofs.Common.{◌-◌, ◌+◌, ◌≤◌, ℕ, List, length}
use Rattle.model_items.specs.declared.item.Item.{Item}
use Rattle.ve_write.specs.Passing.{Inside, StandsAt}
use Rattle.ve_write.proofs.ends.pass.Given as goal

abbrev pub invariant-loop-count : goal.invariant-loop-count
invariant-loop-count l = record {
  within : l.count ≤ length l.items;
  shallow : l.depth ≤ l.initial.depth + l.count;
  rest : (items : List Item) (from at : ℕ) → StandsAt items l.items at → Inside items from l.initial.depth at → Inside items from l.depth (at + l.count);
}

abbrev pub decreases-loop-count : goal.decreases-loop-count
decreases-loop-count l = length l.items - l.count
