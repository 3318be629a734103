use Rattle.std.proofs.Common.{◌≡◌, ◌≤◌, ◌<◌, ◌-◌, ℕ, length}
use Rattle.ve_offsets.specs.Classes.{IsContent}
use Rattle.ve_offsets.proofs.nearest.search_ahead.Given as goal

abbrev pub invariant-loop-items : goal.invariant-loop-items
invariant-loop-items l = record {
  order : l.fn.o ≤ l.at;
  within : l.at ≤ length l.fn.doc.list.now.items;
  none : (q : ℕ) → l.fn.o ≤ q → q < l.at → ¬ IsContent l.fn.doc.list.now.items q;
  items : l.items ≡ l.fn.doc.list.now.items;
}

abbrev pub decreases-loop-items : goal.decreases-loop-items
decreases-loop-items l = length l.fn.doc.list.now.items - l.at
