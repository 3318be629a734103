use Rattle.std.proofs.Common.{◌≡◌, ◌≤◌, ◌<◌, ℕ}
use Rattle.ve_offsets.specs.Classes.{IsContent}
use Rattle.ve_offsets.proofs.nearest.search_back.Given as goal

abbrev pub invariant-loop-items : goal.invariant-loop-items
invariant-loop-items l = record {
  order : l.at ≤ l.fn.o;
  none : (q : ℕ) → l.at < q → q ≤ l.fn.o → ¬ IsContent l.fn.doc.list.now.items q;
  items : l.items ≡ l.fn.doc.list.now.items;
}

abbrev pub decreases-loop-items : goal.decreases-loop-items
decreases-loop-items l = l.at
