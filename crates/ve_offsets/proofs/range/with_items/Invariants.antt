use Rattle.std.proofs.Common.{◌≡◌, ◌≤◌, ◌+◌, drop}
use Rattle.ve_offsets.specs.Unmatched.{unmatched_after}
use Rattle.ve_offsets.proofs.range.with_items.Given as goal

abbrev pub invariant-loop-k : goal.invariant-loop-k
invariant-loop-k l = record {
  counts : unmatched_after l.now (drop l.k l.items) ≡ unmatched_after l.fn.counts l.items;
  closings : l.now.0 ≤ l.fn.counts.0 + l.k;
  openings : l.now.1 ≤ l.fn.counts.1 + l.k;
}
