use Rattle.std.proofs.Common.{◌≡◌, ◌≤◌, ◌-◌, take, drop}
use Rattle.ve_offsets.specs.Unmatched.{unmatched_after, unmatched_in}
use Rattle.ve_offsets.proofs.range.unmatched.Given as goal

abbrev pub invariant-loop-at : goal.invariant-loop-at
invariant-loop-at l = record {
  order : l.at ≤ l.to;
  counts : unmatched_after l.counts (take (l.to - l.at) (drop l.at l.doc.list.now.items)) ≡ unmatched_in l.doc.list.now.items l.fn.from l.to;
  closings : l.counts.0 ≤ l.at;
  openings : l.counts.1 ≤ l.at;
}

abbrev pub decreases-loop-at : goal.decreases-loop-at
decreases-loop-at l = l.to - l.at
