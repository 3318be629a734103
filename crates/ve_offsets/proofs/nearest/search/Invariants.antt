use Rattle.std.proofs.Common.{◌≡◌, ◌-◌, length}
use Rattle.ve_offsets.proofs.NearestLemmas.{NoneNearer}
use Rattle.ve_offsets.proofs.nearest.search.Given as goal

abbrev pub invariant-loop-before : goal.invariant-loop-before
invariant-loop-before l = record {
  none : NoneNearer l.fn.doc.list.now.items l.fn.o l.away;
  before : l.before ≡ l.fn.doc.list.now.items;
  after : l.after ≡ l.fn.doc.list.now.items;
}

abbrev pub decreases-loop-before : goal.decreases-loop-before
decreases-loop-before l = length l.fn.doc.list.now.items - l.away
