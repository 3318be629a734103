use Rattle.ve_build_insert.specs.Reopened.{AreCopies}
use Rattle.ve_build_insert.proofs.reopen.copies_of.Given as goal

abbrev pub decreases-loop-left : goal.decreases-loop-left
decreases-loop-left l = l.left

abbrev pub invariant-loop-left : goal.invariant-loop-left
invariant-loop-left l = AreCopies l.fn.store l.fn.openings l.left l.fn.new l.new l.copies
