use Rattle.std.proofs.Common.{◌++◌, take}
use Rattle.ve_rebase.specs.Moved.{all_operations}
use Rattle.ve_rebase.proofs.EntryLemmas.{GatheredSoFar}
use Rattle.ve_rebase.proofs.all_under.both_begun.Given as goal

abbrev pub invariant-loop-i : goal.invariant-loop-i
invariant-loop-i l = GatheredSoFar (all_operations (take l.i (l.sent ++ l.unsent))) l.all.items
