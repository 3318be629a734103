use Rattle.std.proofs.Common.{◌≡◌, ◌++◌, map, take, drop}
use Rattle.ve_site.specs.Dropped.{numbered_alike}
use Rattle.ve_site.proofs.pending.renumbered.Given as goal

abbrev pub invariant-loop-entry : goal.invariant-loop-entry
invariant-loop-entry l = l.entry-items ≡ map (numbered_alike l.stored) (take l.entry-index l.fn.entries.items) ++ drop l.entry-index l.fn.entries.items
