use Rattle.std.proofs.Common.{◌≡◌, ◌≤◌, ◌-◌, length, take, drop}
use Rattle.ve_tx.proofs.check.first_difference.Given as goal

abbrev pub invariant-loop-done : goal.invariant-loop-done
invariant-loop-done l = record { within : l.done ≤ length l.removed; alike : take l.done l.removed ≡ take l.done (drop l.at l.list.items) }

abbrev pub decreases-loop-done : goal.decreases-loop-done
decreases-loop-done l = length l.removed - l.done
