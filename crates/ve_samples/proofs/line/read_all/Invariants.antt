use Rattle.std.proofs.Common.{◌≤◌, length, IfSome}
use Rattle.ve_samples.specs.CitesNothing.{CitesNothing}
use Rattle.ve_samples.proofs.line.read_all.Given as goal

abbrev pub invariant-loop-ch : goal.invariant-loop-ch
invariant-loop-ch l =
    (goal.iterator-loop-ch).can_next l.ch-iterator ×
    ((goal.iterator-loop-ch).is_finite l.ch-iterator ×
    (CitesNothing l.reader.items × IfSome l.reader.offset (λ o. o ≤ length l.reader.items)))
