use Rattle.std.proofs.Common.{◌≡◌, ◌≤◌, ◌-◌, take, Ok}
use Rattle.model_items.specs.Law as law
use Rattle.ve_lawful.specs.Uncited.{after}
use Rattle.ve_lawful.proofs.list.check.Given as goal

abbrev pub invariant-loop-at : goal.invariant-loop-at
invariant-loop-at l = record { within : l.at ≤ l.len; before : after law.start (take l.at l.list.items) ≡ Ok l.state }

abbrev pub decreases-loop-at : goal.decreases-loop-at
decreases-loop-at l = l.len - l.at
