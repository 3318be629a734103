use Rattle.std.proofs.Common.{◌≡◌, ◌-◌, ◌+◌, ℕ, length}
use Rattle.std.specs.Prelude.{slice_get, Some}
use Rattle.ve_tx.proofs.order.reach.Given as goal

abbrev pub invariant-growing : goal.invariant-growing
invariant-growing l = (other home : ℕ) → slice_get l.fn.homes.items other ≡ Some home → slice_get l.homes.items other ≡ Some home

abbrev pub decreases-growing : goal.decreases-growing
decreases-growing l = l.number + 1 - length l.homes.items
