use Rattle.std.proofs.Common.{◌≡◌, ◌+◌}
use Rattle.ve_arena.proofs.arena.Arena.copy.Given as goal

abbrev pub invariant-loop : goal.invariant-loop
invariant-loop g l = l.steps ≡ l.initial.steps + l.counter
