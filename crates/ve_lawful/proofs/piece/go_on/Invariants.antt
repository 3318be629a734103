use Rattle.std.proofs.Common.{◌≡◌, take, Ok}
use Rattle.ve_lawful.specs.Uncited.{after}
use Rattle.ve_lawful.proofs.piece.go_on.Given as goal

abbrev pub invariant-loop-n : goal.invariant-loop-n
invariant-loop-n l = after l.initial.state (take l.n l.items) ≡ Ok l.state
