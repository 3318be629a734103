use Rattle.std.proofs.Common.{◌≡◌, ◌++◌, map}
use Rattle.std.specs.List.{range_with_len}
use Rattle.ve_gen.specs.Generated.{letter}
use Rattle.ve_gen.proofs.opening.push_letters.Given as goal

abbrev pub invariant-loop-letter : goal.invariant-loop-letter
invariant-loop-letter l = l.out ≡ l.fn.out ++ map (letter l.paragraph) (range_with_len 0 l.letter)
