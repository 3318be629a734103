use Rattle.std.proofs.Common.{◌≡◌, ◌++◌, flat_map}
use Rattle.std.specs.List.{range_with_len}
use Rattle.ve_gen.specs.Generated.{paragraph}
use Rattle.ve_gen.proofs.opening.push_page.Given as goal

abbrev pub invariant-loop-number : goal.invariant-loop-number
invariant-loop-number l = l.out ≡ l.fn.out ++ flat_map paragraph (range_with_len 0 l.number)
