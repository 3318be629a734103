use Rattle.std.proofs.Common.{◌≡◌, map}
use Rattle.model_items.specs.declared.item.Item.TheVariants as item
use Rattle.ve_build_insert.proofs.text.letters.Given as goal

abbrev pub invariant-loop-ch : goal.invariant-loop-ch
invariant-loop-ch l = l.all ≡ map (λ c. item.Char c l.fn.marks) l.yielded
