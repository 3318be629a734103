use Rattle.std.proofs.Common.{◌≡◌, ◌∷◌, map, false, None}
use Rattle.ve_kinds.specs.declared.kind.Kind.TheVariants.{P}
use Rattle.model_items.specs.declared.item.Item.TheVariants as item
use Rattle.ve_read.proofs.fragments.paragraph_of.Given as goal

abbrev pub invariant-loop-ch : goal.invariant-loop-ch
invariant-loop-ch l = l.items ≡ item.Opening P false None None None None ∷ map (λ c. item.Char c None) l.yielded
