-- Where characters of one run give way to others, the tree is the same but for the run's
-- characters.
use Rattle.std.proofs.Common.{◌≡◌, ◌∷◌, length, replicate, refl, arith}
use Rattle.std.proofs.lemmas.List.{length-append, length-replicate}
use Rattle.model_items.specs.Tree.{Forest, Empty, Run, Branch, item_count, Letter, End, shapes}

pub forest-length : (f : Forest) → length (shapes f) ≡ item_count f
forest-length Empty = refl
forest-length (Run count later) = omega (arith, length-append (replicate count Letter) (shapes later), length-replicate count Letter, forest-length later)
forest-length (Branch kind inside later) = omega (arith, length-append (shapes inside) (End kind ∷ shapes later), forest-length inside, forest-length later)
