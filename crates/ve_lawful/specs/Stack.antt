-- A stack kept at the start of a list, its top last.
use Rattle.std.specs.Prelude.{ℕ, zero, suc, List, [], ◌∷◌, slice_index_or}
use Rattle.ve_kinds.specs.declared.kind.Kind.{Kind}
use Rattle.ve_kinds.specs.declared.kind.Kind.TheVariants.{Root}

abbrev pub stack_of : List Kind → ℕ → List Kind
stack_of kinds zero = []
stack_of kinds (suc n) = slice_index_or kinds n Root ∷ stack_of kinds n
