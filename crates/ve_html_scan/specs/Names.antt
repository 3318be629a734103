-- Names that are searched by halves.
use Rattle.std.specs.Prelude.{ℕ, List, map}
use Rattle.std.specs.Borrow.{Bor}
use Rattle.std.specs.List.Sorted.{IsNonDecreasingBy}
use Rattle.std.specs.Cmp.Lexicographic.{slice_cmp}
use Rattle.std.specs.Ordering.{nat_cmp, ordering_index}

-- the names that are borrowed
abbrev pub texts : List (Bor (List ℕ)) → List (List ℕ)
texts names = map (λ (n : Bor (List ℕ)). n.now) names

-- Whatever name is looked for, those below it come first, then itself, then those above it.
abbrev pub CanBeSearched : List (Bor (List ℕ)) → Type 0
CanBeSearched names = (x : List ℕ) → IsNonDecreasingBy (λ (n : Bor (List ℕ)). ordering_index (slice_cmp nat_cmp n.now x)) names
