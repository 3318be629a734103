-- The order of a heap of runs.
use Rattle.std.specs.BinaryHeap.{IsUpperBound}
use Rattle.std.specs.Ordering.{is_lt, nat_cmp, ordering_then}
use Rattle.std.specs.declared.cmp.Ordering.{Ordering}
use Rattle.std.specs.declared.cmp.Ordering.TheVariants.{Less, Equal, Greater}
use Rattle.std.specs.declared.cmp.Reverse.{Reverse}
use Rattle.std.proofs.Common.{◌≡◌, ℕ, zero, ◌≤◌, ◌<◌, false, List, [], ◌∷◌, All, length, map, get_or, refl, ap, sym, arith}
use Rattle.std.proofs.HeapSift.{at_most}
use Rattle.std.proofs.lemmas.List.Elements.{All-nil, All-cons}
use Rattle.ve_tables.specs.declared.runs.Run.{Run}
use Rattle.ve_tables.specs.Runs.{run_of, later_first, IsLeast}

first_not_less : (a b : Ordering) → is_lt (ordering_then a b) ≡ false → is_lt a ≡ false
first_not_less Less b e = e
first_not_less Equal b e = refl
first_not_less Greater b e = e

-- the greatest in the heap's order has the least number
pub numbers_from : (first : Reverse Run) (turned : List (Reverse Run)) → IsUpperBound later_first first turned →
    All (λ (run : Run). first.0.number ≤ run.number) (map run_of turned)
numbers_from first [] h = All-nil (λ (run : Run). first.0.number ≤ run.number)
numbers_from first (one ∷ turned) h =
    All-cons (λ (run : Run). first.0.number ≤ run.number) one.0 (map run_of turned)
    (at_most one.0.number first.0.number (first_not_less _ _ h.0)) (numbers_from first turned h.1)

pub least_is : (first : Reverse Run) (turned : List (Reverse Run)) → 0 < length turned → first ≡ get_or turned 0 first →
    IsUpperBound later_first first turned → IsLeast first.0.number (map run_of turned)
least_is first [] some is h = absurd (omega arith)
least_is first (one ∷ turned) some is h = record {
  least = numbers_from first (one ∷ turned) h;
  first = one.0;
  later = map run_of turned;
  are = refl;
  is = ap (λ (r : Reverse Run). r.0.number) is;
}
