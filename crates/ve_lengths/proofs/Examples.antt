-- The definitions at a few lengths.
use Rattle.std.proofs.Common.{[], ◌∷◌, refl, arith}
use Rattle.ve_lengths.specs.Starts.{Finds}

-- 3, 0 and 4: the fourth position is the first of the third length, since the second is empty
fourth_place : Finds (3 ∷ 0 ∷ 4 ∷ []) 3 2 0
fourth_place = record { among = omega arith; place = refl; inside = omega arith }

last_place : Finds (3 ∷ 0 ∷ 4 ∷ []) 6 2 3
last_place = record { among = omega arith; place = refl; inside = omega arith }

none_after_the_end : Finds (3 ∷ []) 3 0 3 → ⊥
none_after_the_end f = let inside = f.inside in omega arith

no_empty_one : Finds (0 ∷ 4 ∷ []) 0 0 0 → ⊥
no_empty_one f = let inside = f.inside in omega arith
