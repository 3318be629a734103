-- Numbers in a row, as the definitions compute them.
use Rattle.std.proofs.Common.{◌≡◌, [], ◌∷◌, None, Some, refl}
use Rattle.ve_tx.specs.Order.{place_of, without, counted}

second_place : place_of 7 (3 ∷ 7 ∷ 5 ∷ []) ≡ Some 1
second_place = refl

no_place : place_of 4 (3 ∷ 7 ∷ 5 ∷ []) ≡ None
no_place = refl

second_gone : without 7 (3 ∷ 7 ∷ 5 ∷ []) ≡ 3 ∷ 5 ∷ []
second_gone = refl

none_gone : without 4 (3 ∷ 7 ∷ 5 ∷ []) ≡ 3 ∷ 7 ∷ 5 ∷ []
none_gone = refl

three_from_two : counted 2 3 ≡ 2 ∷ 3 ∷ 4 ∷ []
three_from_two = refl
