-- Values and the positions where they stand, on which a wrong body would answer otherwise.
use Rattle.std.proofs.Common.{◌≡◌, ℕ, List, [], ◌∷◌, length, take, codes, refl, ap}
use Rattle.std.specs.List.{position_or_len}
use Rattle.ve_base.specs.declared.value.Value.{Value}
use Rattle.ve_base.specs.declared.value.Value.TheVariants.{White}
use Rattle.model_items.specs.Same.{value_same}
use Rattle.ve_store.specs.Following.{Following, together}

-- a store of two values, and none yet that follow it
abbrev store : List Value
store = White (codes " ") ∷ White (codes "  ") ∷ []

abbrev following : Following
following = record { after = 2; values = [] }

-- where the values followed nothing, the first one's position would be 0
values_follow_their_store : ◌≡◌ {A = Following} (record { after = 0; values = [] }) (record { after = length store; values = [] }) → ⊥
values_follow_their_store e = let after : ◌≡◌ {A = ℕ} 0 2 = ap (λ (f : Following). f.after) e in cc

-- where the store's length was forgotten, its position would be 0
a_new_value_comes_after_the_store : position_or_len (value_same (White (codes "x"))) (together store following) ≡ 2
a_new_value_comes_after_the_store = refl

-- where it was looked for among the values that follow alone, it would get the position 2
a_value_of_the_store_is_found_there : position_or_len (value_same (White (codes "  "))) (together store following) ≡ 1
a_value_of_the_store_is_found_there = refl

-- where one value always stayed, it would be the space
a_store_is_cut_to_nothing : take 0 store ≡ []
a_store_is_cut_to_nothing = refl
