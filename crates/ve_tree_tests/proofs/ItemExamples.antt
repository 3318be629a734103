-- Lists in blocks on which a wrong body would answer otherwise.
use Rattle.std.proofs.Common.{◌≡◌, ◌↔◌, ℕ, true, false, List, [], ◌∷◌, length, map, max, Option, Some, None, IsTrue, refl}
use Rattle.ve_kinds.specs.declared.kind.Kind.TheVariants.{P}
use Rattle.model_items.specs.declared.item.Item.{Item}
use Rattle.model_items.specs.declared.item.Item.TheVariants.{Char, Opening}
use Rattle.ve_items.specs.Stacked.{Pile, all_blocks}
use Rattle.ve_items.specs.Substitution.{parted, spliced_block}

-- two letters in one block
abbrev letters : List Item
letters = Char 97 None ∷ Char 98 None ∷ []

abbrev pile : List (List Item) → Pile
pile blocks = record { blocks = blocks; room = 4 }

-- A cut behind all items of a block empties a block of the pool: where that one was lost, there
-- would be one block fewer.
a_lost_block_is_missed : all_blocks (pile (letters ∷ [])) (pile []) 0 ≡ all_blocks (pile []) (pile (letters ∷ [])) 1 → ⊥
a_lost_block_is_missed e = cc

abbrev opening : Option ℕ → Item
opening origin = Opening P false None None None origin

-- where origins were not compared, these two would be equal
openings_of_two_origins_differ : (IsTrue true ↔ (opening (Some 1) ≡ opening (Some 2))) → ⊥
openings_of_two_origins_differ same = let equal : opening (Some 1) ≡ opening (Some 2) = same.0 refl in cc

-- where the length that comes was forgotten, the table would say 1
an_item_that_comes_is_counted : map length (spliced_block {A = ℕ} ((1 ∷ 2 ∷ []) ∷ (3 ∷ []) ∷ []) 0 1 1 (8 ∷ 9 ∷ [])) ≡ 3 ∷ 1 ∷ []
an_item_that_comes_is_counted = refl

-- where the first block kept an item of the second, 2 would stand in both
a_parted_block_has_each_item_once : parted {A = ℕ} ((1 ∷ 2 ∷ 3 ∷ []) ∷ []) 0 1 ≡ (1 ∷ []) ∷ (2 ∷ 3 ∷ []) ∷ []
a_parted_block_has_each_item_once = refl

-- where half of them were counted, two would fit
room_for_four_is_room_for_four : max 1 4 ≡ 4
room_for_four_is_room_for_four = refl
