-- The definitions at small lists.
use Rattle.std.proofs.Common.{◌≡◌, ℕ, [], ◌∷◌, refl, arith}
use Rattle.ve_items.specs.Blocks.{joined, AreBlocks}
use Rattle.ve_items.specs.InBlock.{StandsAt}
use Rattle.ve_items.specs.Stacked.{from_top, top}
use Rattle.ve_items.specs.Substitution.{spliced}

two_replaced : spliced {A = ℕ} (1 ∷ 2 ∷ 3 ∷ 4 ∷ []) 1 2 (8 ∷ 9 ∷ 7 ∷ []) ≡ 1 ∷ 8 ∷ 9 ∷ 7 ∷ 4 ∷ []
two_replaced = refl

put_at_the_end : spliced {A = ℕ} (1 ∷ 2 ∷ []) 2 0 (3 ∷ []) ≡ 1 ∷ 2 ∷ 3 ∷ []
put_at_the_end = refl

all_taken_out : spliced {A = ℕ} (1 ∷ 2 ∷ []) 0 2 [] ≡ []
all_taken_out = refl

two_blocks_joined : joined {A = ℕ} ((1 ∷ 2 ∷ []) ∷ (3 ∷ []) ∷ []) ≡ 1 ∷ 2 ∷ 3 ∷ []
two_blocks_joined = refl

read_from_the_top : from_top {A = ℕ} ((1 ∷ 2 ∷ []) ∷ (3 ∷ []) ∷ []) ≡ 3 ∷ 1 ∷ 2 ∷ []
read_from_the_top = refl

the_last_is_on_top : top {A = ℕ} ((1 ∷ 2 ∷ []) ∷ (3 ∷ []) ∷ []) ≡ 3 ∷ []
the_last_is_on_top = refl

one_small_block : AreBlocks {A = ℕ} ((1 ∷ []) ∷ [])
one_small_block = ((omega arith, omega arith), tt, tt)

no_empty_block : AreBlocks {A = ℕ} ((1 ∷ []) ∷ [] ∷ []) → ⊥
no_empty_block rule = let size = rule.2.0.0 in omega arith

no_small_neighbours : AreBlocks {A = ℕ} ((1 ∷ []) ∷ (2 ∷ []) ∷ []) → ⊥
no_small_neighbours rule = let apart = rule.1 in omega arith

-- the third item stands first in the second block
third_item : StandsAt {A = ℕ} ((1 ∷ 2 ∷ []) ∷ (3 ∷ []) ∷ []) 2 1 0
third_item = record { among = omega arith; inside = omega arith; place = refl }
