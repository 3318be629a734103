-- Blocks on a stack, the last one on top.
use Rattle.std.specs.Prelude.{ℕ, ◌≡◌, ◌+◌, ◌++◌, ◌-◌, List, [], length, reverse, slice_index_or}
use Rattle.model_items.specs.declared.item.Item.{Item}
use Rattle.ve_items.specs.Blocks.{joined}
use Rattle.ve_items.specs.Substitution.{without}

-- the view of a stack
pub record Pile : Type 0 where
  pub blocks : List (List Item)
  -- how many blocks it has room for
  pub room : ℕ

-- the items from the top block to the lowest
abbrev pub from_top : {A : Type 0} → List (List A) → List A
from_top blocks = joined (reverse blocks)

-- the top block, or an empty one
abbrev pub top : {A : Type 0} → List (List A) → List A
top blocks = slice_index_or blocks (length blocks - 1) []

-- how many blocks stand in two stacks and a pool together
abbrev pub all_blocks : (before after : Pile) → ℕ → ℕ
all_blocks before after pool = length before.blocks + length after.blocks + pool

-- the items before a position and after it are as they were, without so many that began `offset`
-- items after it
abbrev pub AreTakenOut : {A : Type 0} → (before after new_before new_after : List (List A)) → (offset removed : ℕ) → Type 0
AreTakenOut before after new_before new_after offset removed =
    joined new_before ++ from_top new_after ≡ joined before ++ without (from_top after) offset removed
