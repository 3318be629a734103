-- A list that is read from its end, piece by piece as it is borrowed.
use Rattle.std.specs.Prelude.{◌≡◌, ◌≤◌, ◌<◌, ◌-◌, ℕ, List, length, slice_range}
use Rattle.model_items.specs.declared.item.Item.{Item}

-- the items of the list, and how many of them are still to be read
pub record Rest : Type 0 where
  pub items : List Item
  pub left : ℕ

-- The piece is the end of what is still to be read, and has an item where any is left.
pub record IsEndPiece (items : List Item) (left : ℕ) (lent : List Item) : Type 0 where
  pub within : length lent ≤ left
  pub some : 0 < left → 0 < length lent
  pub piece : lent ≡ slice_range items (left - length lent) left

-- The list is read as far as `left`, and the end of that is borrowed.
pub record IsLent (items : List Item) (left : ℕ) (lent : List Item) : Type 0 where
  pub within : left ≤ length items
  pub end : IsEndPiece items left lent
