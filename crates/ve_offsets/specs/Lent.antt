-- Borrowed pieces of a list.
use Rattle.std.specs.Prelude.{◌≡◌, ◌≤◌, ◌<◌, ◌+◌, ℕ, List, length, slice_range}
use Rattle.model_items.specs.declared.item.Item.{Item}

-- the items from a position on
abbrev pub IsPiece : List Item → ℕ → List Item → Type 0
IsPiece items from piece = piece ≡ slice_range items from (from + length piece)

-- and the one at a position is among them
pub record HoldsItem (items : List Item) (at from : ℕ) (piece : List Item) : Type 0 where
  pub lent : IsPiece items from piece
  pub starts : from ≤ at
  pub holds : at < from + length piece
