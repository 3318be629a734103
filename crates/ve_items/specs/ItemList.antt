-- The view of a page's list.
use Rattle.std.specs.Prelude.{ℕ, List}
use Rattle.model_items.specs.declared.item.Item.{Item}

pub record ItemList : Type 0 where
  pub items : List Item
  -- how many more fit without memory
  pub spare : ℕ
  -- the same items, in the pieces in which they are borrowed
  pub blocks : List (List Item)
