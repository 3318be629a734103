-- The rest of a list after a node.
use Rattle.std.specs.Prelude.{◌≡◌, ℕ, ◌+◌, List, Option, drop}
use Rattle.ve_base.specs.declared.value.ValueId.{ValueId}
use Rattle.model_items.specs.declared.item.Item.{Item}
use Rattle.model_items.specs.Plain.{value_at, white_in}
use Rattle.model_page_write.specs.Nodes.{first_outer}
use Rattle.ve_write.specs.Siblings.{View, ending_at, Ends}
use Rattle.ve_write.specs.declared.ends.After.{After}

-- after the siblings that end here: the whitespace before the closing, and the later siblings of
-- the node that they stand in
pub record Follows (items : List Item) (end : ℕ) (after : After) : Type 0 where
  pub pre : (v : View) → (first_outer (ending_at v items end).outer).pre ≡ white_in (value_at v.values after.pre)
  pub later : (v : View) → (first_outer (ending_at v items end).outer).later ≡ (ending_at v items after.at).here
  pub outer : (v : View) → drop 1 (ending_at v items end).outer ≡ (ending_at v items after.at).outer

-- ---- private functions

-- A node opens at the first position, and its later siblings begin at the second.
pub record IsNode (items : List Item) (from to : ℕ) : Type 0 where
  pub end : ℕ
  pub pre : Option ValueId
  pub inside : Ends items (from + 1) end
  pub follows : Follows items end (record { pre = pre; at = to })
