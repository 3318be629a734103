-- Ranges that are written by themselves, and the bodies that are carried in them.
use Rattle.std.specs.Prelude.{◌≡◌, ◌≤◌, ℕ, ◌+◌, ◌-◌, Bool, true, ◌&&◌, if◌then◌else◌, nat_le, nat_lt, List, length, Option, None}
use Rattle.model_items.specs.declared.plain_item.PlainItem.{PlainItem}
use Rattle.model_items.specs.Offsets.{kind_at, unmatched_counts}
use Rattle.model_page.specs.declared.ref_table.RefRow.{RefRow}
use Rattle.model_page.specs.References.{table}
use Rattle.ve_write.specs.Begun.{holds_blocks}
use Rattle.ve_write.specs.BodyTexts.{carried_outside, text_by}

-- The range is whole siblings: no bracket in it has its partner outside. They stand in a node that
-- holds blocks, or outside all nodes.
pub record AreSiblings (items : List PlainItem) (from to : ℕ) : Type 0 where
  pub order : from ≤ to
  pub within : to ≤ length items
  pub matched : unmatched_counts items from to ≡ (0, 0)
  pub blocks : holds_blocks (kind_at items from) ≡ true

-- ---- private functions

-- the position is in the range
abbrev pub stands_in : ℕ → ℕ → ℕ → Bool
stands_in from to at = nat_le from at && nat_lt at to

-- where the internal item opens whose body the reference of a row carries, if that is in the range
abbrev pub carried_in : ℕ → ℕ → ℕ → RefRow → Option ℕ
carried_in from to notes row = if stands_in from to row.at then carried_outside notes row else None

-- what is known of positions of a list, by positions in a range of it
abbrev pub in_range : {A : Type 0} → ℕ → ℕ → (ℕ → Option A) → ℕ → Option A
in_range from to known at = if nat_lt at (to - from) then known (from + at) else None

-- These are the texts of the bodies that the references in the range carry, by their positions in
-- it.
abbrev pub AreTextsIn : List PlainItem → ℕ → ℕ → (ℕ → Option (List ℕ)) → Type 0
AreTextsIn items from to texts = (at : ℕ) → in_range from to (text_by items (table items)) at ≡ texts at
