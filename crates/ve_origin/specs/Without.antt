-- Items without the whitespace before a node.
use Rattle.std.specs.Prelude.{◌≡◌, ℕ, ◌+◌, List, [], ◌∷◌, None}
use Rattle.std.specs.List.{slice_range}
use Rattle.model_items.specs.declared.item.Item.{Item}
use Rattle.model_items.specs.declared.item.Item.TheVariants.{Char, Opening, Closing}
use Rattle.model_items.specs.declared.plain_item.PlainItem.{PlainItem}
use Rattle.model_page_write.specs.PageText.{item_without_pre}

abbrev pub without : Item → Item
without (Char ch marks) = Char ch marks
without (Opening kind generated head marks pre origin) = Opening kind generated head marks None origin
without (Closing kind pre) = Closing kind pre

abbrev pub first_without : List Item → List Item
first_without [] = []
first_without (x ∷ xs) = without x ∷ xs

abbrev pub first_plain : List PlainItem → List PlainItem
first_plain [] = []
first_plain (x ∷ xs) = item_without_pre x ∷ xs

-- so many items from a position of each list cite the same, the whitespace before the first ones
-- aside
abbrev pub AreSameNodes : List Item → ℕ → List Item → ℕ → ℕ → Type 0
AreSameNodes now from first place count =
    first_without (slice_range now from (from + count)) ≡ first_without (slice_range first place (place + count))
