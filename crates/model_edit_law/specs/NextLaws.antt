-- Where a caret goes from a position in content.
use Rattle.std.specs.Prelude.{◌≡◌, ◌↔◌, ℕ, ◌-◌, ◌<◌, ◌≤◌, true, List, length, slice_get, Some, None}
use Rattle.model_items.specs.declared.plain_item.PlainItem.{PlainItem}
use Rattle.model_items.specs.Law.{Lawful}
use Rattle.model_edit.specs.declared.selection.By.{By}
use Rattle.model_edit.specs.declared.selection.Dir.{Dir}
use Rattle.model_edit.specs.declared.selection.Dir.TheVariants.{Back, Ahead}
use Rattle.model_items.specs.Offsets.{opens_at, is_content, is_opening, is_closing, passes}
use Rattle.model_edit.specs.Next.{next}

-- farther in the direction
abbrev pub IsFarther : Dir → ℕ → ℕ → Type 0
IsFarther Ahead at to = at < to
IsFarther Back at to = to < at

-- the bracket of the branch that ends it in the direction stands here
abbrev pub IsEnd : Dir → List PlainItem → ℕ → Type 0
IsEnd Ahead items at = passes is_closing (slice_get items at) ≡ true
IsEnd Back items at = passes is_opening (slice_get items (at - 1)) ≡ true

-- It goes farther, to an offset of the list at which the same nodes are open: it stays in its
-- content branch.
pub record CaretGoes (dir : Dir) (items : List PlainItem) (at to : ℕ) : Type 0 where
  pub farther : IsFarther dir at to
  pub within : to ≤ length items
  pub branch : opens_at items to ≡ opens_at items at
  pub content : is_content items to ≡ true

abbrev pub CaretStaysInBranch : Type 0
CaretStaysInBranch = (items : List PlainItem) (at to : ℕ) (dir : Dir) (by : By) → Lawful items → is_content items at ≡ true →
    next items at dir by ≡ Some to → CaretGoes dir items at to

-- It goes nowhere exactly at an end of its branch.
abbrev pub CaretStopsAtEnds : Type 0
CaretStopsAtEnds = (items : List PlainItem) (at : ℕ) (dir : Dir) (by : By) → Lawful items → is_content items at ≡ true →
    (next items at dir by ≡ None) ↔ IsEnd dir items at
