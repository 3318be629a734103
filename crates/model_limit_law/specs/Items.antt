-- The limits on nesting and marks in words of lists alone.
use Rattle.std.specs.Prelude.{◌≡◌, ◌↔◌, ℕ, suc, ◌-◌, if◌then◌else◌, nat_le, nat_lt, List, [], ◌∷◌, length, Option, Some, None, option_map, IsUtf8}
use Rattle.ve_base.specs.Limits.{max_marks, max_open_kinds}
use Rattle.model_items.specs.declared.plain_item.PlainItem.{PlainItem}
use Rattle.model_items.specs.declared.plain_item.PlainItem.TheVariants.{Char, Opening, Closing}
use Rattle.model_items.specs.Law.{Lawful}
use Rattle.model_page.specs.PageItems.{Opened, opened_page}
use Rattle.model_page.specs.Limits.{Limit, TooDeep, TooManyMarks}
use Rattle.model_page.specs.OpenPage.{limit_in}
use Rattle.model_site_law.specs.ItemLaws.{AllPass}
use Rattle.model_world_law.specs.Standing.{has_few_marks}

-- A page is within the limits on nesting and marks exactly where its list is lawful and no item has
-- more than 64 marks.
abbrev pub LimitsAreOfItems : Type 0
LimitsAreOfItems = (page : List ℕ) (o : Opened) → IsUtf8 page → opened_page page ≡ Some o →
    (limit_in o ≡ None) ↔ (Lawful o.items × AllPass has_few_marks o.items)

-- the limit on nesting, or that on marks
pub data Which : Type 0 where
  OfKinds : Which
  OfMarks : Which

abbrev pub which : Limit → Which
which (TooDeep at) = OfKinds
which (TooManyMarks at) = OfMarks

-- The first item of a list that has more than 64 marks or opens inside of 100 kinds, and which of
-- the two; so many kinds are open before.
abbrev pub first_over : ℕ → List PlainItem → Option Which
first_over depth [] = None
first_over depth (Char c marks ∷ items) = if nat_le (length marks) max_marks then first_over depth items else Some OfMarks
first_over depth (Closing kind pre ∷ items) = first_over (depth - 1) items
first_over depth (Opening kind head marks pre origin generated ∷ items) =
    if nat_le (length marks) max_marks
    then (if nat_lt depth max_open_kinds then first_over (suc depth) items else Some OfKinds)
    else Some OfMarks

-- And it is over the limit that the first item of its list is over, reference bodies and all.
abbrev pub FirstItemIsOver : Type 0
FirstItemIsOver = (page : List ℕ) (o : Opened) → IsUtf8 page → opened_page page ≡ Some o → option_map which (limit_in o) ≡ first_over 0 o.items
