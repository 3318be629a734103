-- The origins of a page that was just opened are the numbers of its spans.
use Rattle.std.specs.Prelude.{◌≡◌, ℕ, zero, suc, List, [], ◌∷◌, length, Option, Some, None}
use Rattle.model_items.specs.declared.plain_item.PlainItem.{PlainItem}
use Rattle.model_items.specs.declared.plain_item.PlainItem.TheVariants.{Char, Opening, Closing}
use Rattle.model_page.specs.PageItems.{Opened, opened_page}

abbrev pub origin_before : Option ℕ → List ℕ → List ℕ
origin_before None origins = origins
origin_before (Some k) origins = k ∷ origins

-- the origins of a list, in its order
abbrev pub origins_of : List PlainItem → List ℕ
origins_of [] = []
origins_of (Char c marks ∷ items) = origins_of items
origins_of (Closing kind pre ∷ items) = origins_of items
origins_of (Opening kind head marks pre origin generated ∷ items) = origin_before origin (origins_of items)

-- so many numbers, from k up
abbrev pub counted_from : ℕ → ℕ → List ℕ
counted_from k zero = []
counted_from k (suc count) = k ∷ counted_from (suc k) count

-- In an opened page each origin stands once, in order, and the page has a span for each. Reference
-- bodies have none.
abbrev pub OriginsNumberSpans : Type 0
OriginsNumberSpans = (page : List ℕ) (o : Opened) → opened_page page ≡ Some o → origins_of o.items ≡ counted_from 0 (length o.spans)
