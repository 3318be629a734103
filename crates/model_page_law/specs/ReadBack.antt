-- A list that was written fresh, and is read again, is that list.
use Rattle.std.specs.Prelude.{◌≡◌, ℕ, true, false, List, map, Some, None}
use Rattle.model_spelling.specs.Forest.{Forest, spelling, is_forest}
use Rattle.model_items.specs.declared.plain_item.PlainItem.{PlainItem}
use Rattle.model_items.specs.declared.plain_item.PlainItem.TheVariants.{Char, Opening, Closing}
use Rattle.model_items.specs.Law.{Lawful}
use Rattle.model_page.specs.PageItems.{Opened, opened_page, items_of_page, page_made}
use Rattle.model_page_write.specs.PageText.{fresh}
use Rattle.model_page_law.specs.Formed.{AreFormed}
use Rattle.ve_base.specs.Limits.{max_open_elements}

-- up to origins and the flag generated
abbrev pub without_origin : PlainItem → PlainItem
without_origin (Opening kind head marks pre origin generated) = Opening kind head marks pre None false
without_origin (Closing kind pre) = Closing kind pre
without_origin (Char c marks) = Char c marks

-- Where a forest spells the fresh text of a lawful list of the form, its items are those of the
-- list.
abbrev pub FreshIsReadBack : Type 0
FreshIsReadBack = (items : List PlainItem) → Lawful items → AreFormed items →
    (f : Forest) (at : ℕ) → is_forest max_open_elements f ≡ true → spelling f ≡ fresh items →
    map without_origin (items_of_page (page_made at f)) ≡ map without_origin items

-- Where the fresh text opens as a page, the page's items are those of the list.
abbrev pub FreshOpensAsItself : Type 0
FreshOpensAsItself = (items : List PlainItem) → Lawful items → AreFormed items →
    (o : Opened) → opened_page (fresh items) ≡ Some o → map without_origin o.items ≡ map without_origin items
