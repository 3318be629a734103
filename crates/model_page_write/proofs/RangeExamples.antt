-- Ranges of pages that are written fresh, by computation.
use Rattle.std.specs.Prelude.{◌≡◌, ℕ, true, List, [], ◌∷◌, ◌++◌, Option, Some, None, codes, refl, option_map}
use Rattle.ve_base.specs.Empty.{empty_head}
use Rattle.ve_kinds.specs.declared.kind.Kind.TheVariants.{P}
use Rattle.model_items.specs.declared.plain_item.PlainItem.{PlainItem}
use Rattle.model_items.specs.declared.plain_item.PlainItem.TheVariants.{Char, Opening, Closing}
use Rattle.model_page.specs.PageItems.{opened_page}
use Rattle.model_page.proofs.OnLiterals.{page_on_literals}
use Rattle.model_page.proofs.PageExamples.{runs_page, reuse_page}
use Rattle.model_page_write.specs.Range.{fresh_range}

abbrev range_of : List ℕ → ℕ → ℕ → Option (List ℕ)
range_of page from to = option_map (λ o. fresh_range o.items from to) (opened_page page)

-- ---- what stands beside the range

-- The whitespace before the range's first node is a part of it, and that before the node after it
-- isn't. The node was written in another way when it was read.
abbrev spaced_page : List ℕ
spaced_page = codes "<p>a</p> <p id='x'>b<br/></p>" ++ 10 ∷ codes "<p>c</p>"

between : range_of spaced_page 3 8 ≡ Some (codes " <p id=\"x\">b<br></p>")
unfolding page_on_literals
between = refl

side_by_side : range_of spaced_page 3 11 ≡ Some (codes " <p id=\"x\">b<br></p>" ++ 10 ∷ codes "<p>c</p>")
unfolding page_on_literals
side_by_side = refl

none_of_it : range_of spaced_page 3 3 ≡ Some []
unfolding page_on_literals
none_of_it = refl

-- ---- paragraphs that were made for their text

-- a, a paragraph x, and b, in a list item
one_run : range_of runs_page 8 11 ≡ Some (codes "b")
unfolding page_on_literals
one_run = refl

run_and_paragraph : range_of runs_page 2 8 ≡ Some (codes "a<p>x</p>")
unfolding page_on_literals
run_and_paragraph = refl

abbrev made : List ℕ → ℕ → List PlainItem
made pre c = Opening P empty_head [] pre None true ∷ Char c [] ∷ Closing P [] ∷ []

abbrev made_items : List PlainItem
made_items = made [] 97 ++ made [] 98 ++ made (codes " ") 99

all_made : fresh_range made_items 0 9 ≡ codes "a<p>b</p> <p>c</p>"
unfolding page_on_literals
all_made = refl

-- By itself the second has no tags: the bare one before it and the whitespace after it aren't
-- written.
made_between : fresh_range made_items 3 6 ≡ codes "b"
unfolding page_on_literals
made_between = refl

-- ---- references

-- the carrier has its body, which stands in the internal list and so outside the range
carrier : range_of reuse_page 0 5
    ≡ Some (codes "<p>a<sup typeof=\"mw:Extension/ref\" data-mw=\"{&quot;attrs&quot;:{&quot;name&quot;:&quot;n&quot;},&quot;body&quot;:{&quot;html&quot;:&quot;x&quot;},&quot;name&quot;:&quot;ref&quot;}\">[1]</sup></p>")
unfolding page_on_literals
carrier = refl

-- the other one has none, also where the range is without the carrier
reuse : range_of reuse_page 5 10
    ≡ Some (codes "<p>b<sup typeof=\"mw:Extension/ref\" data-mw=\"{&quot;attrs&quot;:{&quot;name&quot;:&quot;n&quot;},&quot;name&quot;:&quot;ref&quot;}\">[1]</sup></p>")
unfolding page_on_literals
reuse = refl
