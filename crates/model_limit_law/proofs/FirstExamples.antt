-- The first item over a limit, and the first position, by computation.
use Rattle.std.specs.Prelude.{◌≡◌, ℕ, List, [], ◌++◌, Option, Some, None, codes, refl, option_and_then}
use Rattle.std.specs.List.{repeat}
use Rattle.ve_base.specs.declared.head.Key.TheVariants.{Auto}
use Rattle.ve_kinds.specs.declared.kind.Kind.TheVariants.{InternalItem}
use Rattle.model_spelling.specs.Forest.{Forest}
use Rattle.model_spelling.specs.Parsed.{forest_of}
use Rattle.model_page.specs.Limits.{Limit, TooDeep, TooManyMarks, page_limit}
use Rattle.model_page.specs.PageItems.{body_made, items_of_page, or_nothing, page_made}
use Rattle.model_page.specs.Parts.{parts_of}
use Rattle.model_page.specs.Fit.{Flow}
use Rattle.model_page.specs.Pieces.{Owner}
use Rattle.model_page.proofs.OnLiterals.{page_on_literals}
use Rattle.model_limit_law.specs.Counted.{mark_places, openings}
use Rattle.model_limit_law.specs.First.{FirstInBody}
use Rattle.model_limit_law.specs.Items.{OfKinds, OfMarks, Which, first_over}
use Rattle.model_limit_law.proofs.FirstLemmas.{limit_is_first}

abbrev over : List ℕ → Option Which
over page = option_and_then (λ f. first_over 0 (items_of_page (page_made 0 f))) (forest_of page)

abbrev limit : List ℕ → Option Limit
limit page = option_and_then (page_limit 0) (forest_of page)

-- the content of a page in 99 divisions, which is in a paragraph that was generated
abbrev deep : List ℕ → List ℕ
deep content = repeat 99 (codes "<div>") ++ content ++ repeat 99 (codes "</div>")

abbrev bold : List ℕ → List ℕ
bold content = repeat 65 (codes "<b>") ++ content ++ repeat 65 (codes "</b>")

characters_are_not_nested : over (deep (codes "a")) ≡ None
unfolding page_on_literals
characters_are_not_nested = refl

leaves_are_nested : over (deep (codes "a<br>")) ≡ Some OfKinds
unfolding page_on_literals
leaves_are_nested = refl

-- a leaf that is over both limits is in an element that begins before it
marks_come_first : over (deep (bold (codes "<br>"))) ≡ Some OfMarks
unfolding page_on_literals
marks_come_first = refl

marks_begin_first : limit (deep (bold (codes "<br>"))) ≡ Some (TooManyMarks 687)
unfolding page_on_literals
marks_begin_first = refl

-- unless it is not the first leaf
kinds_come_first : over (deep (codes "<br>" ++ bold (codes "a"))) ≡ Some OfKinds
unfolding page_on_literals
kinds_come_first = refl

kinds_begin_first : limit (deep (codes "<br>" ++ bold (codes "a"))) ≡ Some (TooDeep 495)
unfolding page_on_literals
kinds_begin_first = refl

-- a body stands in the internal list and in an item of it
abbrev owner : Owner
owner = record { at = 4; key = record { group = []; key = Auto 0 }; html = repeat 98 (codes "<div>") ++ codes "a" ++ repeat 98 (codes "</div>") }

abbrev body : Forest
body = or_nothing (forest_of owner.html)

bodies_are_in_two : FirstInBody owner (TooDeep 490)
unfolding page_on_literals
bodies_are_in_two = limit_is_first (openings 2 (body_made body).later.items (body_made body).later.spans) (mark_places [] (Flow InternalItem) (parts_of body) 0) (TooDeep 490) refl

body_in_list : over (codes "<p>a<sup typeof=\"mw:Extension/ref\" data-mw='{\"body\":{\"html\":\"" ++ repeat 98 (codes "<div>") ++ codes "a" ++ repeat 98 (codes "</div>") ++ codes "\"}}'></sup></p>") ≡ Some OfKinds
unfolding page_on_literals
body_in_list = refl
