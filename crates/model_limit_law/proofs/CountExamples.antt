-- Counts of a page, by computation.
use Rattle.std.specs.Prelude.{◌≡◌, ℕ, List, [], ◌∷◌, ◌++◌, Option, Some, codes, refl, option_map}
use Rattle.std.specs.List.{repeat}
use Rattle.ve_kinds.specs.declared.kind.Kind.TheVariants.{Root}
use Rattle.model_spelling.specs.Parsed.{forest_of}
use Rattle.model_page.specs.Fit.{Flow}
use Rattle.model_page.specs.PageItems.{page_made}
use Rattle.model_page.specs.Parts.{parts_of}
use Rattle.model_page.proofs.OnLiterals.{page_on_literals}
use Rattle.model_limit_law.specs.Counted.{mark_counts, mark_places, openings}
use Rattle.model_limit_law.proofs.FirstLemmas.{first_marked}

abbrev opened : List ℕ → Option (List (ℕ × ℕ))
opened page = option_map (λ f. openings 0 (page_made 0 f).later.items (page_made 0 f).later.spans) (forest_of page)

abbrev marked : List ℕ → Option (List (List ℕ))
marked page = option_map (λ f. mark_places [] (Flow Root) (parts_of f) 0) (forest_of page)

abbrev counted : List ℕ → Option (List ℕ)
counted page = option_map (λ f. mark_counts (page_made 0 f).later.items) (forest_of page)

-- a paragraph that was generated begins where its run does
nested : opened (codes "<ul><li>a</li></ul><p>b</p>") ≡ Some ((1, 0) ∷ (2, 4) ∷ (3, 8) ∷ (1, 19) ∷ [])
unfolding page_on_literals
nested = refl

-- of a, b, c, the br and d
marks : marked (codes "<p>a<b>b<i>c<br></i></b>d</p>") ≡ Some ([] ∷ (4 ∷ []) ∷ (4 ∷ 8 ∷ []) ∷ (4 ∷ 8 ∷ []) ∷ [] ∷ [])
unfolding page_on_literals
marks = refl

marks_of_items : counted (codes "<p>a<b>b<i>c<br></i></b>d</p>") ≡ Some (1 ∷ 2 ∷ 2 ∷ [])
unfolding page_on_literals
marks_of_items = refl

-- the 65th mark begins at 3 + 64 * 3, and the first item that has it stands later, inside of a 66th
first_65 : option_map first_marked (marked (codes "<p>" ++ repeat 66 (codes "<b>") ++ codes "a" ++ repeat 66 (codes "</b>") ++ codes "</p>")) ≡ Some (Some 195)
unfolding page_on_literals
first_65 = refl
