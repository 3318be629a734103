-- Pages at the limits on nesting and marks, and one past them, by computation.
use Rattle.std.specs.Prelude.{◌≡◌, ℕ, List, [], ◌∷◌, ◌++◌, Option, Some, None, codes, refl, option_and_then}
use Rattle.std.specs.List.{repeat}
use Rattle.model_spelling.specs.Parsed.{forest_of}
use Rattle.model_page.specs.Limits.{Limit, TooDeep, TooManyMarks, page_limit, fragment_limit}
use Rattle.ve_kinds.specs.declared.kind.Kind.TheVariants.{P}
use Rattle.model_page.proofs.OnLiterals.{page_on_literals}

abbrev limit : List ℕ → Option Limit
limit page = option_and_then (page_limit 0) (forest_of page)

deep_99 : limit (repeat 99 (codes "<div>") ++ codes "<p>a</p>" ++ repeat 99 (codes "</div>")) ≡ None
unfolding page_on_literals
deep_99 = refl

deep_100 : limit (repeat 100 (codes "<div>") ++ codes "<p>a</p>" ++ repeat 100 (codes "</div>")) ≡ Some (TooDeep 500)
unfolding page_on_literals
deep_100 = refl

run_100 : limit (repeat 100 (codes "<div>") ++ codes "a<br>" ++ repeat 100 (codes "</div>")) ≡ Some (TooDeep 500)
unfolding page_on_literals
run_100 = refl

leaf_100 : limit (repeat 99 (codes "<div>") ++ codes "a<br>" ++ repeat 99 (codes "</div>")) ≡ Some (TooDeep 496)
unfolding page_on_literals
leaf_100 = refl

marks_64 : limit (codes "<p>" ++ repeat 64 (codes "<b>") ++ codes "a" ++ repeat 64 (codes "</b>") ++ codes "</p>") ≡ None
unfolding page_on_literals
marks_64 = refl

marks_65 : limit (codes "<p>" ++ repeat 65 (codes "<b>") ++ codes "a" ++ repeat 65 (codes "</b>") ++ codes "</p>") ≡ Some (TooManyMarks 195)
unfolding page_on_literals
marks_65 = refl

-- the annotations of a fragment that stands in content
fragment_marks : option_and_then (fragment_limit (P ∷ [])) (forest_of (repeat 65 (codes "<b>") ++ codes "a" ++ repeat 65 (codes "</b>"))) ≡ Some 192
unfolding page_on_literals
fragment_marks = refl
