-- Larger pages, untouched: many leaves, many lists, deep nesting, many marks, many paragraphs.
use Rattle.std.specs.Prelude.{◌≡◌, ℕ, List, ◌++◌, Option, Some, codes, refl, option_map}
use Rattle.std.specs.List.{repeat}
use Rattle.model_page.specs.PageItems.{opened_page}
use Rattle.model_page.proofs.OnLiterals.{page_on_literals}
use Rattle.model_page_write.specs.PageText.{write}

abbrev again : List ℕ → Option (List ℕ)
again page = option_map (λ o. write o o.items) (opened_page page)

leaves : again (codes "<p>" ++ repeat 40 (codes "a<br>") ++ codes "</p>") ≡ Some (codes "<p>" ++ repeat 40 (codes "a<br>") ++ codes "</p>")
unfolding page_on_literals
leaves = refl

lists : again (codes "<ul>" ++ repeat 20 (codes "<li>a <b>b</b></li> ") ++ codes "</ul>") ≡ Some (codes "<ul>" ++ repeat 20 (codes "<li>a <b>b</b></li> ") ++ codes "</ul>")
unfolding page_on_literals
lists = refl

deep : again (repeat 30 (codes "<div>") ++ codes "x" ++ repeat 30 (codes "</div>")) ≡ Some (repeat 30 (codes "<div>") ++ codes "x" ++ repeat 30 (codes "</div>"))
unfolding page_on_literals
deep = refl

marked_around : again (codes "<p>" ++ repeat 30 (codes "<b>") ++ codes "x" ++ repeat 30 (codes "</b>") ++ codes "</p>") ≡ Some (codes "<p>" ++ repeat 30 (codes "<b>") ++ codes "x" ++ repeat 30 (codes "</b>") ++ codes "</p>")
unfolding page_on_literals
marked_around = refl

long : again (repeat 100 (codes "<p>abcdefghij klm</p>")) ≡ Some (repeat 100 (codes "<p>abcdefghij klm</p>"))
unfolding page_on_literals
long = refl
