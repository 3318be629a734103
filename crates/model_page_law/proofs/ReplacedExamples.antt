-- A whole page with other bodies, by computation.
use Rattle.std.specs.Prelude.{◌≡◌, ℕ, List, [], ◌∷◌, ◌++◌, Option, Some, codes, refl, option_map, option_and_then}
use Rattle.ve_kinds.specs.declared.kind.Kind.TheVariants.{P, AlienBlock}
use Rattle.model_items.specs.declared.plain_item.PlainItem.TheVariants.{Char}
use Rattle.model_page.specs.Pieces.{SourceSpan}
use Rattle.model_page.specs.PageItems.{opened_page}
use Rattle.model_page.proofs.OnLiterals.{page_on_literals}
use Rattle.model_page.proofs.PageExamples.{open_, close_, whole_, empty_list, items_in, span}
use Rattle.model_page_law.specs.Replaced.{with_body_text}

abbrev page : List ℕ
page = codes "<!DOCTYPE html><body id=\"x\"><p>a</p></body></html>"

-- the page with this text as its body
abbrev replaced : List ℕ → Option (List ℕ)
replaced text = option_map (λ o. with_body_text o text) (opened_page page)

abbrev body_in : List ℕ → Option SourceSpan
body_in text = option_map (λ o. o.body) (opened_page text)

is_replaced : replaced (codes "<p>bc</p>") ≡ Some (codes "<!DOCTYPE html><body id=\"x\"><p>bc</p></body></html>")
unfolding page_on_literals
is_replaced = refl

opens : option_and_then items_in (replaced (codes "<p>bc</p>")) ≡ Some (open_ P 0 ∷ Char 98 [] ∷ Char 99 [] ∷ close_ P ∷ empty_list)
unfolding page_on_literals
opens = refl

-- neither a start nor an end of a body within the text moves head and tail
abbrev tags : List ℕ
tags = codes "<!--<body></body>-->"

tags_open : option_and_then items_in (replaced tags) ≡ Some (whole_ AlienBlock 0 [] tags ++ empty_list)
unfolding page_on_literals
tags_open = refl

same_place : option_and_then body_in (replaced tags) ≡ Some (span 28 48)
unfolding page_on_literals
same_place = refl
