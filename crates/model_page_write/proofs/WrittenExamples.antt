-- Pages as they are written, untouched and after an edit of their items, by computation.
use Rattle.std.specs.Prelude.{◌≡◌, ℕ, false, List, [], ◌∷◌, ◌++◌, Option, Some, codes, refl, option_map}
use Rattle.ve_kinds.specs.declared.kind.Kind.TheVariants.{P, Ul, Li, Br}
use Rattle.model_items.specs.declared.plain_item.PlainItem.{PlainItem}
use Rattle.model_items.specs.declared.plain_item.PlainItem.TheVariants.{Char, Opening}
use Rattle.model_page.specs.PageItems.{opened_page}
use Rattle.model_page.proofs.OnLiterals.{page_on_literals}
use Rattle.model_page.proofs.PageExamples.{b, open_, close_, made_, text_, with_attrs, empty_list, internal_list_of, owner_paragraph, reuse_paragraph, bold_page, bold_items, neighbour_page, neighbour_items, runs_page, runs_items, reuse_page, reuse_items, wiki_page, wiki_page_with, wiki_items, wiki_items_with, document_page, document_items}
use Rattle.model_page_write.specs.PageText.{write}

abbrev pub after_opening : List ℕ → List PlainItem → Option (List ℕ)
after_opening page items = option_map (λ o. write o items) (opened_page page)

-- ---- marks

bold_written : after_opening bold_page bold_items ≡ Some bold_page
unfolding page_on_literals
bold_written = refl

bold_edited : after_opening bold_page (open_ P 0 ∷ text_ (b ∷ []) (codes "abc") ++ close_ P ∷ empty_list) ≡ Some (codes "<p><b>abc</b></p>")
unfolding page_on_literals
bold_edited = refl

-- ---- an untouched neighbour

neighbour_written : after_opening neighbour_page neighbour_items ≡ Some neighbour_page
unfolding page_on_literals
neighbour_written = refl

neighbour_edited : after_opening neighbour_page (
    Opening P (with_attrs (record { name = codes "id"; value = codes "x" } ∷ [])) [] [] (Some 0) false
    ∷ Char 97 [] ∷ open_ Br 1 ∷ close_ Br ∷ close_ P ∷ open_ P 2 ∷ text_ [] (codes "bc") ++ close_ P ∷ empty_list)
    ≡ Some (codes "<p id='x'>a<br/></p><p>bc</p>")
unfolding page_on_literals
neighbour_edited = refl

-- ---- bare runs

runs_written : after_opening runs_page runs_items ≡ Some runs_page
unfolding page_on_literals
runs_written = refl

runs_edited : after_opening runs_page (
    open_ Ul 0 ∷ open_ Li 1
    ∷ made_ 2 ∷ Char 97 [] ∷ close_ P
    ∷ made_ 4 ∷ Char 98 [] ∷ close_ P
    ∷ close_ Li ∷ close_ Ul ∷ empty_list)
    ≡ Some (codes "<ul><li>a<p>b</p></li></ul>")
unfolding page_on_literals
runs_edited = refl

-- ---- a whole document

document_written : after_opening document_page document_items ≡ Some document_page
unfolding page_on_literals
document_written = refl

document_edited : after_opening document_page (open_ P 0 ∷ text_ [] (codes "aXb") ++ close_ P ∷ empty_list)
    ≡ Some (codes "<!DOCTYPE html>" ++ 10 ∷ codes "<html><head><title>T</title></head><body lang=\"en\"><p>aXb</p></body></html>")
unfolding page_on_literals
document_edited = refl

-- ---- references

reuse_written : after_opening reuse_page reuse_items ≡ Some reuse_page
unfolding page_on_literals
reuse_written = refl

reuse_edited : after_opening reuse_page (reuse_paragraph ++ internal_list_of (codes "x"))
    ≡ Some (codes "<p>b<sup typeof=\"mw:Extension/ref\" data-mw=\"{&quot;attrs&quot;:{&quot;name&quot;:&quot;n&quot;},&quot;body&quot;:{&quot;html&quot;:&quot;x&quot;},&quot;name&quot;:&quot;ref&quot;}\">[1]</sup></p>")
unfolding page_on_literals
reuse_edited = refl

body_edited : after_opening reuse_page (owner_paragraph ++ reuse_paragraph ++ internal_list_of (codes "xy"))
    ≡ Some (codes "<p>a<sup typeof=\"mw:Extension/ref\" data-mw=\"{&quot;attrs&quot;:{&quot;name&quot;:&quot;n&quot;},&quot;body&quot;:{&quot;html&quot;:&quot;xy&quot;},&quot;name&quot;:&quot;ref&quot;}\">[1]</sup></p><p>b<sup typeof=\"mw:Extension/ref\" data-mw='{\"name\":\"ref\",\"attrs\":{\"name\":\"n\"}}'>[1]</sup></p>")
unfolding page_on_literals
body_edited = refl

-- ---- a page in MediaWiki's markup

wiki_written : after_opening wiki_page wiki_items ≡ Some wiki_page
unfolding page_on_literals
wiki_written = refl

wiki_edited : after_opening wiki_page (wiki_items_with (codes "now See")) ≡ Some (wiki_page_with (codes "now See"))
unfolding page_on_literals
wiki_edited = refl

-- ---- a leaf in content keeps its bytes, and a generated paragraph with a marked space is bare

leaf_kept : after_opening (codes "<p>a<br/>b</p>") (open_ P 0 ∷ text_ [] (codes "ax") ++ open_ Br 1 ∷ close_ Br ∷ Char 98 [] ∷ close_ P ∷ empty_list) ≡ Some (codes "<p>ax<br/>b</p>")
unfolding page_on_literals
leaf_kept = refl

marked_space : after_opening (codes "<b> </b>") (made_ 0 ∷ Char 32 (b ∷ []) ∷ close_ P ∷ empty_list) ≡ Some (codes "<b> </b>")
unfolding page_on_literals
marked_space = refl
