-- Lists that are written fresh and read again, by computation.
use Rattle.std.specs.Prelude.{◌≡◌, true, false, List, [], ◌∷◌, map, Option, Some, None, codes, refl, option_map}
use Rattle.ve_kinds.specs.declared.kind.Kind.{Kind}
use Rattle.ve_kinds.specs.declared.kind.Kind.TheVariants.{P, Pre, Ul, Li, Dl, Dt, Dd, Div, Section, Table, Caption, Tbody, Tr, Td, Br, Img, InternalList}
use Rattle.ve_base.specs.declared.marks.Mark.{Mark}
use Rattle.model_items.specs.declared.plain_item.PlainItem.{PlainItem}
use Rattle.model_items.specs.declared.plain_item.PlainItem.TheVariants.{Char, Opening, Closing}
use Rattle.ve_base.specs.Empty.{empty_head}
use Rattle.model_page.specs.PageItems.{opened_page}
use Rattle.model_page.proofs.OnLiterals.{page_on_literals}
use Rattle.model_page.proofs.PageExamples.{with_attrs}
use Rattle.model_page_write.specs.PageText.{fresh}

-- without origins, and not generated
abbrev flat : PlainItem → PlainItem
flat (Opening kind head marks pre origin generated) = Opening kind head marks pre None false
flat (Closing kind pre) = Closing kind pre
flat (Char c marks) = Char c marks

abbrev read_again : List PlainItem → Option (List PlainItem)
read_again items = option_map (λ o. map flat o.items) (opened_page (fresh items))

abbrev Again : List PlainItem → Type 0
Again items = read_again items ≡ Some (map flat items)

abbrev o_ : Kind → PlainItem
o_ k = Opening k empty_head [] [] None false

abbrev g_ : PlainItem
g_ = Opening P empty_head [] [] None true

abbrev w_ : Kind → PlainItem
w_ k = Opening k empty_head [] (codes " ") None false

abbrev c_ : Kind → PlainItem
c_ k = Closing k []

abbrev end_ : List PlainItem
end_ = Opening InternalList empty_head [] [] None false ∷ Closing InternalList [] ∷ []

abbrev bold : Mark
bold = record { tag = codes "b"; attrs = [] }

abbrev link : Mark
link = record { tag = codes "a"; attrs = record { name = codes "href"; value = 34 ∷ 60 ∷ 160 ∷ 38 ∷ 39 ∷ 128512 ∷ [] } ∷ [] }

-- generated paragraphs side by side: every second one is bare
paragraphs : Again (g_ ∷ Char 97 [] ∷ c_ P ∷ g_ ∷ Char 98 [] ∷ c_ P ∷ g_ ∷ Char 99 [] ∷ c_ P ∷ end_)
unfolding page_on_literals
paragraphs = refl

paragraphs_text : fresh (g_ ∷ Char 97 [] ∷ c_ P ∷ g_ ∷ Char 98 [] ∷ c_ P ∷ g_ ∷ Char 99 [] ∷ c_ P ∷ end_) ≡ codes "a<p>b</p>c"
unfolding page_on_literals
paragraphs_text = refl

-- empty and white generated paragraphs, and whitespace after one
whites : Again (o_ Ul ∷ o_ Li ∷ g_ ∷ c_ P ∷ c_ Li ∷ o_ Li ∷ g_ ∷ Char 32 [] ∷ c_ P ∷ Closing Li (codes " ") ∷ o_ Li ∷ g_ ∷ Char 97 [] ∷ c_ P ∷ Closing Li (10 ∷ []) ∷ w_ Li ∷ g_ ∷ Char 32 (bold ∷ []) ∷ c_ P ∷ c_ Li ∷ Closing Ul (codes " ") ∷ end_)
unfolding page_on_literals
whites = refl

-- marks that share a prefix, in any order, with characters that are escaped
marks : Again (o_ P ∷ Char 97 (bold ∷ []) ∷ Char 38 (bold ∷ link ∷ []) ∷ Char 160 (link ∷ bold ∷ []) ∷ Char 60 (bold ∷ bold ∷ []) ∷ Opening Br empty_head (bold ∷ bold ∷ []) [] None false ∷ c_ Br ∷ Char 233 [] ∷ c_ P ∷ end_)
unfolding page_on_literals
marks = refl

-- blocks of many kinds
blocks : Again (
    Opening Section (with_attrs (record { name = codes "id"; value = codes "x>y" } ∷ [])) [] [] None false
    ∷ w_ Div ∷ o_ Dl ∷ w_ Dt ∷ g_ ∷ Opening Img (with_attrs (record { name = codes "src"; value = [] } ∷ [])) [] [] None false ∷ c_ Img ∷ c_ P ∷ c_ Dt ∷ o_ Dd ∷ c_ Dd ∷ c_ Dl ∷ c_ Div
    ∷ o_ Table ∷ o_ Caption ∷ g_ ∷ Char 120 [] ∷ c_ P ∷ c_ Caption ∷ o_ Tbody ∷ o_ Tr ∷ o_ Td ∷ o_ Pre ∷ Char 10 [] ∷ c_ Pre ∷ c_ Td ∷ Closing Tr (9 ∷ []) ∷ c_ Tbody ∷ c_ Table
    ∷ Closing Section (10 ∷ []) ∷ Opening InternalList empty_head [] (codes "  ") None false ∷ Closing InternalList [] ∷ [])
unfolding page_on_literals
blocks = refl

-- a bare paragraph at the end of the root before whitespace keeps its tags
before_white : Again (g_ ∷ Char 97 [] ∷ c_ P ∷ Opening InternalList empty_head [] (codes " ") None false ∷ Closing InternalList [] ∷ [])
unfolding page_on_literals
before_white = refl
