-- Pages and their items, by computation: marks, untouched neighbours, bare runs, a group,
-- references, a whole document, and a page in MediaWiki's markup.
use Rattle.std.specs.Prelude.{◌≡◌, ℕ, Bool, true, false, List, [], ◌∷◌, ◌++◌, map, Option, Some, None, codes, refl, option_map}
use Rattle.ve_kinds.specs.declared.kind.Kind.{Kind}
use Rattle.ve_kinds.specs.declared.kind.Kind.TheVariants.{P, Ul, Li, Br, Section, TransBlock, TransInline, AlienBlock, Ref, InternalList, InternalItem}
use Rattle.ve_base.specs.declared.attrs.Attr.{Attr}
use Rattle.ve_base.specs.declared.marks.Mark.{Mark}
use Rattle.ve_base.specs.declared.head.Key.TheVariants.{Named}
use Rattle.ve_base.specs.declared.head.RefKey.{RefKey}
use Rattle.ve_base.specs.declared.head.Head.{Head}
use Rattle.model_items.specs.declared.plain_item.PlainItem.{PlainItem}
use Rattle.model_items.specs.declared.plain_item.PlainItem.TheVariants.{Char, Opening, Closing}
use Rattle.model_page.specs.References.{table}
use Rattle.model_page.specs.declared.ref_table.RefRow.{RefRow}
use Rattle.ve_base.specs.Empty.{empty_head}
use Rattle.model_page.specs.Pieces.{SourceSpan}
use Rattle.model_page.specs.PageItems.{opened_page}
use Rattle.model_page.proofs.OnLiterals.{page_on_literals}

abbrev pub text_ : List Mark → List ℕ → List PlainItem
text_ marks text = map (λ c. Char c marks) text

abbrev pub with_attrs : List Attr → Head
with_attrs attrs = record { tag = []; attrs = attrs; raw = []; reference = None; owner = false }

abbrev pub open_ : Kind → ℕ → PlainItem
open_ k n = Opening k empty_head [] [] (Some n) false

abbrev pub made_ : ℕ → PlainItem
made_ n = Opening P empty_head [] [] (Some n) true

abbrev pub close_ : Kind → PlainItem
close_ k = Closing k []

abbrev pub whole_ : Kind → ℕ → List Mark → List ℕ → List PlainItem
whole_ k n marks raw = Opening k (record { tag = []; attrs = []; raw = raw; reference = None; owner = false }) marks [] (Some n) false ∷ Closing k [] ∷ []

abbrev pub empty_list : List PlainItem
empty_list = Opening InternalList empty_head [] [] None false ∷ Closing InternalList [] ∷ []

abbrev pub items_in : List ℕ → Option (List PlainItem)
items_in page = option_map (λ o. o.items) (opened_page page)

abbrev pub spans_in : List ℕ → Option (List SourceSpan)
spans_in page = option_map (λ o. o.spans) (opened_page page)

abbrev pub span : ℕ → ℕ → SourceSpan
span from to = record { from = from; to = to }

-- ---- marks

abbrev pub b : Mark
b = record { tag = codes "b"; attrs = [] }

abbrev pub bold_page : List ℕ
bold_page = codes "<p><b>a</b><b>b</b></p>"

abbrev pub bold_items : List PlainItem
bold_items = open_ P 0 ∷ Char 97 (b ∷ []) ∷ Char 98 (b ∷ []) ∷ close_ P ∷ empty_list

bold_read : items_in bold_page ≡ Some bold_items
unfolding page_on_literals
bold_read = refl

-- ---- an untouched neighbour

abbrev pub neighbour_page : List ℕ
neighbour_page = codes "<p id='x'>a<br/></p><p>b</p>"

abbrev pub neighbour_items : List PlainItem
neighbour_items =
    Opening P (with_attrs (record { name = codes "id"; value = codes "x" } ∷ [])) [] [] (Some 0) false
    ∷ Char 97 [] ∷ open_ Br 1 ∷ close_ Br ∷ close_ P ∷ open_ P 2 ∷ Char 98 [] ∷ close_ P ∷ empty_list

neighbour_read : items_in neighbour_page ≡ Some neighbour_items
unfolding page_on_literals
neighbour_read = refl

neighbour_spans : spans_in neighbour_page ≡ Some (span 0 20 ∷ span 11 16 ∷ span 20 28 ∷ [])
unfolding page_on_literals
neighbour_spans = refl

-- ---- bare runs

abbrev pub runs_page : List ℕ
runs_page = codes "<ul><li>a<p>x</p>b</li></ul>"

abbrev pub runs_items : List PlainItem
runs_items =
    open_ Ul 0 ∷ open_ Li 1
    ∷ made_ 2 ∷ Char 97 [] ∷ close_ P
    ∷ open_ P 3 ∷ Char 120 [] ∷ close_ P
    ∷ made_ 4 ∷ Char 98 [] ∷ close_ P
    ∷ close_ Li ∷ close_ Ul ∷ empty_list

runs_read : items_in runs_page ≡ Some runs_items
unfolding page_on_literals
runs_read = refl

runs_spans : spans_in runs_page ≡ Some (span 0 28 ∷ span 4 23 ∷ span 8 9 ∷ span 9 17 ∷ span 17 18 ∷ [])
unfolding page_on_literals
runs_spans = refl

-- ---- a group

abbrev pub group_source : List ℕ
group_source = codes "<div about=\"#mwt1\" typeof=\"mw:Transclusion\" data-mw=\"{}\">b</div>" ++ 10 ∷ codes "<p about=\"#mwt1\">c</p>"

abbrev pub group_page : List ℕ
group_page = codes "<p>a</p>" ++ group_source

group_read : items_in group_page ≡ Some (open_ P 0 ∷ Char 97 [] ∷ close_ P ∷ whole_ TransBlock 1 [] group_source ++ empty_list)
unfolding page_on_literals
group_read = refl

-- ---- references

abbrev pub reuse_page : List ℕ
reuse_page = codes "<p>a<sup typeof=\"mw:Extension/ref\" data-mw='{\"name\":\"ref\",\"attrs\":{\"name\":\"n\"},\"body\":{\"html\":\"x\"}}'>[1]</sup></p><p>b<sup typeof=\"mw:Extension/ref\" data-mw='{\"name\":\"ref\",\"attrs\":{\"name\":\"n\"}}'>[1]</sup></p>"

abbrev pub key_n : RefKey
key_n = record { group = []; key = Named (codes "n") }

abbrev pub ref_ : ℕ → List ℕ → Bool → List PlainItem
ref_ n mw owner =
    Opening Ref (record { tag = codes "sup"; attrs = record { name = codes "typeof"; value = codes "mw:Extension/ref" } ∷ record { name = codes "data-mw"; value = mw } ∷ []; raw = codes "[1]"; reference = Some key_n; owner = owner }) [] [] (Some n) false
    ∷ Closing Ref [] ∷ []

abbrev pub mw_owner : List ℕ
mw_owner = codes "{\"name\":\"ref\",\"attrs\":{\"name\":\"n\"},\"body\":{\"html\":\"x\"}}"

abbrev pub mw_reuse : List ℕ
mw_reuse = codes "{\"name\":\"ref\",\"attrs\":{\"name\":\"n\"}}"

abbrev pub internal_list_of : List ℕ → List PlainItem
internal_list_of text =
    Opening InternalList empty_head [] [] None false
    ∷ Opening InternalItem (record { tag = []; attrs = []; raw = []; reference = Some key_n; owner = false }) [] [] None false
    ∷ Opening P empty_head [] [] None true ∷ text_ [] text
    ++ close_ P ∷ close_ InternalItem ∷ close_ InternalList ∷ []

abbrev pub owner_paragraph : List PlainItem
owner_paragraph = open_ P 0 ∷ Char 97 [] ∷ ref_ 1 mw_owner true ++ close_ P ∷ []

abbrev pub reuse_paragraph : List PlainItem
reuse_paragraph = open_ P 2 ∷ Char 98 [] ∷ ref_ 3 mw_reuse false ++ close_ P ∷ []

abbrev pub reuse_items : List PlainItem
reuse_items = owner_paragraph ++ reuse_paragraph ++ internal_list_of (codes "x")

reuse_read : items_in reuse_page ≡ Some reuse_items
unfolding page_on_literals
reuse_read = refl

abbrev row : ℕ → Bool → ℕ → RefRow
row at carrier body = record { at = at; key = key_n; number = 1; carrier = carrier; body_at = Some body }

reuse_refs : table reuse_items ≡ row 2 true 11 ∷ row 7 false 11 ∷ []
reuse_refs = refl

reuse_refs_after : table (reuse_paragraph ++ internal_list_of (codes "x")) ≡ row 2 true 6 ∷ []
reuse_refs_after = refl

-- ---- a whole document

abbrev pub document_page : List ℕ
document_page = codes "<!DOCTYPE html>" ++ 10 ∷ codes "<html><head><title>T</title></head><body lang=\"en\"><p>ab</p></body></html>"

abbrev pub document_items : List PlainItem
document_items = open_ P 0 ∷ text_ [] (codes "ab") ++ close_ P ∷ empty_list

document_read : items_in document_page ≡ Some document_items
unfolding page_on_literals
document_read = refl

-- ---- a page in MediaWiki's markup

abbrev pub wiki_group : List ℕ
wiki_group = codes "<div about=\"#mwt1\" typeof=\"mw:Transclusion\" data-mw='{\"parts\":[{\"template\":{\"target\":{\"wt\":\"T\",\"href\":\"./Template:T\"},\"params\":{},\"i\":0}}]}'>T</div><style about=\"#mwt1\" typeof=\"mw:Extension/templatestyles\">.a>b{}</style>"

abbrev pub wiki_reference : List ℕ
wiki_reference = codes "<sup about=\"#mwt2\" class=\"mw-ref reference\" id=\"cite_ref-1\" rel=\"dc:references\" typeof=\"mw:Extension/ref\" data-mw='{\"name\":\"ref\",\"attrs\":{},\"body\":{\"id\":\"mw-reference-text-cite_note-1\"}}'><a href=\"./P#cite_note-1\"><span class=\"mw-reflink-text\">[1]</span></a></sup>"

abbrev pub wiki_link : List ℕ
wiki_link = codes "<link rel=\"mw:PageProp/Category\" href=\"./Category:X\" id=\"mwBA\"/>"

abbrev pub wiki_page_with : List ℕ → List ℕ
wiki_page_with text =
    codes "<section data-mw-section-id=\"0\" id=\"mwAQ\"><p id=\"mwAg\">" ++ text ++ codes " <a rel=\"mw:WikiLink\" href=\"./Cat\" title=\"Cat\" id=\"mwAw\">Cat</a>."
    ++ wiki_reference ++ codes "</p>" ++ 10 ∷ wiki_group ++ 10 ∷ wiki_link ++ codes "</section>"

abbrev pub wiki_page : List ℕ
wiki_page = wiki_page_with (codes "See")

abbrev pub link_mark : Mark
link_mark = record { tag = codes "a"; attrs = record { name = codes "rel"; value = codes "mw:WikiLink" } ∷ record { name = codes "href"; value = codes "./Cat" } ∷ record { name = codes "title"; value = codes "Cat" } ∷ record { name = codes "id"; value = codes "mwAw" } ∷ [] }

abbrev pub white_before : PlainItem → PlainItem
white_before (Opening k head marks pre origin generated) = Opening k head marks (10 ∷ []) origin generated
white_before item = item

abbrev pub on_first : List PlainItem → List PlainItem
on_first [] = []
on_first (item ∷ items) = white_before item ∷ items

abbrev pub wiki_items_with : List ℕ → List PlainItem
wiki_items_with text =
    Opening Section (with_attrs (record { name = codes "data-mw-section-id"; value = codes "0" } ∷ record { name = codes "id"; value = codes "mwAQ" } ∷ [])) [] [] (Some 0) false
    ∷ Opening P (with_attrs (record { name = codes "id"; value = codes "mwAg" } ∷ [])) [] [] (Some 1) false
    ∷ text_ [] text ++ text_ [] (codes " ") ++ text_ (link_mark ∷ []) (codes "Cat") ++ text_ [] (codes ".")
    ++ whole_ TransInline 2 [] wiki_reference
    ++ close_ P ∷ on_first (whole_ TransBlock 3 [] wiki_group) ++ on_first (whole_ AlienBlock 4 [] wiki_link)
    ++ close_ Section ∷ empty_list

abbrev pub wiki_items : List PlainItem
wiki_items = wiki_items_with (codes "See")

wiki_read : items_in wiki_page ≡ Some wiki_items
unfolding page_on_literals
wiki_read = refl
