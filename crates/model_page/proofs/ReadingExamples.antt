-- Corner cases of conversion, by computation: whitespace, comments, misfits, marks, references,
-- fragments, and texts of `data-mw`.
use Rattle.std.specs.Prelude.{is_some, map, ◌≡◌, ℕ, true, false, List, [], ◌∷◌, ◌++◌, Option, Some, None, codes, refl, option_map}
use Rattle.ve_kinds.specs.declared.kind.Kind.{Kind}
use Rattle.ve_kinds.specs.declared.kind.Kind.TheVariants.{P, H2, Ul, Li, AlienBlock, AlienInline, InternalList}
use Rattle.ve_base.specs.declared.head.Key.{Key}
use Rattle.ve_base.specs.declared.head.Key.TheVariants.{Named, Auto}
use Rattle.ve_base.specs.declared.head.RefKey.{RefKey}
use Rattle.model_items.specs.declared.plain_item.PlainItem.{PlainItem}
use Rattle.model_items.specs.declared.plain_item.PlainItem.TheVariants.{Char, Opening, Closing}
use Rattle.model_spelling.specs.Grammar.{Attr as Spelled}
use Rattle.model_spelling.specs.Forest.{Forest, Nothing, Text, Remark, Void, RawElement, Element, spelling}
use Rattle.model_spelling.specs.Parsed.{forest_of}
use Rattle.model_page.specs.DataMw.{reference_of}
use Rattle.model_page.specs.References.{table}
use Rattle.model_page.specs.declared.ref_table.RefRow.{RefRow}
use Rattle.ve_base.specs.Empty.{empty_head}
use Rattle.model_page.specs.Fragment.{fragment_items}
use Rattle.model_page.proofs.OnLiterals.{page_on_literals}
use Rattle.model_page.proofs.PageExamples.{text_, open_, made_, close_, whole_, empty_list, items_in, b}

-- whitespace goes before what follows it
white : items_in (codes " <ul> <li>a</li> </ul> ") ≡ Some (
    Opening Ul empty_head [] (codes " ") (Some 0) false ∷ Opening Li empty_head [] (codes " ") (Some 1) false
    ∷ made_ 2 ∷ Char 97 [] ∷ close_ P ∷ close_ Li ∷ Closing Ul (codes " ")
    ∷ Opening InternalList empty_head [] (codes " ") None false ∷ Closing InternalList [] ∷ [])
unfolding page_on_literals
white = refl

-- a comment ends a run in a flow parent, and is a leaf in content
comments : items_in (codes "a <!--x--> b<b><!--y--></b>") ≡ Some (
    made_ 0 ∷ text_ [] (codes "a ") ++ close_ P ∷ whole_ AlienBlock 1 [] (codes "<!--x-->")
    ++ made_ 2 ∷ text_ [] (codes " b") ++ whole_ AlienInline 3 (b ∷ []) (codes "<!--y-->") ++ close_ P ∷ empty_list)
unfolding page_on_literals
comments = refl

-- what stands in the wrong position is kept whole; an annotation without a child is a leaf
misfits : items_in (codes "<p>a<div>b</div><b></b></p><ul>x</ul><li>y</li><ul><li></li><p></p></ul>") ≡ Some (
    open_ P 0 ∷ Char 97 [] ∷ whole_ AlienInline 1 [] (codes "<div>b</div>") ++ whole_ AlienInline 2 [] (codes "<b></b>") ++ close_ P
    ∷ whole_ AlienBlock 3 [] (codes "<ul>x</ul>") ++ whole_ AlienBlock 4 [] (codes "<li>y</li>")
    ++ open_ Ul 5 ∷ open_ Li 6 ∷ close_ Li ∷ whole_ AlienBlock 7 [] (codes "<p></p>") ++ close_ Ul ∷ empty_list)
unfolding page_on_literals
misfits = refl

-- nested marks, and a character of many bytes
marks : items_in (codes "<p><b><i id=\"x\">&lt;</i>" ++ 195 ∷ 169 ∷ codes "</b></p>") ≡ Some (
    open_ P 0 ∷ Char 60 (b ∷ record { tag = codes "i"; attrs = record { name = codes "id"; value = codes "x" } ∷ [] } ∷ []) ∷ Char 233 (b ∷ []) ∷ close_ P ∷ empty_list)
unfolding page_on_literals
marks = refl

-- ---- references: two owners without a name, an owner whose name is taken, and a reference in a
-- body

abbrev ref : List ℕ → List ℕ → List ℕ
ref mw inner = codes "<sup typeof=\"mw:Extension/ref\" data-mw='" ++ mw ++ codes "'>" ++ inner ++ codes "</sup>"

abbrev refs_page : List ℕ
refs_page =
    ref (codes "{\"body\":{\"html\":\"\"}}") (codes "1") ++ ref (codes "{\"attrs\":{\"name\":\"n\",\"group\":\"g\"},\"body\":{\"html\":\"<sup typeof=\\\"mw:Extension/ref\\\" data-mw=\\\"{}\\\"></sup>\"}}") []
    ++ ref (codes "{\"attrs\":{\"group\":\"g\",\"name\":\"n\"},\"body\":{\"html\":\"z\"}}") (codes "3") ++ ref (codes "{\"body\":{\"html\":\"y\"}}") []

abbrev refs_rows : List ℕ → Option (List RefRow)
refs_rows page = option_map table (items_in page)

abbrev key_ : List ℕ → Key → RefKey
key_ group key = record { group = group; key = key }

references : refs_rows refs_page ≡ Some (
    record { at = 1; key = key_ [] (Auto 0); number = 1; carrier = true; body_at = Some 11 }
    ∷ record { at = 3; key = key_ (codes "g") (Named (codes "n")); number = 1; carrier = true; body_at = Some 13 }
    ∷ record { at = 7; key = key_ [] (Auto 1); number = 2; carrier = true; body_at = Some 19 } ∷ [])
unfolding page_on_literals
references = refl

-- ---- fragments

abbrev fragment : List Kind → List ℕ → Option (List PlainItem)
fragment stack text = option_map (fragment_items stack) (forest_of text)

abbrev new_ : Kind → PlainItem
new_ k = Opening k empty_head [] [] None false

block : fragment (P ∷ []) (codes "<h2>x</h2>") ≡ Some (new_ H2 ∷ Char 120 [] ∷ close_ H2 ∷ [])
unfolding page_on_literals
block = refl

list_item : fragment (Ul ∷ []) (codes "<li>b</li> ") ≡ Some (new_ Li ∷ new_ P ∷ Char 98 [] ∷ close_ P ∷ close_ Li ∷ [])
unfolding page_on_literals
list_item = refl

inline : fragment (P ∷ []) (codes "x<b>y</b>") ≡ Some (Char 120 [] ∷ Char 121 (b ∷ []) ∷ [])
unfolding page_on_literals
inline = refl

spaces : fragment [] (codes "  ") ≡ Some (new_ P ∷ Char 32 [] ∷ Char 32 [] ∷ close_ P ∷ [])
unfolding page_on_literals
spaces = refl

-- ---- readings of the format

-- a group in a structural parent is no reference, and does not take the name
owner_in_list : refs_rows (codes "<ul>" ++ ref (codes "{\"attrs\":{\"name\":\"n\"},\"body\":{\"html\":\"\"}}") [] ++ codes "</ul><p>" ++ ref (codes "{\"attrs\":{\"name\":\"n\"},\"body\":{\"html\":\"\"}}") [] ++ codes "</p>") ≡ Some (
    record { at = 5; key = key_ [] (Named (codes "n")); number = 1; carrier = true; body_at = Some 9 } ∷ [])
unfolding page_on_literals
owner_in_list = refl

-- the last of two members of one name counts, also for its number
repeated_member : is_some (reference_of (codes "{\"a\":1.5,\"a\":1,\"attrs\":{\"name\":\"n\"}}")) ≡ true
unfolding page_on_literals
repeated_member = refl

-- no fraction, no exponent, no -0, 64 bits; an empty name is none
numbers : map (λ n. is_some (reference_of (codes "{\"attrs\":{\"name\":\"n\"},\"x\":" ++ n ++ codes "}"))) (codes "1" ∷ codes "-1" ∷ codes "18446744073709551615" ∷ codes "-9223372036854775808" ∷ codes "1.0" ∷ codes "1e2" ∷ codes "-0" ∷ codes "18446744073709551616" ∷ codes "-9223372036854775809" ∷ [])
    ≡ true ∷ true ∷ true ∷ true ∷ false ∷ false ∷ false ∷ false ∷ false ∷ []
unfolding page_on_literals
numbers = refl

not_editable : map (λ n. is_some (reference_of n)) (codes "{}" ∷ codes "[]" ∷ codes "{\"attrs\":{\"name\":\"\"}}" ∷ codes "{\"attrs\":null}" ∷ codes "{\"attrs\":{\"name\":1}}" ∷ codes "{\"attrs\":{\"name\":\"n\"},\"body\":null}" ∷ codes "{\"body\":{\"html\":\"<p>\"}}" ∷ codes "{\"body\":{}}" ∷ [])
    ≡ false ∷ false ∷ false ∷ false ∷ false ∷ false ∷ false ∷ false ∷ []
unfolding page_on_literals
not_editable = refl

-- ---- a forest of each kind of node is read back from its spelling

abbrev attr_ : List ℕ → List ℕ → ℕ → Spelled
attr_ name value quote = record { name = name; value = value; quote = quote }

abbrev sample : Forest
sample =
    Text (codes "a&amp;") (RawElement (codes "style") [] [] (RawElement (codes "script") (attr_ (codes "x") (codes "<'&lt;") 34 ∷ []) (codes "</a><!--")
    (Remark (codes "-") (Element (codes "p") (attr_ (codes "y") (codes "\"") 39 ∷ []) (Void (codes "br") [] true (Void (codes "img") (attr_ (codes "z") [] 34 ∷ []) false
    (Element (codes "iframes") [] Nothing (Text (codes " ") Nothing)))) (Remark [] Nothing)))))

read_back : forest_of (spelling sample) ≡ Some sample
unfolding page_on_literals
read_back = refl
