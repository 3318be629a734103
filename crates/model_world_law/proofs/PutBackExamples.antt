-- Items that are put back as they were shown, from a page and by a line.
use Rattle.std.specs.Prelude.{◌≡◌, ℕ, true, false, List, [], ◌∷◌, codes, None, Some, refl}
use Rattle.std.specs.Fmt.{digits}
use Rattle.std.specs.Str.{is_utf8}
use Rattle.ve_base.specs.Empty.{empty_head}
use Rattle.ve_base.specs.declared.head.Head.{Head}
use Rattle.ve_base.specs.declared.marks.Mark.{Mark}
use Rattle.ve_kinds.specs.declared.kind.Kind.TheVariants.{InternalItem, P, TransInline, Ul}
use Rattle.model_items.specs.declared.plain_item.PlainItem.TheVariants.{Char, Closing, Opening}
use Rattle.model_page.proofs.OnLiterals.{page_on_literals}
use Rattle.model_world.specs.ItemWords.{all_items_in}
use Rattle.model_world.specs.Shown.{items_shown}
use Rattle.model_world.proofs.Scripts.{Answered}
use Rattle.model_world_law.specs.PutBack.{is_outer, without_head}
use Rattle.model_world_law.specs.Writable.{is_shown_whole, is_writable}

abbrev whole : Head
whole = record { tag = []; attrs = []; raw = codes "<link about=\"#mwt1\"/>"; reference = None; owner = true }

-- a leaf with an origin is read without its head,
leaf_read : all_items_in true (items_shown (Opening TransInline whole [] [] (Some 3) false ∷ Closing TransInline [] ∷ []))
    ≡ Some (Opening TransInline empty_head [] [] (Some 3) false ∷ Closing TransInline [] ∷ [])
unfolding page_on_literals digits
leaf_read = refl

-- and one without is not read at all.
made_leaf : all_items_in true (items_shown (Opening TransInline whole [] [] None false ∷ [])) ≡ None
unfolding page_on_literals digits
made_leaf = refl

-- nor are brackets of the internal list
internal : all_items_in true (items_shown (Opening InternalItem empty_head [] [] (Some 3) false ∷ [])) ≡ None
unfolding page_on_literals digits
internal = refl

internal_is_inner : is_outer InternalItem ≡ false
internal_is_inner = refl

-- so `data` doesn't tell all of them,
told_whole : (is_shown_whole (Opening TransInline whole [] [] (Some 3) false) ≡ true) × (is_shown_whole (Opening TransInline whole [] [] None false) ≡ false)
    × (is_shown_whole (Opening InternalItem empty_head [] [] (Some 3) false) ≡ false)
told_whole = (refl, refl, refl)

-- and no list has an element that is kept whole, or a generated list, or marks or an open space where
-- none stand
abbrev named : List ℕ → List ℕ → Head
named name value = record { tag = []; attrs = record { name = name; value = value } ∷ []; raw = []; reference = None; owner = false }

abbrev bold : List Mark
bold = record { tag = codes "b"; attrs = [] } ∷ []

in_lists : (is_writable (Opening P (named (codes "typeof") (codes "mw:x")) [] [] None false) ≡ false) × (is_writable (Opening P (named (codes "typeof") (codes "x")) [] [] None true) ≡ true)
    × (is_writable (Opening Ul empty_head [] [] None true) ≡ false) × (is_writable (Opening P empty_head bold [] None false) ≡ false) × (is_writable (Char 13 []) ≡ false)
    × (is_writable (Char 120 bold) ≡ true) × (is_writable (Closing P (codes " ")) ≡ false) × (is_writable (Closing Ul (codes " ")) ≡ true)
unfolding page_on_literals
in_lists = (refl, refl, refl, refl, refl, refl, refl, refl)

-- an element keeps its head
element_kept : without_head (Opening P whole [] [] None false) ≡ Opening P whole [] [] None false
element_kept = refl

-- What `data` tells of a range is removed and inserted again, and the page is written as before.
put_back_as_told : Answered
    ((codes "{\"do\":\"open\",\"page\":\"<p>a<span typeof=\\\"mw:Transclusion\\\" about=\\\"#mwt1\\\" data-mw='{\\\"parts\\\":[]}'>t</span>b</p>\"}", codes "ok 8")
    ∷ (codes "{\"do\":\"apply\",\"ops\":[{\"retain\":1},{\"remove\":4,\"insert\":[\"a\",{\"open\":\"trans_inline\",\"origin\":1},{\"close\":\"trans_inline\"},\"b\"]},{\"retain\":3}],\"exact\":true}", codes "ok 8")
    ∷ (codes "{\"do\":\"html\"}", codes "ok \"<p>a<span typeof=\\\"mw:Transclusion\\\" about=\\\"#mwt1\\\" data-mw='{\\\"parts\\\":[]}'>t</span>b</p>\"")
    ∷ [])
unfolding page_on_literals is_utf8 digits
put_back_as_told = refl
