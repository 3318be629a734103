-- Lists with leaves that are kept whole aren't always read back: leaves of one `about` that come to
-- stand side by side are read as one group. No byte is lost, and from then on the page is read as
-- it is written.
use Rattle.std.specs.Prelude.{◌≡◌, ℕ, List, [], ◌∷◌, ◌++◌, length, Option, Some, codes, refl, option_map, option_and_then}
use Rattle.ve_kinds.specs.declared.kind.Kind.TheVariants.{P, AlienBlock, AlienInline}
use Rattle.model_items.specs.declared.plain_item.PlainItem.{PlainItem}
use Rattle.model_items.specs.declared.plain_item.PlainItem.TheVariants.{Char}
use Rattle.model_page.specs.PageItems.{opened_page}
use Rattle.model_page.specs.References.{refs_of}
use Rattle.model_page.proofs.OnLiterals.{page_on_literals}
use Rattle.model_page.proofs.PageExamples.{b, open_, made_, close_, whole_, empty_list, items_in, internal_list_of, owner_paragraph, reuse_paragraph, reuse_page}
use Rattle.model_page_write.specs.PageText.{write}

abbrev written_at : List ℕ → List PlainItem → Option (List ℕ)
written_at page items = option_map (λ o. write o items) (opened_page page)

-- an element that is held, once and twice
abbrev one_x : List ℕ
one_x = codes "<i about=\"#x\"></i>"

-- ---- two of them, each in an element b of its own: a character typed elsewhere joins the two
-- elements b

abbrev apart_page : List ℕ
apart_page = codes "<p><b>" ++ one_x ++ codes "</b><b>" ++ one_x ++ codes "</b></p>"

abbrev apart_with : List PlainItem → List PlainItem
apart_with text = open_ P 0 ∷ whole_ AlienInline 1 (b ∷ []) one_x ++ whole_ AlienInline 2 (b ∷ []) one_x ++ text ++ close_ P ∷ empty_list

apart_read : items_in apart_page ≡ Some (apart_with [])
unfolding page_on_literals
apart_read = refl

apart_written : written_at apart_page (apart_with (Char 121 [] ∷ [])) ≡ Some (codes "<p><b>" ++ one_x ++ one_x ++ codes "</b>y</p>")
unfolding page_on_literals
apart_written = refl

-- one leaf, and not two
joined_read : items_in (codes "<p><b>" ++ one_x ++ one_x ++ codes "</b>y</p>")
    ≡ Some (open_ P 0 ∷ whole_ AlienInline 1 (b ∷ []) (one_x ++ one_x) ++ Char 121 [] ∷ close_ P ∷ empty_list)
unfolding page_on_literals
joined_read = refl

-- ---- the character between them goes

between_written : written_at (codes "<p>" ++ one_x ++ codes "y" ++ one_x ++ codes "</p>") (open_ P 0 ∷ whole_ AlienInline 1 [] one_x ++ whole_ AlienInline 2 [] one_x ++ close_ P ∷ empty_list)
    ≡ Some (codes "<p>" ++ one_x ++ one_x ++ codes "</p>")
unfolding page_on_literals
between_written = refl

-- ---- a block, and a leaf in the bare paragraph after it

abbrev block_x : List ℕ
block_x = codes "<div about=\"#x\"></div>"

levels_written : written_at (block_x ++ codes "y" ++ one_x) (whole_ AlienBlock 0 [] block_x ++ made_ 1 ∷ whole_ AlienInline 2 [] one_x ++ close_ P ∷ empty_list) ≡ Some (block_x ++ one_x)
unfolding page_on_literals
levels_written = refl

levels_read : items_in (block_x ++ one_x) ≡ Some (whole_ AlienBlock 0 [] (block_x ++ one_x) ++ empty_list)
unfolding page_on_literals
levels_read = refl

-- ---- U+0000 in the body of a reference: a forest spells the page, and none the body, so that the
-- owner is no reference any more

abbrev references_after : List PlainItem → Option ℕ
references_after items = option_and_then (λ text. option_map (λ found. length (refs_of found)) (items_in text)) (written_at reuse_page items)

body_typed : references_after (owner_paragraph ++ reuse_paragraph ++ internal_list_of (codes "y")) ≡ Some 2
unfolding page_on_literals
body_typed = refl

body_barred : references_after (owner_paragraph ++ reuse_paragraph ++ internal_list_of (0 ∷ [])) ≡ Some 1
unfolding page_on_literals
body_barred = refl
