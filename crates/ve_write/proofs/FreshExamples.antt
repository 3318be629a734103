-- The text that is written from a position on, by computation.
use Rattle.std.specs.Prelude.{◌≡◌, true, false, List, [], ◌∷◌, ◌++◌, Some, None, codes, refl}
use Rattle.indexmap.specs.Layout.{hash_map}
use Rattle.ve_base.specs.declared.marks.Mark.{Mark}
use Rattle.ve_base.specs.declared.value.Value.TheVariants.{White}
use Rattle.ve_base.specs.declared.value.ValueId.{ValueId}
use Rattle.ve_kinds.specs.declared.kind.Kind.{Kind}
use Rattle.ve_kinds.specs.declared.kind.Kind.TheVariants.{P, Ul, Li, Br, InternalList, InternalItem}
use Rattle.model_items.specs.declared.item.Item.{Item}
use Rattle.model_items.specs.declared.item.Item.TheVariants.{Char, Opening, Closing}
use Rattle.model_page.proofs.OnLiterals.{page_on_literals}
use Rattle.model_page_write.specs.PageText.{bare_writer}
use Rattle.ve_write.specs.Siblings.{View, ending_at}
use Rattle.ve_write.specs.Told.{blocks_at, content_at, text_of}
use Rattle.ve_write.specs.Begun.{nests}

abbrev first_value : ValueId
first_value = record { 0 = 0 }

abbrev open_ : Kind → Item
open_ kind = Opening kind false None None None None

-- a list item with a paragraph that was made for its text, and a line break before its closing; a
-- paragraph; a body
abbrev items : List Item
items =
    open_ Ul ∷ open_ Li ∷ Opening P true None None None None ∷ Char 97 None ∷ open_ Br ∷ Closing Br None ∷ Closing P None ∷ Closing Li None ∷ Closing Ul (Some first_value)
    ∷ open_ P ∷ Closing P None ∷ open_ InternalList ∷ open_ InternalItem ∷ open_ P ∷ Char 98 None ∷ Closing P None ∷ Closing InternalItem None ∷ Closing InternalList None ∷ []

abbrev here : View
here = record { values = White (10 ∷ []) ∷ []; bodies = λ at. None }

abbrev bold : Mark
bold = record { tag = codes "b"; attrs = [] }

all_blocks : blocks_at bare_writer here items false 0 ≡ codes "<ul><li>a<br></li>" ++ 10 ∷ codes "</ul><p></p>"
unfolding ending_at page_on_literals
all_blocks = refl

-- the blocks of one node alone, with its tags where the sibling before them is bare
some_blocks : blocks_at bare_writer here items false 2 ≡ codes "a<br>"
unfolding ending_at page_on_literals
some_blocks = refl

after_bare : blocks_at bare_writer here items true 2 ≡ codes "<p>a<br></p>"
unfolding ending_at page_on_literals
after_bare = refl

-- the body, which is written where its reference stands
body_blocks : blocks_at bare_writer here items false 13 ≡ codes "<p>b</p>"
unfolding ending_at page_on_literals
body_blocks = refl

some_content : content_at bare_writer here items (bold ∷ []) 3 ≡ codes "</b>a<br>"
unfolding ending_at page_on_literals
some_content = refl

-- ---- texts by positions

known : text_of (hash_map ((3, codes "x") ∷ []) (tt {0}) 0) 3 ≡ Some (codes "x")
unfolding page_on_literals
known = refl

unknown : text_of (hash_map ((3, codes "x") ∷ []) (tt {0}) 0) 4 ≡ None
unknown = refl

-- ---- elements that hold blocks

list_nests : nests items ≡ true
list_nests = refl

internal_list_is_single : nests (open_ InternalList ∷ []) ≡ false
internal_list_is_single = refl
