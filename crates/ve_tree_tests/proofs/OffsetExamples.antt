-- Offsets of a small page at which a wrong body would answer otherwise.
use Rattle.std.proofs.Common.{◌≡◌, false, List, [], ◌∷◌, ◌++◌, slice_get, Some, None, refl, ap}
use Rattle.ve_kinds.specs.declared.kind.Kind.TheVariants.{P, Ul, Li}
use Rattle.model_items.specs.declared.item.Item.{Item}
use Rattle.model_items.specs.declared.item.Item.TheVariants.{Char, Opening, Closing}
use Rattle.model_items.specs.Offsets.{nearest_content}
use Rattle.model_items.proofs.ExampleItems.{node, internal}
use Rattle.ve_offsets.specs.Lent.{IsPiece}

-- `<ul><li><p></p></li></ul>`, from behind its internal list: where the search ended half the
-- list's length away, nothing would be found
the_whole_list_is_searched : nearest_content (node Ul (node Li (node P [])) ++ internal) 8 ≡ Some 3
the_whole_list_is_searched = refl

abbrev items : List Item
items = Opening P false None None None None ∷ Char 97 None ∷ Char 98 None ∷ Closing P None ∷ []

-- a piece borrowed backwards from the closing begins at the opening: where the closing's position
-- was noted, the opening would stand there
a_piece_begins_at_its_first_item : IsPiece items 3 items → ⊥
a_piece_begins_at_its_first_item piece = let first : Some (Opening P false None None None None) ≡ Some (Closing P None) = ap (λ (xs : List Item). slice_get xs 0) piece in cc
