-- The tree of a list goes by the shapes of its items alone, and tells them.
use Rattle.std.proofs.Common.{◌≡◌, false, List, [], ◌∷◌, map, None, refl, sym, ap, ◌∙◌}
use Rattle.ve_base.specs.Empty.{empty_head}
use Rattle.model_items.specs.declared.plain_item.PlainItem.{PlainItem}
use Rattle.model_items.specs.declared.plain_item.PlainItem.TheVariants.{Char, Closing, Opening}
use Rattle.model_items.specs.Tree.{Begin, End, Letter, Reading, Shape, reading, reading_with, shape_of, shapes}
use Rattle.model_items.proofs.TreeLemmas.{tree_spells}
use Rattle.model_change_law.specs.Told.{ShapesTellTree, TreeTellsShapes}

-- an item of a shape
abbrev item_of : Shape → PlainItem
item_of Letter = Char 0 []
item_of (Begin kind) = Opening kind empty_head [] [] None false
item_of (End kind) = Closing kind []

-- what items of these shapes spell is what the list spells
reading_by_shapes : (items : List PlainItem) → reading (map item_of (map shape_of items)) ≡ reading items
reading_by_shapes [] = refl
reading_by_shapes (Char c marks ∷ items) = ap (reading_with (Char 0 [])) (reading_by_shapes items)
reading_by_shapes (Opening kind head marks pre origin generated ∷ items) =
    ap (reading_with (Opening kind empty_head [] [] None false)) (reading_by_shapes items)
reading_by_shapes (Closing kind pre ∷ items) = ap (reading_with (Closing kind [])) (reading_by_shapes items)

pub tree_tells_shapes : TreeTellsShapes
tree_tells_shapes items others lawful lawful' same = sym (tree_spells items lawful) ∙ ap shapes same ∙ tree_spells others lawful'

pub shapes_tell_tree : ShapesTellTree
shapes_tell_tree items others same =
    ap (λ (r : Reading). r.here) (sym (reading_by_shapes items) ∙ ap (λ s. reading (map item_of s)) same ∙ reading_by_shapes others)
