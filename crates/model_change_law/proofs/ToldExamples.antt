-- Two lists of one tree: other characters, another head, whitespace, an origin.
use Rattle.std.proofs.Common.{◌≡◌, true, List, [], ◌∷◌, ◌++◌, map, Some, codes, refl}
use Rattle.ve_base.specs.Empty.{empty_head}
use Rattle.ve_kinds.specs.declared.kind.Kind.TheVariants.{H1, P}
use Rattle.model_items.specs.declared.plain_item.PlainItem.{PlainItem}
use Rattle.model_items.specs.declared.plain_item.PlainItem.TheVariants.{Closing, Opening}
use Rattle.model_items.specs.Tree.{Begin, End, shape_of, tree_of}
use Rattle.model_change_law.proofs.ExampleItems.{letters, paragraph, with_attrs}

abbrev other : List PlainItem
other = Opening P (record empty_head { raw = codes "x" }) [] (codes " ") (Some 7) true ∷ (letters (codes "cd") ++ Closing P (codes " ") ∷ [])

one_tree : tree_of other ≡ tree_of (paragraph (codes "ab"))
one_tree = refl

one_shape : map shape_of other ≡ map shape_of (paragraph (codes "ab"))
one_shape = refl

-- a kind is told
heading : map shape_of (with_attrs H1 [] ∷ Closing H1 [] ∷ []) ≡ Begin H1 ∷ End H1 ∷ []
heading = refl
