-- The offsets of worked lists.
use Rattle.std.proofs.Common.{◌≡◌, true, List, [], ◌∷◌, ◌++◌, Some, None, refl}
use Rattle.std.specs.Prelude.{codes}
use Rattle.ve_kinds.specs.declared.kind.Kind.TheVariants.{P, Ul, Li, Br}
use Rattle.model_items.specs.declared.plain_item.PlainItem.{PlainItem}
use Rattle.model_items.specs.Offsets.{stack_at, is_content, is_inside_leaf, is_structural_at, partner, unmatched_counts, nearest_content}
use Rattle.model_items.proofs.ExampleItems.{text, node, internal}

-- `<p>ab</p><ul><li><p>cd</p></li></ul>`
abbrev crossed : List PlainItem
crossed = node P (text (codes "ab")) ++ (node Ul (node Li (node P (text (codes "cd")))) ++ internal)

stack : stack_at crossed 8 ≡ P ∷ Li ∷ Ul ∷ []
stack = refl

partners : (partner crossed 0 ≡ 3) × (partner crossed 11 ≡ 4) × (partner crossed 9 ≡ 6) × (partner crossed 1 ≡ 1)
partners = (refl, refl, refl, refl)

crossing : unmatched_counts crossed 2 8 ≡ (1, 3)
crossing = refl

-- `<p id='x'>a<br/></p><p>b</p>`
abbrev leaf_inside : List PlainItem
leaf_inside = node P (text (codes "a") ++ node Br []) ++ (node P (text (codes "b")) ++ internal)

leaf : (is_inside_leaf leaf_inside 3 ≡ true) × (is_content leaf_inside 4 ≡ true) × (is_structural_at leaf_inside 5 ≡ true)
leaf = (refl, refl, refl)

inner : (nearest_content leaf_inside 0 ≡ Some 1) × (nearest_content leaf_inside 3 ≡ Some 2) × (nearest_content leaf_inside 10 ≡ Some 7) × (nearest_content internal 1 ≡ None)
inner = (refl, refl, refl, refl)
