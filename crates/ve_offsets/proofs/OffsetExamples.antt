-- Offsets of two small pages.
use Rattle.std.proofs.Common.{◌≡◌, true, false, List, [], ◌∷◌, None, refl}
use Rattle.ve_kinds.specs.declared.kind.Kind.{Kind}
use Rattle.ve_kinds.specs.declared.kind.Kind.TheVariants.{P, Br, Ul, Li, InternalList}
use Rattle.model_items.specs.declared.item.Item.{Item}
use Rattle.model_items.specs.declared.item.Item.TheVariants.{Char, Opening, Closing}
use Rattle.model_items.specs.declared.offset_class.OffsetClass.TheVariants.{Content, Structural, Inside}
use Rattle.model_items.specs.Tree.{node_at}
use Rattle.ve_tree.specs.IsTree.{unvalued}
use Rattle.ve_offsets.specs.Classes.{IsContent, IsInsideLeaf, IsStructural, class_after}
use Rattle.ve_offsets.specs.States.{IsStateAt}
use Rattle.ve_offsets.specs.Unmatched.{unmatched_in}

abbrev open_ : Kind → Item
open_ kind = Opening kind false None None None None

abbrev close_ : Kind → Item
close_ kind = Closing kind None

-- `<p>a<br/></p><p>b</p>`
abbrev broken : List Item
broken =
    open_ P ∷ Char 97 None ∷ open_ Br ∷ close_ Br ∷ close_ P ∷ open_ P ∷ Char 98 None ∷ close_ P ∷ open_ InternalList ∷ close_ InternalList ∷ []

-- `<ul><li>a<p>x</p>b</li></ul>`: the characters that stand beside a paragraph get paragraphs of
-- their own
abbrev listed : List Item
listed =
    open_ Ul ∷ open_ Li ∷ open_ P ∷ Char 97 None ∷ close_ P ∷ open_ P ∷ Char 120 None ∷ close_ P ∷ open_ P ∷ Char 98 None ∷ close_ P ∷ close_ Li ∷ close_ Ul
    ∷ open_ InternalList ∷ close_ InternalList ∷ []

in_a_leaf : node_at (unvalued broken) 3 ≡ record { kind = Br; from = 2; to = 4 }
in_a_leaf = refl

leaf : IsInsideLeaf broken 3
leaf = refl

beside_the_leaf : IsContent broken 4
beside_the_leaf = refl

between_paragraphs : IsStructural broken 5
between_paragraphs = refl

-- each of these by the item before
after_a_leaf : class_after (close_ Br) ≡ Content
after_a_leaf = refl

after_a_paragraph : class_after (close_ P) ≡ Structural
after_a_paragraph = refl

after_an_opened_leaf : class_after (open_ Br) ≡ Inside
after_an_opened_leaf = refl

in_a_paragraph : node_at (unvalued listed) 6 ≡ record { kind = P; from = 5; to = 8 }
in_a_paragraph = refl

content : IsContent listed 6
content = refl

in_an_item : node_at (unvalued listed) 5 ≡ record { kind = Li; from = 1; to = 12 }
in_an_item = refl

structural : IsStructural listed 5
structural = refl

three_open : IsStateAt listed 6 (record { stack = P ∷ Li ∷ Ul ∷ []; seen = false })
three_open = refl

at_the_end : IsStateAt listed 15 (record { stack = []; seen = true })
at_the_end = refl

-- from one paragraph into the next
one_each : unmatched_in listed 3 6 ≡ (1, 1)
one_each = refl

out_of_the_item : unmatched_in listed 6 12 ≡ (2, 0)
out_of_the_item = refl

whole_nodes : unmatched_in listed 2 11 ≡ (0, 0)
whole_nodes = refl
