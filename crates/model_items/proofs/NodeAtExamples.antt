-- The positions of a small list's nodes, and what makes its tree lawful.
use Rattle.std.proofs.Common.{◌≡◌, ℕ, true, false, List, [], ◌∷◌, None, refl}
use Rattle.ve_kinds.specs.declared.kind.Kind.{Kind}
use Rattle.ve_kinds.specs.declared.kind.Kind.TheVariants.{Root, P, Ul, Li, Div, InternalList}
use Rattle.ve_base.specs.Empty.{empty_head}
use Rattle.model_items.specs.declared.plain_item.PlainItem.{PlainItem}
use Rattle.model_items.specs.declared.plain_item.PlainItem.TheVariants.{Char, Opening, Closing}
use Rattle.model_items.specs.Tree.{Empty, Branch, NodeExtent, tree_of}
use Rattle.model_items.specs.NodeAt.{all_places}
use Rattle.model_items.specs.LawfulTree.{nesting, ends_with_internal_list}

abbrev open_ : Kind → PlainItem
open_ kind = Opening kind empty_head [] [] None false

abbrev close_ : Kind → PlainItem
close_ kind = Closing kind []

abbrev place_ : Kind → ℕ → ℕ → NodeExtent
place_ kind from to = record { kind = kind; from = from; to = to }

-- the list of `<ul><li><p>ab</p></li></ul><p>c</p>`
abbrev small : List PlainItem
small =
    open_ Ul ∷ open_ Li ∷ open_ P ∷ Char 97 [] ∷ Char 98 [] ∷ close_ P ∷ close_ Li ∷ close_ Ul ∷ open_ P ∷ Char 99 [] ∷ close_ P
    ∷ open_ InternalList ∷ close_ InternalList ∷ []

places : all_places small ≡ place_ Root 0 13 ∷ place_ Ul 0 8 ∷ place_ Li 1 7 ∷ place_ P 2 6 ∷ place_ P 8 11 ∷ place_ InternalList 11 13 ∷ []
places = refl

three_deep : nesting (tree_of small) ≡ 3
three_deep = refl

ends : ends_with_internal_list (tree_of small) ≡ true
ends = refl

not_last : ends_with_internal_list (Branch InternalList Empty (Branch P Empty Empty)) ≡ false
not_last = refl

not_there : ends_with_internal_list (Branch Div (Branch P Empty Empty) Empty) ≡ false
not_there = refl
