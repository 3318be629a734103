-- The nodes of `<p>ab</p>` and its internal list, as `build` makes them: the root 0, the internal
-- list 1, the paragraph 2, its text 3.
use Rattle.std.proofs.Common.{◌≡◌, ℕ, zero, suc, false, Option, Some, None, List, [], ◌∷◌, take, drop, refl, arith}
use Rattle.ve_kinds.specs.declared.kind.Kind.TheVariants.{Root, P, InternalList}
use Rattle.model_items.specs.declared.item.Item.{Item}
use Rattle.model_items.specs.declared.item.Item.TheVariants.{Char, Opening, Closing}
use Rattle.ve_arena.specs.declared.node.NodeId.{NodeId}
use Rattle.ve_arena.specs.declared.node.NodeWhat.TheVariants.{Node, Run}
use Rattle.ve_arena.specs.declared.node.ArenaNode.{ArenaNode}
use Rattle.ve_arena.specs.Arena.{slot_at, new_node}
use Rattle.ve_tree.specs.Links.{Apart}
use Rattle.ve_tree.specs.Named.{Named, NoNode, NamedRun, NamedBranch}
use Rattle.ve_tree.specs.IsTree.{unvalued, IsTree}
use Rattle.ve_tree.specs.Lent.{IsEndPiece}
use Rattle.ve_tree.specs.Fits.{kids_of}
use Rattle.ve_tree.specs.Reads.{IsReadUnder}

abbrev page : List Item
page = Opening P false None None None None ∷ Char 97 None ∷ Char 98 None ∷ Closing P None ∷ Opening InternalList false None None None None ∷ Closing InternalList None ∷ []

abbrev id : ℕ → Option NodeId
id n = Some (record { 0 = n })

abbrev slots : List (Option ArenaNode)
slots =
    Some (record (new_node (Node Root)) { first = id 2; last = id 1; len = 6 })
    ∷ Some (record (new_node (Node InternalList)) { parent = id 0; before = id 2; len = 2 })
    ∷ Some (record (new_node (Node P)) { parent = id 0; first = id 3; last = id 3; after = id 1; len = 4 })
    ∷ Some (record (new_node Run) { parent = id 2; len = 2 })
    ∷ []

abbrev nodes : Named
nodes = NamedBranch 2 P (NamedRun 3 2 NoNode) (NamedBranch 1 InternalList NoNode NoNode)

no_more : (q : ℕ) → Apart q (0 ∷ 2 ∷ 3 ∷ 1 ∷ []) → slot_at slots q ≡ None
no_more zero a = absurd (a.0 refl)
no_more (suc zero) a = absurd (a.1.1.1.0 refl)
no_more (suc (suc zero)) a = absurd (a.1.0 refl)
no_more (suc (suc (suc zero))) a = absurd (a.1.1.0 refl)
no_more (suc (suc (suc (suc q)))) a = refl

is_tree : IsTree slots (record { 0 = 0 }) (unvalued page)
is_tree = record {
  lawful = refl;
  named = nodes;
  is_tree = refl;
  apart = (((λ e. absurd (omega (arith, e))), ((λ e. absurd (omega (arith, e))), ((λ e. absurd (omega (arith, e))), tt))), (((λ e. absurd (omega (arith, e))), ((λ e. absurd (omega (arith, e))), tt)), (((λ e. absurd (omega (arith, e))), tt), (tt, tt))));
  shown = (
    record { sort_is = refl; len_is = refl; children = record { first = refl; last = refl; row = (refl, refl, refl, tt) } },
    (record { sort_is = refl; len_is = refl; children = record { first = refl; last = refl; row = tt } }, tt),
    (record { sort_is = refl; len_is = refl; children = record { first = refl; last = refl; row = tt } }, tt, tt),
  );
  root_shown = record { sort_is = refl; len_is = refl; children = record { first = refl; last = refl; row = (refl, refl, refl, (refl, refl, refl, tt)) } };
  root_alone = record { no_parent = refl; no_before = refl; no_after = refl };
  only = no_more;
}

-- the same, read from the root by first child and next sibling
is_read : IsReadUnder slots (record { 0 = 0 }) nodes
is_read = (
  refl,
  record { sort_is = refl; len_is = refl; parent_is = refl; before_is = refl },
  (refl, record { sort_is = refl; len_is = refl; parent_is = refl; before_is = refl }, (refl, refl), (refl, refl)),
  (refl, record { sort_is = refl; len_is = refl; parent_is = refl; before_is = refl }, (refl, refl), (refl, refl)),
)

-- and by children lists
under_the_root : kids_of 0 nodes 0 ≡ 2 ∷ 1 ∷ []
under_the_root = refl

in_the_paragraph : kids_of 0 nodes 2 ≡ 3 ∷ []
in_the_paragraph = refl

in_the_internal_list : kids_of 0 nodes 1 ≡ []
in_the_internal_list = refl

no_node : kids_of 0 nodes 7 ≡ []
no_node = refl

-- where five items are still to be read, the list's opening may be borrowed
ends_with_the_opening : IsEndPiece page 5 (drop 4 (take 5 page))
ends_with_the_opening = record { within = omega arith; some = λ l. omega arith; piece = refl }
