-- Links and landmarks that a wrong body would leave after a change of a small page.
use Rattle.std.proofs.Common.{◌≡◌, ℕ, zero, suc, ◌<◌, List, [], ◌∷◌, inl, get_or, Contains, Option, Some, None, false, refl, subst, arith}
use Rattle.ve_kinds.specs.declared.kind.Kind.TheVariants.{Root, InternalList}
use Rattle.model_items.specs.declared.item.Item.{Item}
use Rattle.model_items.specs.declared.item.Item.TheVariants.{Opening, Closing}
use Rattle.model_items.specs.declared.law_fault.LawFault.TheVariants as law
use Rattle.ve_arena.specs.declared.node.NodeId.{NodeId}
use Rattle.ve_arena.specs.declared.node.NodeWhat.TheVariants.{Node}
use Rattle.ve_arena.specs.declared.node.ArenaNode.{ArenaNode}
use Rattle.ve_arena.specs.Arena.{slot_at, new_node}
use Rattle.ve_tree.specs.Links.{Apart, links_of}
use Rattle.ve_tree.specs.IsTree.{unvalued, IsTree}
use Rattle.ve_tree.specs.Named.{Named, NoNode, NamedBranch}
use Rattle.ve_tree.specs.Places.{NodePlace, tree_places}
use Rattle.ve_tree.specs.Landmarks.{MayFollow}
use Rattle.ve_repair.specs.declared.fault.RepairFault.TheVariants.{TooDeep}
use Rattle.ve_repair.specs.Relink.{linked}
use Rattle.ve_repair.specs.Repaired.{fault_of}

-- ---- the page without content: the root 0 and the internal list 1. A paragraph 2 stood before the
-- list, and went.

abbrev page : List Item
page = Opening InternalList false None None None None ∷ Closing InternalList None ∷ []

abbrev number : ℕ → NodeId
number n = record { 0 = n }

abbrev slots : List (Option ArenaNode)
slots =
    Some (record (new_node (Node Root)) { first = Some (number 1); last = Some (number 1); len = 2 })
    ∷ Some (record (new_node (Node InternalList)) { parent = Some (number 0); len = 2 })
    ∷ []

abbrev nodes : Named
nodes = NamedBranch 1 InternalList NoNode NoNode

no_more : (q : ℕ) → Apart q (0 ∷ 1 ∷ []) → slot_at slots q ≡ None
no_more zero a = absurd (a.0 refl)
no_more (suc zero) a = absurd (a.1.0 refl)
no_more (suc (suc q)) a = refl

root_is_none_of_them : ◌≡◌ {A = ℕ} 0 1 → ⊥
root_is_none_of_them e = cc

abbrev is_tree : IsTree slots (number 0) (unvalued page)
is_tree = record {
  lawful = refl;
  named = nodes;
  is_tree = refl;
  apart = ((root_is_none_of_them, tt), (tt, tt));
  shown = (record { sort_is = refl; len_is = refl; children = record { first = refl; last = refl; row = tt } }, tt, tt);
  root_shown = record { sort_is = refl; len_is = refl; children = record { first = refl; last = refl; row = (refl, refl, refl, tt) } };
  root_alone = record { no_parent = refl; no_before = refl; no_after = refl };
  only = no_more;
}

-- the paragraph is none of its nodes
paragraph_is_gone : (x : NodePlace) → Contains (tree_places is_tree) x → x.number ≡ 2 → ⊥
paragraph_is_gone x there = by there.0 there.1 there.2
  where
    by : (k : ℕ) → k < 2 → get_or (tree_places is_tree) k x ≡ x → x.number ≡ 2 → ⊥
    by zero l found = let Q : NodePlace → Type 0 = λ y. y.number ≡ 2 → ⊥ in subst Q found (λ n. cc)
    by (suc zero) l found = let Q : NodePlace → Type 0 = λ y. y.number ≡ 2 → ⊥ in subst Q found (λ n. cc)
    by (suc (suc k)) l found = absurd (omega (arith, l))

-- The paragraph was a landmark, at 0. Where the landmarks followed a change from 2 on, in place of
-- 0, it would stay one.
a_changed_node_is_no_landmark : MayFollow slots (number 0) (record { nodes = number 2 ∷ []; gaps = 0 ∷ [] }) 2 3 1 → ⊥
a_changed_node_is_no_landmark may =
    let follows = may (number 2) 0 (record { k = 0; among = omega arith; node_is = refl; from_is = refl }) in
    let begins = follows.stays (inl (omega arith)) (unvalued page) is_tree in
    paragraph_is_gone begins.place begins.listed begins.number_is

-- Where a sibling led one way alone, the internal list would have nothing before it when 2 comes to
-- stand there.
a_sibling_leads_both_ways : (linked 0 2 None (links_of slots)).before 1 ≡ Some 2
a_sibling_leads_both_ways = refl

-- where the cause was called unlawful, it would be `Unlawful 3`
a_list_too_deep_is_called_so : fault_of (law.TooDeep 3) ≡ TooDeep 3
a_list_too_deep_is_called_so = refl
