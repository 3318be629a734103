-- Nodes and positions that a wrong body would give for a small page, refused by what is promised of
-- them.
use Rattle.std.proofs.Common.{◌≡◌, ℕ, zero, suc, ◌+◌, ◌<◌, List, [], ◌∷◌, inl, inr, get_or, length, take, sum, slice_get, Contains, Option, Some, None, false, refl, sym, ap, subst, arith}
use Rattle.ve_kinds.specs.declared.kind.Kind.TheVariants.{Root, P, Br, InternalList}
use Rattle.model_items.specs.declared.item.Item.{Item}
use Rattle.model_items.specs.declared.item.Item.TheVariants.{Char, Opening, Closing}
use Rattle.model_items.specs.declared.plain_item.PlainItem.{PlainItem}
use Rattle.model_items.specs.declared.plain_item.PlainItem.TheVariants as plain
use Rattle.model_items.specs.Law.{Lawful}
use Rattle.model_items.specs.Tree.{tree_of}
use Rattle.ve_arena.specs.declared.node.NodeId.{NodeId}
use Rattle.ve_arena.specs.declared.node.NodeWhat.TheVariants.{Node, Run}
use Rattle.ve_arena.specs.declared.node.ArenaNode.{ArenaNode}
use Rattle.ve_arena.specs.Arena.{slot_at, new_node}
use Rattle.ve_tree.specs.Links.{Apart, AllApart}
use Rattle.ve_tree.specs.IsTree.{unvalued, IsTree}
use Rattle.ve_tree.specs.Grown.{MadeOnly}
use Rattle.ve_tree.specs.Named.{Named, NoNode, NamedRun, NamedBranch, Shows}
use Rattle.ve_tree.specs.Places.{NodePlace, tree_places, IsNodeRound, OfItsPlace}
use Rattle.ve_tree.specs.Spots.{IsSpotOf, IsChildThere}
use Rattle.ve_tree.specs.Landmarks.{LandmarkRow, IsLandmark, AreLandmarks, IsCut}

-- ---- `<p>ab<br/></p>` and its internal list, with the nodes that are built for it: the root 0,
-- the list 1, the paragraph 2, the br 3, the text 4

abbrev page : List Item
page =
    Opening P false None None None None
    ∷ Char 97 None
    ∷ Char 98 None
    ∷ Opening Br false None None None None
    ∷ Closing Br None
    ∷ Closing P None
    ∷ Opening InternalList false None None None None
    ∷ Closing InternalList None
    ∷ []

abbrev number : ℕ → NodeId
number n = record { 0 = n }

abbrev link : ℕ → Option NodeId
link n = Some (number n)

-- the nodes, with this length of the paragraph
abbrev slots_with : ℕ → List (Option ArenaNode)
slots_with len =
    Some (record (new_node (Node Root)) { first = link 2; last = link 1; len = 8 })
    ∷ Some (record (new_node (Node InternalList)) { parent = link 0; before = link 2; len = 2 })
    ∷ Some (record (new_node (Node P)) { parent = link 0; first = link 4; last = link 3; after = link 1; len = len })
    ∷ Some (record (new_node (Node Br)) { parent = link 2; before = link 4; len = 2 })
    ∷ Some (record (new_node Run) { parent = link 2; after = link 3; len = 2 })
    ∷ []

abbrev slots : List (Option ArenaNode)
slots = slots_with 6

abbrev nodes : Named
nodes = NamedBranch 2 P (NamedRun 4 2 (NamedBranch 3 Br NoNode NoNode)) (NamedBranch 1 InternalList NoNode NoNode)

no_more : (q : ℕ) → Apart q (0 ∷ 2 ∷ 4 ∷ 3 ∷ 1 ∷ []) → slot_at slots q ≡ None
no_more zero a = absurd (a.0 refl)
no_more (suc zero) a = absurd (a.1.1.1.1.0 refl)
no_more (suc (suc zero)) a = absurd (a.1.0 refl)
no_more (suc (suc (suc zero))) a = absurd (a.1.1.1.0 refl)
no_more (suc (suc (suc (suc zero)))) a = absurd (a.1.1.0 refl)
no_more (suc (suc (suc (suc (suc q))))) a = refl

numbers_are_apart : AllApart (0 ∷ 2 ∷ 4 ∷ 3 ∷ 1 ∷ [])
numbers_are_apart = (
  ((λ e. cc), ((λ e. cc), ((λ e. cc), ((λ e. cc), tt)))),
  (((λ e. cc), ((λ e. cc), ((λ e. cc), tt))), (((λ e. cc), ((λ e. cc), tt)), (((λ e. cc), tt), (tt, tt)))),
)

abbrev is_tree : IsTree slots (number 0) (unvalued page)
is_tree = record {
  lawful = refl;
  named = nodes;
  is_tree = refl;
  apart = numbers_are_apart;
  shown = (
    record { sort_is = refl; len_is = refl; children = record { first = refl; last = refl; row = (refl, refl, refl, (refl, refl, refl, tt)) } },
    (
      record { sort_is = refl; len_is = refl; children = record { first = refl; last = refl; row = tt } },
      (record { sort_is = refl; len_is = refl; children = record { first = refl; last = refl; row = tt } }, tt, tt),
    ),
    (record { sort_is = refl; len_is = refl; children = record { first = refl; last = refl; row = tt } }, tt, tt),
  );
  root_shown = record { sort_is = refl; len_is = refl; children = record { first = refl; last = refl; row = (refl, refl, refl, (refl, refl, refl, tt)) } };
  root_alone = record { no_parent = refl; no_before = refl; no_after = refl };
  only = no_more;
}

-- what holds of the position of each node holds of every position of the page
of_each : (Q : NodePlace → Type 0)
    → Q (record { number = 0; parent = None; sort = Node Root; from = 0; to = 8 })
    → Q (record { number = 2; parent = Some 0; sort = Node P; from = 0; to = 6 })
    → Q (record { number = 4; parent = Some 2; sort = Run; from = 1; to = 3 })
    → Q (record { number = 3; parent = Some 2; sort = Node Br; from = 3; to = 5 })
    → Q (record { number = 1; parent = Some 0; sort = Node InternalList; from = 6; to = 8 })
    → (x : NodePlace) → Contains (tree_places is_tree) x → Q x
of_each Q root paragraph text br list x there = by there.0 there.1 there.2
  where
    by : (k : ℕ) → k < 5 → get_or (tree_places is_tree) k x ≡ x → Q x
    by zero l found = subst Q found root
    by (suc zero) l found = subst Q found paragraph
    by (suc (suc zero)) l found = subst Q found text
    by (suc (suc (suc zero))) l found = subst Q found br
    by (suc (suc (suc (suc zero)))) l found = subst Q found list
    by (suc (suc (suc (suc (suc k))))) l found = absurd (omega (arith, l))

-- ---- building

-- where the first item was passed unread, none would be left to read
a_list_is_to_be_read_whole : length page ≡ 8
a_list_is_to_be_read_whole = refl

-- where its closing was left out, the paragraph would be 5 items long
a_closing_counts : Shows (slots_with 5) nodes → ⊥
a_closing_counts shown = let paragraph = shown.0.len_is in cc

abbrev last_in : Option ArenaNode → Option NodeId
last_in None = None
last_in (Some node) = node.last

-- where an only child was forgotten to be the last one, the root would have a first child alone
an_only_child_is_the_last_one :
    MadeOnly (Some (new_node (Node Root)) ∷ []) (Some (record (new_node (Node Root)) { first = link 1 }) ∷ Some (record (new_node Run) { parent = link 0 }) ∷ []) 1 0 Run →
    ⊥
an_only_child_is_the_last_one made = let last : None ≡ link 1 = ap last_in made.above in cc

-- ---- looking up

-- between a and b, where the node found was the text
a_text_is_no_node_round : IsNodeRound slots (number 0) 2 (number 4) → ⊥
a_text_is_no_node_round round =
    let node = round (unvalued page) is_tree in
    let Q : NodePlace → Type 0 = λ x. x.number ≡ 4 → x.sort ≡ Node P → ⊥ in
    of_each Q (λ n s. cc) (λ n s. cc) (λ n s. cc) (λ n s. cc) (λ n s. cc) _ node.listed refl refl

-- there again, where the child was the br, which comes after the text
the_child_is_there : IsSpotOf slots (number 0) 2 (record { node = number 2; next = link 3; left = 1 }) → ⊥
the_child_is_there spot =
    let child : IsChildThere is_tree 2 (number 2) (number 3) 1 = (spot (unvalued page) is_tree).next in
    let Q : NodePlace → Type 0 = λ x. x.number ≡ 3 → x.from + 1 ≡ 2 → ⊥ in
    of_each Q (λ n s. cc) (λ n s. cc) (λ n s. cc) (λ n s. cc) (λ n s. cc) _ child.listed refl child.begins

-- where the paragraph's opening was not counted, the text would begin at 0
an_opening_counts : OfItsPlace slots (number 0) (number 4) (λ place. ◌≡◌ {A = ℕ × ℕ} (0, 2) (place.from, place.to)) → ⊥
an_opening_counts range =
    let text : NodePlace = record { number = 4; parent = Some 2; sort = Run; from = 1; to = 3 } in
    let begins : ◌≡◌ {A = ℕ} 0 1 = ap (λ (r : ℕ × ℕ). r.0) (range (unvalued page) is_tree text (2, omega arith, refl) refl) in
    cc

-- ---- landmarks

-- b came before the br and the list: where nothing moved, the list would begin at 5
what_is_behind_a_change_moves : AreLandmarks slots (number 0) (record { nodes = number 1 ∷ []; gaps = 5 ∷ [] }) → ⊥
what_is_behind_a_change_moves are =
    let begins = are (number 1) 5 (record { k = 0; among = omega arith; node_is = refl; from_is = refl }) (unvalued page) is_tree in
    let Q : NodePlace → Type 0 = λ x. x.number ≡ 1 → x.from ≡ 5 → ⊥ in
    of_each Q (λ n s. cc) (λ n s. cc) (λ n s. cc) (λ n s. cc) (λ n s. cc) begins.place begins.listed begins.number_is begins.from_is

-- two landmarks beside one another
abbrev row : LandmarkRow
row = record { nodes = number 4 ∷ number 3 ∷ []; gaps = 1 ∷ 1 ∷ [] }

begins_at_one : (was : ℕ) → IsLandmark row (number 4) was → was ≡ 1
begins_at_one was there = by there.k there.among there.node_is there.from_is
  where
    by : (k : ℕ) → k < 2 → get_or row.nodes k (number 4) ≡ number 4 → sum (take (suc k) row.gaps) ≡ was → was ≡ 1
    by zero l node from = sym from
    by (suc zero) l node from = let other : ◌≡◌ {A = ℕ} 3 4 = ap (λ (n : NodeId). n.0) node in cc
    by (suc (suc k)) l node from = absurd (omega (arith, l))

-- items 1 and 2 are replaced by two others: what began between them is a landmark no more
what_is_changed_is_no_landmark : IsCut row row (number 0) 1 3 2 → ⊥
what_is_changed_is_no_landmark cut =
    let text = cut (number 4) 1 (record { k = 0; among = omega arith; node_is = refl; from_is = refl }) in
    let was : text.was ≡ 1 = begins_at_one text.was text.landmark in
    elim text.kept [
      | inl stays ↦ elim stays.0 [
        | inl before ↦ absurd (omega (arith, before, was))
        | inr root ↦ let other : ◌≡◌ {A = ℕ} 4 0 = ap (λ (n : NodeId). n.0) root in cc
      ]
      | inr moves ↦ absurd (omega (arith, moves.0, was))
    ]

-- ---- what a tree tells

abbrev with_char : ℕ → List PlainItem
with_char c =
    unvalued (Opening P false None None None None ∷ Char c None ∷ Closing P None ∷ Opening InternalList false None None None None ∷ Closing InternalList None ∷ [])

-- two lawful lists of one tree, which are not equal: a tree tells shapes alone
a_tree_tells_no_letters :
    ((items others : List PlainItem) → Lawful items → Lawful others → tree_of items ≡ tree_of others → items ≡ others) → ⊥
a_tree_tells_no_letters tells =
    let same = tells (with_char 1) (with_char 2) refl refl refl in
    let letter : ◌≡◌ {A = Option PlainItem} (Some (plain.Char 1 [])) (Some (plain.Char 2 [])) = ap (λ (items : List PlainItem). slice_get items 1) same in
    cc
