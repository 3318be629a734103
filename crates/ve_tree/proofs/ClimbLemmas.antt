-- The position of a node in the list, as its links tell it.
use Rattle.std.proofs.Common.{◌≡◌, ◌≢◌, ◌≤◌, ◌<◌, ◌+◌, ◌-◌, ◌⊎◌, inl, inr, ℕ, zero, suc, true, false, Option, Some, None, IsSome, List, [], ◌∷◌, ◌++◌, length, get_or, option_map, refl, sym, ap, ◌∙◌, subst, arith, Contains}
use Rattle.std.proofs.lemmas.List.Elements.{Contains-append_left, Contains-append_right, Contains-append_cases}
use Rattle.model_items.specs.declared.plain_item.PlainItem.{PlainItem}
use Rattle.model_items.specs.Tree.{item_count}
use Rattle.model_items.proofs.NodeAtLemmas.{count_all}
use Rattle.ve_arena.specs.declared.node.NodeId.{NodeId}
use Rattle.ve_arena.specs.declared.node.NodeWhat.{NodeWhat}
use Rattle.ve_arena.specs.declared.node.NodeWhat.TheVariants as what
use Rattle.ve_arena.specs.declared.node.ArenaNode.{ArenaNode}
use Rattle.ve_arena.specs.Arena.{slot_at}
use Rattle.ve_tree.specs.Links.{number_of, link_in, links_of, AreSiblings}
use Rattle.ve_tree.specs.Named.{Named, NoNode, NamedRun, NamedBranch, unnumbered, heads, Shows}
use Rattle.ve_tree.specs.IsTree.{IsTree}
use Rattle.ve_tree.specs.Places.{NodePlace, node_places, tree_places}
use Rattle.ve_tree.proofs.WalkLemmas.{Slots, NoEmptyRun, contains-here, contains-later, tree-runs}

pub contains_cases : {X : Type 0} (y x : X) (xs : List X) → Contains (y ∷ xs) x → (y ≡ x) ⊎ Contains xs x
contains_cases {X} y x xs p = by_index p.0 p.1 p.2
  where
    by_index : (k : ℕ) → k < suc (length xs) → get_or (y ∷ xs) k x ≡ x → (y ≡ x) ⊎ Contains xs x
    by_index zero within found = inl found
    by_index (suc k) within found = inr (k, omega (arith, within), found)

-- The arena's record of a node that stands at a position, in a forest under p with this before it.
-- The node is the first there, or stands after a node of the forest, or is the first inside one.
data Above (slots : Slots) (all : List NodePlace) (p at : ℕ) (start : Option ℕ) (y : NodePlace) : Type 0 where
  AtFirst : (links_of slots).before y.number ≡ start → y.from ≡ at → y.parent ≡ Some p → Above slots all p at start y
  Following : (z : NodePlace) → Contains all z → (links_of slots).before y.number ≡ Some z.number → z.to ≡ y.from → Above slots all p at start y
  Within : (z : NodePlace) → Contains all z → (links_of slots).before y.number ≡ None → y.parent ≡ Some z.number → y.from ≡ suc z.from → Above slots all p at start y

-- a node of the arena at a position
pub record IsPlaced (slots : Slots) (y : NodePlace) : Type 0 where
  pub sort_is : option_map (λ node. node.what) (slot_at slots y.number) ≡ Some y.sort
  pub parent_is : (links_of slots).parent y.number ≡ y.parent
  pub len : ℕ
  pub len_is : option_map (λ node. node.len) (slot_at slots y.number) ≡ Some len
  pub some : 1 ≤ len
  pub in_a_node : IsSome y.parent
  pub ends : y.from + len ≡ y.to

record IsAbove (slots : Slots) (all : List NodePlace) (p at : ℕ) (start : Option ℕ) (end : ℕ) (y : NodePlace) : Type 0 where
  placed : IsPlaced slots y
  below_end : y.to ≤ end
  above : Above slots all p at start y

-- more nodes in the list
wider : (slots : Slots) (all more : List NodePlace) (p at : ℕ) (start : Option ℕ) (y : NodePlace) → ((z : NodePlace) → Contains all z → Contains more z) →
    Above slots all p at start y → Above slots more p at start y
wider slots all more p at start y w (AtFirst b f q) = AtFirst b f q
wider slots all more p at start y w (Following z c b e) = Following z (w z c) b e
wider slots all more p at start y w (Within z c b q e) = Within z (w z c) b q e

-- the nodes after the first one
after_first : (slots : Slots) (all : List NodePlace) (p at end : ℕ) (first : NodePlace) (y : NodePlace) → Contains all first → IsAbove slots all p first.to (Some first.number) end y →
    (start : Option ℕ) → IsAbove slots all p at start end y
after_first slots all p at end first y c a start = record { placed = a.placed; below_end = a.below_end; above = by_case a.above }
  where
    by_case : Above slots all p first.to (Some first.number) y → Above slots all p at start y
    by_case (AtFirst b f q) = Following first c b (sym f)
    by_case (Following z d b e) = Following z d b e
    by_case (Within z d b q e) = Within z d b q e

-- the nodes inside the first one
inside_first : (slots : Slots) (all : List NodePlace) (p at end inner_end : ℕ) (first : NodePlace) (y : NodePlace) → Contains all first → inner_end ≤ end →
    IsAbove slots all first.number (suc first.from) None inner_end y → (start : Option ℕ) → IsAbove slots all p at start end y
inside_first slots all p at end inner_end first y c le a start = record { placed = a.placed; below_end = omega (arith, a.below_end, le); above = by_case a.above }
  where
    by_case : Above slots all first.number (suc first.from) None y → Above slots all p at start y
    by_case (AtFirst b f q) = Within first c b q f
    by_case (Following z d b e) = Following z d b e
    by_case (Within z d b q e) = Within z d b q e

wider_above : (slots : Slots) (all more : List NodePlace) (p at : ℕ) (start : Option ℕ) (end : ℕ) (y : NodePlace) → ((z : NodePlace) → Contains all z → Contains more z) →
    IsAbove slots all p at start end y → IsAbove slots more p at start end y
wider_above slots all more p at start end y w a = record { placed = a.placed; below_end = a.below_end; above = wider slots all more p at start y w a.above }

-- the nodes of a forest, where those of its parts are known
record ListedParts (slots : Slots) (own : NodePlace) (inside later : List NodePlace) (p at : ℕ) (start : Option ℕ) (inner_end end : ℕ) : Type 0 where
  own_above : IsAbove slots (own ∷ (inside ++ later)) p at start end own
  within_end : inner_end ≤ end
  inside_above : (y : NodePlace) → Contains inside y → IsAbove slots inside own.number (suc own.from) None inner_end y
  later_above : (y : NodePlace) → Contains later y → IsAbove slots later p own.to (Some own.number) end y

from_parts : (slots : Slots) (own : NodePlace) (inside later : List NodePlace) (p at : ℕ) (start : Option ℕ) (inner_end end : ℕ) → ListedParts slots own inside later p at start inner_end end →
    (y : NodePlace) → Contains (own ∷ (inside ++ later)) y → IsAbove slots (own ∷ (inside ++ later)) p at start end y
from_parts slots own inside later p at start inner_end end parts y c =
    elim (contains_cases own y (inside ++ later) c) [
      | inl same ↦ subst (IsAbove slots (own ∷ (inside ++ later)) p at start end) same parts.own_above
      | inr there ↦ elim (Contains-append_cases inside later y there) [
        | inl in_ ↦ inside_first slots (own ∷ (inside ++ later)) p at end inner_end own y (contains-here own (inside ++ later)) parts.within_end
            (wider_above slots inside (own ∷ (inside ++ later)) own.number (suc own.from) None inner_end y
            (λ z d. contains-later own z (inside ++ later) (Contains-append_left inside later z d)) (parts.inside_above y in_)) start
        | inr after_ ↦ after_first slots (own ∷ (inside ++ later)) p at end own y (contains-here own (inside ++ later))
            (wider_above slots later (own ∷ (inside ++ later)) p own.to (Some own.number) end y
            (λ z d. contains-later own z (inside ++ later) (Contains-append_right inside later z d)) (parts.later_above y after_)) start
      ]
    ]

listed_above : (slots : Slots) (f : Named) (p at : ℕ) (start : Option ℕ) (y : NodePlace) → AreSiblings (links_of slots).parent (links_of slots).before (links_of slots).after p start (heads f) None →
    Shows slots f → NoEmptyRun (unnumbered f) → Contains (node_places p at f) y → IsAbove slots (node_places p at f) p at start (at + item_count (unnumbered f)) y
listed_above slots NoNode p at start y row shown runs c = absurd (omega (arith, c.1))
listed_above slots (NamedRun h count later) p at start y row shown runs c =
    let e : (at + count) + item_count (unnumbered later) ≡ at + (count + item_count (unnumbered later)) = omega arith in
    from_parts slots (record { number = h; parent = Some p; sort = what.Run; from = at; to = at + count }) [] (node_places p (at + count) later) p at start at (at + (count + item_count (unnumbered later)))
    (record {
      own_above = record {
        placed = record { sort_is = shown.0.sort_is; parent_is = row.0; len = count; len_is = shown.0.len_is; some = runs.0; in_a_node = refl; ends = refl };
        below_end = omega arith;
        above = AtFirst row.1 refl refl;
      };
      within_end = omega arith;
      inside_above = λ y d. absurd (omega (arith, d.1));
      later_above = λ y d. subst (λ end. IsAbove slots (node_places p (at + count) later) p (at + count) (Some h) end y) e (listed_above slots later p (at + count) (Some h) y row.3 shown.1 runs.1 d);
    }) y c
listed_above slots (NamedBranch h kind inside later) p at start y row shown runs c =
    let len = item_count (unnumbered inside) + 2 in
    let e : (at + len) + item_count (unnumbered later) ≡ at + (item_count (unnumbered inside) + 2 + item_count (unnumbered later)) = omega arith in
    from_parts slots (record { number = h; parent = Some p; sort = what.Node kind; from = at; to = at + len }) (node_places h (suc at) inside) (node_places p (at + len) later) p at start
    (suc at + item_count (unnumbered inside)) (at + (item_count (unnumbered inside) + 2 + item_count (unnumbered later)))
    (record {
      own_above = record {
        placed = record { sort_is = shown.0.sort_is; parent_is = row.0; len = len; len_is = shown.0.len_is; some = omega arith; in_a_node = refl; ends = refl };
        below_end = omega arith;
        above = AtFirst row.1 refl refl;
      };
      within_end = omega arith;
      inside_above = λ y d. listed_above slots inside h (suc at) None y shown.0.children.row shown.1 runs.0 d;
      later_above = λ y d. subst (λ end. IsAbove slots (node_places p (at + len) later) p (at + len) (Some h) end y) e (listed_above slots later p (at + len) (Some h) y row.3 shown.2 runs.1 d);
    }) y c

-- every node of a tree
pub record IsListed {slots : Slots} {root : NodeId} {items : List PlainItem} (tree : IsTree slots root items) (y : NodePlace) : Type 0 where
  pub sort_is : option_map (λ node. node.what) (slot_at slots y.number) ≡ Some y.sort
  pub parent_is : (links_of slots).parent y.number ≡ y.parent
  pub len : ℕ
  pub len_is : option_map (λ node. node.len) (slot_at slots y.number) ≡ Some len
  pub ends : y.from + len ≡ y.to
  pub below_end : y.to ≤ length items

pub tree_listed : {slots : Slots} {root : NodeId} {items : List PlainItem} (tree : IsTree slots root items) (y : NodePlace) → Contains (tree_places tree) y → IsListed tree y
tree_listed {slots = slots} {root = root} {items = items} tree y c =
    elim (contains_cases _ y (node_places root.0 0 tree.named) c) [
      | inl same ↦ subst (IsListed tree) same (record {
        sort_is = tree.root_shown.sort_is;
        parent_is = tree.root_alone.no_parent;
        len = length items;
        len_is = tree.root_shown.len_is;
        ends = omega arith;
        below_end = omega arith;
      })
      | inr there ↦
          let a = listed_above slots tree.named root.0 0 None y tree.root_shown.children.row tree.shown (tree-runs tree) there in
          record {
            sort_is = a.placed.sort_is;
            parent_is = a.placed.parent_is;
            len = a.placed.len;
            len_is = a.placed.len_is;
            ends = a.placed.ends;
            below_end = omega (arith, a.below_end, ap item_count tree.is_tree, count_all items tree.lawful);
          }
    ]

-- what the node under a number tells of a position with that number
pub sort_under : {slots : Slots} {root : NodeId} {items : List PlainItem} (tree : IsTree slots root items) (y : NodePlace) (n : NodeId) (node : ArenaNode) →
    Contains (tree_places tree) y → y.number ≡ n.0 → slot_at slots n.0 ≡ Some node → y.sort ≡ node.what
sort_under {slots = slots} tree y n node c number here =
    let listed = tree_listed tree y c in
    let both : ◌≡◌ {A = Option NodeWhat} (Some y.sort) (Some node.what) =
    sym listed.sort_is ∙ ap (λ m. option_map (λ node. node.what) (slot_at slots m)) number ∙ ap (option_map (λ node. node.what)) here in
    cc

pub parent_under : {slots : Slots} {root : NodeId} {items : List PlainItem} (tree : IsTree slots root items) (y : NodePlace) (n : NodeId) (node : ArenaNode) →
    Contains (tree_places tree) y → y.number ≡ n.0 → slot_at slots n.0 ≡ Some node → y.parent ≡ option_map number_of node.parent
parent_under {slots = slots} tree y n node c number here =
    let listed = tree_listed tree y c in
    sym listed.parent_is ∙ ap (λ m. link_in (λ node. node.parent) (slot_at slots m)) number ∙ ap (link_in (λ node. node.parent)) here

pub len_under : {slots : Slots} {root : NodeId} {items : List PlainItem} (tree : IsTree slots root items) (y : NodePlace) (n : NodeId) (node : ArenaNode) →
    Contains (tree_places tree) y → y.number ≡ n.0 → slot_at slots n.0 ≡ Some node → y.from + node.len ≡ y.to
len_under {slots = slots} tree y n node c number here =
    let listed = tree_listed tree y c in
    let both : ◌≡◌ {A = Option ℕ} (Some listed.len) (Some node.len) =
    sym listed.len_is ∙ ap (λ m. option_map (λ node. node.len) (slot_at slots m)) number ∙ ap (option_map (λ node. node.len)) here in
    let same : listed.len ≡ node.len = cc in
    ap (λ n. y.from + n) (sym same) ∙ listed.ends

-- `from` items lie between the start of the node under a number and that of x
pub record Climb {slots : Slots} {root : NodeId} {items : List PlainItem} (tree : IsTree slots root items) (x : NodePlace) (at from : ℕ) : Type 0 where
  pub place : NodePlace
  pub listed : Contains (tree_places tree) place
  pub number : place.number ≡ at
  pub sum : from + place.from ≡ x.from

-- the root, or a node in it
data IsRootOr {slots : Slots} {root : NodeId} {items : List PlainItem} (tree : IsTree slots root items) (y : NodePlace) : Type 0 where
  AtRoot : y.number ≡ root.0 → y.from ≡ 0 → IsRootOr tree y
  InRoot : Contains (node_places root.0 0 tree.named) y → IsAbove slots (node_places root.0 0 tree.named) root.0 0 None (0 + item_count (unnumbered tree.named)) y → IsRootOr tree y

root_or : {slots : Slots} {root : NodeId} {items : List PlainItem} (tree : IsTree slots root items) (y : NodePlace) → Contains (tree_places tree) y → IsRootOr tree y
root_or {slots = slots} {root = root} tree y c =
    elim (contains_cases _ y (node_places root.0 0 tree.named) c) [
      | inl same ↦ AtRoot (ap (λ (z : NodePlace). z.number) (sym same)) (ap (λ (z : NodePlace). z.from) (sym same))
      | inr there ↦ InRoot there (listed_above slots tree.named root.0 0 None y tree.root_shown.children.row tree.shown (tree-runs tree) there)
    ]

-- the links of a node that stands under a number
linked_before : (slots : Slots) (n at : ℕ) (node : ArenaNode) → n ≡ at → slot_at slots at ≡ Some node → (links_of slots).before n ≡ option_map number_of node.before
linked_before slots n at node e here = ap (λ m. link_in (λ node. node.before) (slot_at slots m)) e ∙ ap (link_in (λ node. node.before)) here

linked_parent : (slots : Slots) (n at : ℕ) (node : ArenaNode) → n ≡ at → slot_at slots at ≡ Some node → (links_of slots).parent n ≡ option_map number_of node.parent
linked_parent slots n at node e here = ap (λ m. link_in (λ node. node.parent) (slot_at slots m)) e ∙ ap (link_in (λ node. node.parent)) here

-- to the sibling before
pub record StepBefore {slots : Slots} {root : NodeId} {items : List PlainItem} (tree : IsTree slots root items) (x : NodePlace) (before : NodeId) (from : ℕ) : Type 0 where
  pub live : IsSome (slot_at slots before.0)
  pub climbs : (node : ArenaNode) → slot_at slots before.0 ≡ Some node → (1 ≤ node.len) × Climb tree x before.0 (from + node.len)

numbers_same : (m : ℕ) (n : NodeId) → ◌≡◌ {A = Option ℕ} (Some m) (option_map number_of (Some n)) → m ≡ n.0
numbers_same m n h = cc

pub step_before : {slots : Slots} {root : NodeId} {items : List PlainItem} (tree : IsTree slots root items) (x : NodePlace) (at from : ℕ) (node : ArenaNode) (before : NodeId) →
    Climb tree x at from → slot_at slots at ≡ Some node → node.before ≡ Some before → StepBefore tree x before from
step_before {slots = slots} {root = root} {items = items} tree x at from node before c here is_before = by_place (root_or tree c.place c.listed)
  where
    link : (links_of slots).before c.place.number ≡ option_map number_of (Some before)
    link = linked_before slots c.place.number at node c.number here ∙ ap (option_map number_of) is_before

    suffix : (z : NodePlace) → Contains (node_places root.0 0 tree.named) z → z.number ≡ before.0 → z.to ≡ c.place.from → StepBefore tree x before from
    suffix z d number ends =
        let all : Contains (tree_places tree) z = contains-later _ z (node_places root.0 0 tree.named) d in
        let placed = (listed_above slots tree.named root.0 0 None z tree.root_shown.children.row tree.shown (tree-runs tree) d).placed in
        record {
          live = subst (λ m. IsSome (slot_at slots m)) number (some_len (slot_at slots z.number) placed.len placed.len_is);
          climbs = λ bnode b_here.
              let both : ◌≡◌ {A = Option ℕ} (Some placed.len) (Some bnode.len) =
              sym placed.len_is ∙ ap (λ m. option_map (λ node. node.len) (slot_at slots m)) number ∙ ap (option_map (λ node. node.len)) b_here in
              let same : placed.len ≡ bnode.len = cc in
              (omega (arith, placed.some, same), record { place = z; listed = all; number = number; sum = omega (arith, c.sum, ends, placed.ends, same) });
        }
      where
        some_len : (o : Option ArenaNode) (len : ℕ) → option_map (λ node. node.len) o ≡ Some len → IsSome o
        some_len None len h = absurd (cc)
        some_len (Some node) len h = refl

    by_above : Above slots (node_places root.0 0 tree.named) root.0 0 None c.place → StepBefore tree x before from
    by_above (AtFirst b f q) = let bad : ◌≡◌ {A = Option ℕ} None (Some before.0) = sym b ∙ link in absurd (cc)
    by_above (Following z d b e) = suffix z d (numbers_same z.number before (sym b ∙ link)) e
    by_above (Within z d b q e) = let bad : ◌≡◌ {A = Option ℕ} None (Some before.0) = sym b ∙ link in absurd (cc)

    by_place : IsRootOr tree c.place → StepBefore tree x before from
    by_place (AtRoot number starts) =
        let bad : ◌≡◌ {A = Option ℕ} None (Some before.0) = sym (ap (links_of slots).before number ∙ tree.root_alone.no_before) ∙ link in absurd (cc)
    by_place (InRoot d a) = by_above a.above

-- to the node round it
pub step_parent : {slots : Slots} {root : NodeId} {items : List PlainItem} (tree : IsTree slots root items) (x : NodePlace) (at from : ℕ) (node : ArenaNode) (parent : NodeId) →
    Climb tree x at from → slot_at slots at ≡ Some node → node.before ≡ None → node.parent ≡ Some parent → parent.0 ≢ root.0 → Climb tree x parent.0 (from + 1)
step_parent {slots = slots} {root = root} {items = items} tree x at from node parent c here first is_parent not_root = by_place (root_or tree c.place c.listed)
  where
    link : (links_of slots).before c.place.number ≡ None
    link = linked_before slots c.place.number at node c.number here ∙ ap (option_map number_of) first

    up : (links_of slots).parent c.place.number ≡ option_map number_of (Some parent)
    up = linked_parent slots c.place.number at node c.number here ∙ ap (option_map number_of) is_parent

    parent_is : c.place.parent ≡ option_map number_of (Some parent)
    parent_is = sym (tree_listed tree c.place c.listed).parent_is ∙ up

    by_above : Above slots (node_places root.0 0 tree.named) root.0 0 None c.place → Climb tree x parent.0 (from + 1)
    by_above (AtFirst b f q) = absurd (not_root (sym (numbers_same root.0 parent (sym q ∙ parent_is))))
    by_above (Following z d b e) = let bad : ◌≡◌ {A = Option ℕ} (Some z.number) None = sym b ∙ link in absurd (cc)
    by_above (Within z d b q e) = record {
      place = z;
      listed = contains-later _ z (node_places root.0 0 tree.named) d;
      number = numbers_same z.number parent (sym q ∙ parent_is);
      sum = omega (arith, c.sum, e);
    }

    by_place : IsRootOr tree c.place → Climb tree x parent.0 (from + 1)
    by_place (AtRoot number starts) =
        let bad : ◌≡◌ {A = Option ℕ} None (Some parent.0) = sym (ap (links_of slots).parent number ∙ tree.root_alone.no_parent) ∙ up in absurd (cc)
    by_place (InRoot d a) = by_above a.above

-- at the start of the root, or of what is first in it
pub step_top : {slots : Slots} {root : NodeId} {items : List PlainItem} (tree : IsTree slots root items) (x : NodePlace) (at from : ℕ) (node : ArenaNode) →
    Climb tree x at from → slot_at slots at ≡ Some node → node.before ≡ None → ((parent : NodeId) → node.parent ≡ Some parent → parent.0 ≡ root.0) → from ≡ x.from
step_top {slots = slots} {root = root} {items = items} tree x at from node c here first top = omega (arith, c.sum, by_place (root_or tree c.place c.listed))
  where
    link : (links_of slots).before c.place.number ≡ None
    link = linked_before slots c.place.number at node c.number here ∙ ap (option_map number_of) first

    parent_is : c.place.parent ≡ option_map number_of node.parent
    parent_is = sym (tree_listed tree c.place c.listed).parent_is ∙ linked_parent slots c.place.number at node c.number here

    some_parent : (o : Option NodeId) (m : ℕ) → ◌≡◌ {A = Option ℕ} (Some m) (option_map number_of o) → ((q : NodeId) → o ≡ Some q → q.0 ≡ root.0) → m ≡ root.0
    some_parent None m h k = absurd (cc)
    some_parent (Some q) m h k = numbers_same m q h ∙ k q refl

    not_inside : (z : NodePlace) → Contains (node_places root.0 0 tree.named) z → z.number ≢ root.0
    not_inside z d e =
        let placed = (listed_above slots tree.named root.0 0 None z tree.root_shown.children.row tree.shown (tree-runs tree) d).placed in
        no_parent z.parent placed.in_a_node (sym placed.parent_is ∙ ap (links_of slots).parent e ∙ tree.root_alone.no_parent)
      where
        no_parent : (o : Option ℕ) → IsSome o → o ≡ None → ⊥
        no_parent None some e = let bad : false ≡ true = some in absurd (cc)
        no_parent (Some m) some e = absurd (cc)

    by_above : Above slots (node_places root.0 0 tree.named) root.0 0 None c.place → c.place.from ≡ 0
    by_above (AtFirst b f q) = f
    by_above (Following z d b e) = let bad : ◌≡◌ {A = Option ℕ} (Some z.number) None = sym b ∙ link in absurd (cc)
    by_above (Within z d b q e) = absurd (not_inside z d (some_parent node.parent z.number (sym q ∙ parent_is) top))

    by_place : IsRootOr tree c.place → c.place.from ≡ 0
    by_place (AtRoot number starts) = starts
    by_place (InRoot d a) = by_above a.above

-- the items passed are items of the list
pub climb_within : {slots : Slots} {root : NodeId} {items : List PlainItem} (tree : IsTree slots root items) (x : NodePlace) (at from : ℕ) → Contains (tree_places tree) x →
    Climb tree x at from → from ≤ length items
climb_within tree x at from listed c =
    let own = tree_listed tree x listed in
    omega (arith, c.sum, own.below_end, own.ends)

-- every node of a tree is there
pub listed_live : {slots : Slots} {root : NodeId} {items : List PlainItem} (tree : IsTree slots root items) (y : NodePlace) (n : NodeId) → Contains (tree_places tree) y → y.number ≡ n.0 →
    IsSome (slot_at slots n.0)
listed_live {slots = slots} tree y n c number = subst (λ m. IsSome (slot_at slots m)) number (by_slot (slot_at slots y.number) (tree_listed tree y c).sort_is)
  where
    by_slot : (o : Option ArenaNode) → option_map (λ node. node.what) o ≡ Some y.sort → IsSome o
    by_slot None h = absurd (cc)
    by_slot (Some node) h = refl

-- A walk to the left and up from x. It is at the node under a number, and `left` of the list's
-- items are left when those before x are passed.
pub record Left {slots : Slots} {root : NodeId} {items : List PlainItem} (tree : IsTree slots root items) (x : NodePlace) (at all left : ℕ) : Type 0 where
  pub climb : Climb tree x at (all - left)
  pub within : left ≤ all

-- one step to the left, with the premises of the subtraction
pub record LeftBefore {slots : Slots} {root : NodeId} {items : List PlainItem} (tree : IsTree slots root items) (x : NodePlace) (at all left len : ℕ) : Type 0 where
  pub some : 1 ≤ len
  pub enough : len ≤ left
  pub next : Left tree x at all (left - len)

pub left_before : {slots : Slots} {root : NodeId} {items : List PlainItem} (tree : IsTree slots root items) (x : NodePlace) (at all left : ℕ) (node bnode : ArenaNode) (before : NodeId) →
    Contains (tree_places tree) x → all ≡ length items → Left tree x at all left → slot_at slots at ≡ Some node → node.before ≡ Some before → slot_at slots before.0 ≡ Some bnode →
    LeftBefore tree x before.0 all left bnode.len
left_before tree x at all left node bnode before listed whole l here is_before b_here =
    let step = (step_before tree x at (all - left) node before l.climb here is_before).climbs bnode b_here in
    let enough : bnode.len ≤ left = omega (arith, climb_within tree x before.0 ((all - left) + bnode.len) listed step.1, whole, l.within) in
    let sum : (all - left) + bnode.len ≡ all - (left - bnode.len) = omega (arith, enough, l.within) in
    record { some = step.0; enough = enough; next = record { climb = subst (Climb tree x before.0) sum step.1; within = omega (arith, l.within) } }

pub left_parent : {slots : Slots} {root : NodeId} {items : List PlainItem} (tree : IsTree slots root items) (x : NodePlace) (at all left : ℕ) (node : ArenaNode) (parent : NodeId) →
    Contains (tree_places tree) x → all ≡ length items → Left tree x at all left → slot_at slots at ≡ Some node → node.before ≡ None → node.parent ≡ Some parent → parent.0 ≢ root.0 →
    LeftBefore tree x parent.0 all left 1
left_parent tree x at all left node parent listed whole l here first is_parent not_root =
    let step = step_parent tree x at (all - left) node parent l.climb here first is_parent not_root in
    let enough : 1 ≤ left = omega (arith, climb_within tree x parent.0 ((all - left) + 1) listed step, whole, l.within) in
    let sum : (all - left) + 1 ≡ all - (left - 1) = omega (arith, enough, l.within) in
    record { some = omega arith; enough = enough; next = record { climb = subst (Climb tree x parent.0) sum step; within = omega (arith, l.within) } }

-- the walk has come to the list's start
pub record LeftTop {slots : Slots} {root : NodeId} {items : List PlainItem} (tree : IsTree slots root items) (x : NodePlace) (all left len : ℕ) : Type 0 where
  pub range : ◌≡◌ {A = ℕ × ℕ} (all - left, all - left + len) (x.from, x.to)
  pub within : all - left + len ≤ all

pub left_top : {slots : Slots} {root : NodeId} {items : List PlainItem} (tree : IsTree slots root items) (x : NodePlace) (at all left : ℕ) (node own : ArenaNode) (n : NodeId) →
    Contains (tree_places tree) x → x.number ≡ n.0 → slot_at slots n.0 ≡ Some own → all ≡ length items → Left tree x at all left → slot_at slots at ≡ Some node → node.before ≡ None →
    ((parent : NodeId) → node.parent ≡ Some parent → parent.0 ≡ root.0) → LeftTop tree x all left own.len
left_top tree x at all left node own n listed number own_here whole l here first top =
    let from = step_top tree x at (all - left) node l.climb here first top in
    let to : all - left + own.len ≡ x.to = ap (λ m. m + own.len) from ∙ len_under tree x n own listed number own_here in
    record { range = λ i. (from i, to i); within = omega (arith, to, (tree_listed tree x listed).below_end, whole) }

-- the root's length is the list's
pub root_whole : {slots : Slots} {root : NodeId} {items : List PlainItem} → IsTree slots root items → (node : ArenaNode) → slot_at slots root.0 ≡ Some node → node.len ≡ length items
root_whole {slots = slots} {root = root} {items = items} tree node here =
    let both : ◌≡◌ {A = Option ℕ} (Some node.len) (Some (length items)) = sym (ap (option_map (λ node. node.len)) here) ∙ tree.root_shown.len_is in cc
