-- The spot of an offset as a position between two siblings, or in a text.
use Rattle.std.proofs.Common.{◌≡◌, ◌≤◌, ◌<◌, ◌+◌, ◌-◌, ◌⊎◌, inl, inr, ℕ, zero, suc, Option, Some, None, List, [], ◌∷◌, length, Contains, option_map, refl, sym, ap, ◌∙◌, subst, arith}
use Rattle.ve_kinds.specs.declared.kind.Kind.{Kind}
use Rattle.ve_kinds.specs.declared.kind.Kind.TheVariants.{Root}
use Rattle.model_items.specs.declared.plain_item.PlainItem.{PlainItem}
use Rattle.model_items.specs.Tree.{item_count, node_at}
use Rattle.ve_arena.specs.declared.node.NodeId.{NodeId}
use Rattle.ve_arena.specs.declared.node.NodeWhat.{NodeWhat}
use Rattle.ve_arena.specs.declared.node.NodeWhat.TheVariants as what
use Rattle.ve_arena.specs.declared.node.ArenaNode.{ArenaNode}
use Rattle.ve_arena.specs.Arena.{slot_at, IsLive}
use Rattle.ve_tree.specs.declared.lookup.Spot.{Spot}
use Rattle.ve_tree.specs.Links.{number_of, link_in, links_of}
use Rattle.ve_tree.specs.Named.{Named, NoNode, NamedRun, NamedBranch, unnumbered}
use Rattle.ve_tree.specs.IsTree.{IsTree}
use Rattle.ve_tree.specs.Places.{NodePlace, node_places, tree_places}
use Rattle.ve_tree.specs.Rows.{beside, Round, within, parent_in, start_in}
use Rattle.ve_tree.specs.Spots.{IsChildThere, closing_length, IsAtEnd, IsNext, IsSpot}
use Rattle.ve_tree.proofs.RowLemmas.{beside-nothing}
use Rattle.ve_tree.proofs.WalkLemmas.{all_items}
use Rattle.ve_tree.proofs.ClimbLemmas.{contains_cases, tree_listed}
use Rattle.ve_repair.specs.declared.start.Edge.{Edge}
use Rattle.ve_repair.specs.Start.{IsBetween, IsEdge}
use Rattle.ve_repair.proofs.CursorLemmas.{Slots, framed_at, no_text_last}
use Rattle.ve_repair.proofs.InRoundsLemmas.{BeginsWith, Stands, stands, FirstNode, first_node, first_live}
use Rattle.ve_repair.proofs.StartLemmas.{reaches, no_text_before, next_number}

-- the child at an offset
record Child (f : Named) (root x : ℕ) (spot : Spot) (child : NodeId) : Type 0 where
  y : NodePlace
  stands : Stands root f y
  number_is : y.number ≡ child.0
  parent_is : spot.node.0 ≡ parent_in root stands.round
  begins : y.from + spot.left ≡ x
  reach : x < y.to
  inside : 0 < spot.left → y.sort ≡ what.Run

-- a node with a parent is not the root
pub under_root : {slots : Slots} {root : NodeId} {items : List PlainItem} (tree : IsTree slots root items) (y : NodePlace) (p : ℕ) → y.parent ≡ Some p → Contains (tree_places tree) y → Contains (node_places root.0 0 tree.named) y
under_root {root = root} tree y p above c = elim (contains_cases _ y (node_places root.0 0 tree.named) c) [
  | inl same ↦ let bad : ◌≡◌ {A = Option ℕ} None (Some p) = ap (λ (z : NodePlace). z.parent) same ∙ above in absurd (cc)
  | inr there ↦ there
]

child_at : {slots : Slots} {root : NodeId} {items : List PlainItem} (tree : IsTree slots root items) (x : ℕ) (spot : Spot) (child : NodeId) → IsSpot tree x spot → spot.next ≡ Some child → Child tree.named root.0 x spot child
child_at {root = root} tree x spot child is next =
    let c : IsChildThere tree x spot.node child spot.left = subst (λ o. IsNext tree x spot.node o spot.left) next is.next in
    let y : NodePlace = record { number = child.0; parent = Some spot.node.0; sort = c.sort; from = c.from; to = c.to } in
    let s = stands root.0 tree.named y (under_root tree y spot.node.0 refl c.listed) in
    let above : ◌≡◌ {A = Option ℕ} (Some spot.node.0) (Some (parent_in root.0 s.round)) = s.parent_is in
    record { y = y; stands = s; number_is = refl; parent_is = cc; begins = c.begins; reach = c.ends; inside = c.inside }

-- the position in front of it, or of what comes before the offset of a text
abbrev pub edge_of : Spot → ArenaNode → ℕ → Edge
edge_of spot node place = record { node = spot.node; last = node.before; next = spot.next; place = place }

child_between : {slots : Slots} {root : NodeId} {items : List PlainItem} (tree : IsTree slots root items) (x : ℕ) (spot : Spot) (child : NodeId) (node : ArenaNode) (place : ℕ) (c : Child tree.named root.0 x spot child) →
    spot.next ≡ Some child → FirstNode node c.y c.stands.done → c.y.from ≡ place → IsBetween tree.named root.0 (edge_of spot node place)
child_between tree x spot child node place c next n from = record {
  place = record { round = c.stands.round; done = c.stands.done; row = c.stands.row };
  whole = c.stands.whole;
  at = record { parent_is = c.parent_is; next_is = ap (option_map number_of) next ∙ next_number c.stands.row c.y child c.stands.first_is c.number_is };
  last_is = n.before_is;
  offset = sym from ∙ c.stands.from_is;
}

child_node : {slots : Slots} {root : NodeId} {items : List PlainItem} (tree : IsTree slots root items) (x : ℕ) (spot : Spot) (child : NodeId) (node : ArenaNode) (c : Child tree.named root.0 x spot child) →
    slot_at slots child.0 ≡ Some node → FirstNode node c.y c.stands.done
child_node {slots = slots} {root = root} tree x spot child node c here =
    let s = c.stands in first_node slots root.0 s.round s.done s.row c.y child node (framed_at tree s.round (beside s.done s.row) s.whole) s.first_is c.number_is here

pub left_within : {slots : Slots} {root : NodeId} {items : List PlainItem} (tree : IsTree slots root items) (x : ℕ) (spot : Spot) (child : NodeId) → IsSpot tree x spot → spot.next ≡ Some child → spot.left ≤ x
left_within tree x spot child is next = let c = child_at tree x spot child is next in let begins = c.begins in omega (arith, begins)

-- in a text
pub at_text : {slots : Slots} {root : NodeId} {items : List PlainItem} (tree : IsTree slots root items) (x : ℕ) (spot : Spot) (child : NodeId) (node : ArenaNode) → IsSpot tree x spot → spot.next ≡ Some child →
    slot_at slots child.0 ≡ Some node → node.what ≡ what.Run → IsEdge tree.named root.0 x (edge_of spot node (x - spot.left))
unfolding child_between
at_text tree x spot child node is next here sort =
    let c = child_at tree x spot child is next in
    let s = c.stands in
    let n = child_node tree x spot child node c here in
    let run = sym n.sort_is ∙ sort in
    let begins = c.begins in
    let reach = c.reach in
    record {
      between = child_between tree x spot child node (x - spot.left) c next n (omega (arith, begins));
      near = inr (spot.left, omega (arith, begins), reaches s.row c.y spot.left s.first_is run (omega (arith, begins, reach)));
      left_whole = no_text_last s.round s.done (no_text_before tree s.round s.done s.row c.y s.whole s.first_is run);
    }

-- in front of a node of a kind
pub at_node : {slots : Slots} {root : NodeId} {items : List PlainItem} (tree : IsTree slots root items) (x : ℕ) (spot : Spot) (child : NodeId) (node : ArenaNode) (kind : Kind) → IsSpot tree x spot → spot.next ≡ Some child →
    slot_at slots child.0 ≡ Some node → node.what ≡ what.Node kind → IsBetween tree.named root.0 (edge_of spot node x)
at_node {root = root} tree x spot child node kind is next here sort =
    let c = child_at tree x spot child is next in
    let n = child_node tree x spot child node c here in
    child_between tree x spot child node x c next n (at_start c n spot.left refl)
  where
    at_start : (c : Child tree.named root.0 x spot child) → FirstNode node c.y c.stands.done → (left : ℕ) → spot.left ≡ left → c.y.from ≡ x
    at_start c n zero none = let begins = c.begins in omega (arith, begins, none)
    at_start c n (suc left) some =
        let run = c.inside (omega (arith, some)) in let bad : what.Node kind ≡ what.Run = sym sort ∙ n.sort_is ∙ run in absurd (cc)

-- at the end of what is inside a node
abbrev pub end_of : Spot → ArenaNode → ℕ → Edge
end_of spot node place = record { node = spot.node; last = node.last; next = None; place = place }

end_between : {slots : Slots} {root : NodeId} {items : List PlainItem} (tree : IsTree slots root items) (x : ℕ) (spot : Spot) (node : ArenaNode) (rs : List Round) (kids : Named) → tree.named ≡ within rs kids →
    spot.node.0 ≡ parent_in root.0 rs → slot_at slots spot.node.0 ≡ Some node → x ≡ start_in rs + item_count (unnumbered kids) → IsBetween tree.named root.0 (end_of spot node x)
end_between {slots = slots} {root = root} tree x spot node rs kids whole parent here sum =
    let f = framed_at tree rs kids whole in
    record {
      place = record { round = rs; done = kids; row = NoNode };
      whole = whole ∙ ap (within rs) (sym (beside-nothing kids));
      at = record { parent_is = parent; next_is = refl };
      last_is = sym (ap (link_in (λ node. node.last)) here) ∙ ap (links_of slots).last parent ∙ f.inner.children.last;
      offset = sum;
    }

end_inside : {slots : Slots} {root : NodeId} {items : List PlainItem} (tree : IsTree slots root items) (x : ℕ) (spot : Spot) (node : ArenaNode) (kind : Kind) (y : NodePlace) → slot_at slots spot.node.0 ≡ Some node →
    Stands root.0 tree.named y → y.number ≡ spot.node.0 → y.sort ≡ what.Node kind → x + 1 ≡ y.to → IsBetween tree.named root.0 (end_of spot node x)
end_inside {root = root} tree x spot node kind y here s number sort end = by_row s.row s.whole s.first_is
  where
    by_row : (row : Named) → tree.named ≡ within s.round (beside s.done row) → BeginsWith row y → IsBetween tree.named root.0 (end_of spot node x)
    by_row NoNode whole first = absurd first
    by_row (NamedRun n count later) whole first = let bad : what.Node kind ≡ what.Run = sym sort ∙ first.1 in absurd (cc)
    by_row (NamedBranch n k inside later) whole first =
        end_between tree x spot node (record { number = n; kind = k; before = s.done; after = later } ∷ s.round) inside whole (sym number ∙ first.0) here (omega (arith, end, s.from_is, first.2))

pub at_end : {slots : Slots} {root : NodeId} {items : List PlainItem} (tree : IsTree slots root items) (x : ℕ) (spot : Spot) (node : ArenaNode) → IsSpot tree x spot → spot.next ≡ None → slot_at slots spot.node.0 ≡ Some node →
    IsBetween tree.named root.0 (end_of spot node x)
at_end {slots = slots} {root = root} {items = items} tree x spot node is next here = go (contains_cases _ y (node_places root.0 0 tree.named) e.listed)
  where
    e : IsAtEnd tree x spot.node
    e = (subst (λ o. IsNext tree x spot.node o spot.left) next is.next).0

    y : NodePlace
    y = record { number = spot.node.0; parent = e.parent; sort = e.sort; from = e.from; to = e.to }

    sort_is : y.sort ≡ what.Node (node_at items x).kind
    sort_is =
        let both : ◌≡◌ {A = Option NodeWhat} (Some e.sort) (Some (what.Node (node_at items x).kind)) = sym (tree_listed tree y e.listed).sort_is ∙ (tree_listed tree _ is.node.listed).sort_is in
        cc

    go : (◌≡◌ {A = NodePlace} (record { number = root.0; parent = None; sort = what.Node Root; from = 0; to = length items }) y) ⊎ Contains (node_places root.0 0 tree.named) y →
        IsBetween tree.named root.0 (end_of spot node x)
    go (inl same) =
        let above : ◌≡◌ {A = Option ℕ} None e.parent = ap (λ (z : NodePlace). z.parent) same in
        let to : length items ≡ e.to = ap (λ (z : NodePlace). z.to) same in
        let ends : x + 0 ≡ e.to = ap (λ p. x + closing_length p) above ∙ e.ends in
        end_between tree x spot node [] tree.named refl (sym (ap (λ (z : NodePlace). z.number) same)) here (omega (arith, ends, to, all_items tree))
    go (inr there) =
        let s = stands root.0 tree.named y there in
        let ends : x + 1 ≡ e.to = ap (λ p. x + closing_length p) (sym s.parent_is) ∙ e.ends in
        end_inside tree x spot node (node_at items x).kind y here s refl sort_is ends

pub child_live : {slots : Slots} {root : NodeId} {items : List PlainItem} (tree : IsTree slots root items) (x : ℕ) (spot : Spot) (child : NodeId) → IsSpot tree x spot → spot.next ≡ Some child → IsLive slots child
child_live {slots = slots} {root = root} tree x spot child is next =
    let c = child_at tree x spot child is next in
    let s = c.stands in
    first_live slots root.0 s.round s.done s.row c.y child (framed_at tree s.round (beside s.done s.row) s.whole) s.first_is c.number_is
