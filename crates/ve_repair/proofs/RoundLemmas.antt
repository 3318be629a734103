-- From a node up to the root by its links: the nodes that are open round a position.
use Rattle.std.proofs.Common.{Result, Ok, Err, OnOk, ◌≡◌, ◌≤◌, ◌<◌, ◌+◌, ◌-◌, ℕ, suc, Option, Some, None, List, [], ◌∷◌, length, map, Contains, option_map, refl, sym, ap, ◌∙◌, subst, arith}
use Rattle.model_items.specs.declared.plain_item.PlainItem.{PlainItem}
use Rattle.model_items.specs.Tree.{item_count}
use Rattle.ve_arena.specs.declared.node.NodeId.{NodeId}
use Rattle.ve_arena.specs.declared.node.ArenaNode.{ArenaNode}
use Rattle.ve_arena.specs.Arena.{slot_at}
use Rattle.ve_tree.specs.Links.{number_of, link_in, links_of}
use Rattle.ve_tree.specs.Named.{Named, NoNode, NamedRun, NamedBranch, unnumbered, heads}
use Rattle.ve_tree.specs.IsTree.{IsTree}
use Rattle.ve_tree.specs.Places.{NodePlace, node_places, tree_places, OfItsPlace}
use Rattle.ve_tree.specs.Rows.{beside, Round, within, parent_in}
use Rattle.ve_repair.specs.Labels.{len_in}
use Rattle.ve_tree.proofs.WalkLemmas.{contains-here}
use Rattle.ve_tree.proofs.ClimbLemmas.{parent_under, len_under, tree_listed}
use Rattle.ve_tree.proofs.NearLemmas.{listed}
use Rattle.ve_tree.proofs.RowLemmas.{count-beside}
use Rattle.ve_repair.specs.declared.start.Edge.{Edge}
use Rattle.ve_repair.specs.Plan.{Stacks, begun_stacks}
use Rattle.ve_repair.specs.Sizing.{Sizing, with_level, started}
use Rattle.ve_repair.specs.Lengths.{begun_of}
use Rattle.ve_repair.specs.Start.{OldRound, NewRound, IsEdgeOf, StartsRange, AreOpen, OpensRound}
use Rattle.ve_repair.proofs.CursorLemmas.{Slots, framed_at}
use Rattle.ve_repair.proofs.InRoundsLemmas.{BeginsWith, Stands, stands, place_of, round_listed, siblings_at}
use Rattle.ve_repair.proofs.SpotLemmas.{under_root}

-- how much longer than a node the one round it may be; less for that one
abbrev room_by : Option NodeId → ℕ → ℕ
room_by None room = 0
room_by (Some parent) room = suc room

abbrev room_in : ℕ → Option ArenaNode → ℕ
room_in all None = 0
room_in all (Some node) = room_by node.parent (all - node.len)

abbrev pub room_round : Slots → ℕ → ℕ → ℕ
room_round slots root n = room_in (len_in (slot_at slots root)) (slot_at slots n)

long_first : (row : Named) (y : NodePlace) → BeginsWith row y → y.to ≤ y.from + item_count (unnumbered row)
long_first NoNode y first = absurd first
long_first (NamedRun n count later) y first = omega (arith, first.2)
long_first (NamedBranch n kind inside later) y first = omega (arith, first.2)

-- a node is shorter than the one round it, unless that is the root
shorter : {slots : Slots} {root : NodeId} {items : List PlainItem} (tree : IsTree slots root items) (y : NodePlace) (n p : NodeId) (node above : ArenaNode) → Contains (tree_places tree) y → y.number ≡ n.0 →
    slot_at slots n.0 ≡ Some node → node.parent ≡ Some p → slot_at slots p.0 ≡ Some above → (q : NodeId) → above.parent ≡ Some q → (node.len < above.len) × (above.len ≤ length items)
shorter {slots = slots} {root = root} {items = items} tree y n p node above c number here up there q higher = by_round s.round s.whole s.parent_is
  where
    parent_is : y.parent ≡ Some p.0
    parent_is = parent_under tree y n node c number here ∙ ap (option_map number_of) up

    s : Stands root.0 tree.named y
    s = stands root.0 tree.named y (under_root tree y p.0 parent_is c)

    by_round : (rs : List Round) → tree.named ≡ within rs (beside s.done s.row) → y.parent ≡ Some (parent_in root.0 rs) → (node.len < above.len) × (above.len ≤ length items)
    by_round [] whole is =
        let both : ◌≡◌ {A = Option ℕ} (Some p.0) (Some root.0) = sym parent_is ∙ is in
        let same : p.0 ≡ root.0 = cc in
        let top : option_map number_of above.parent ≡ None = sym (ap (link_in (λ node. node.parent)) there) ∙ ap (links_of slots).parent same ∙ tree.root_alone.no_parent in
        let bad : ◌≡◌ {A = Option ℕ} (Some q.0) None = sym (ap (option_map number_of) higher) ∙ top in
        absurd (cc)
    by_round (r ∷ rs) whole is =
        let both : ◌≡◌ {A = Option ℕ} (Some p.0) (Some r.number) = sym parent_is ∙ is in
        let same : r.number ≡ p.0 = cc in
        let z = place_of root.0 r rs (beside s.done s.row) in
        let z_listed : Contains (tree_places tree) z = listed tree z (subst (λ f. Contains (node_places root.0 0 f) z) (sym whole) (round_listed root.0 r rs (beside s.done s.row))) in
        let own = len_under tree y n node c number here in
        let long = len_under tree z p above z_listed same there in
        let first = long_first s.row y s.first_is in
        let below = (tree_listed tree z z_listed).below_end in
        (omega (arith, own, long, first, count-beside s.done s.row), omega (arith, below, long))

pub room_less : {slots : Slots} {root : NodeId} {items : List PlainItem} (tree : IsTree slots root items) (y : NodePlace) (n p : NodeId) (node : ArenaNode) → Contains (tree_places tree) y → y.number ≡ n.0 →
    slot_at slots n.0 ≡ Some node → node.parent ≡ Some p → room_round slots root.0 p.0 < room_round slots root.0 n.0
room_less {slots = slots} {root = root} {items = items} tree y n p node c number here up = by_above (slot_at slots p.0) refl
  where
    whole : len_in (slot_at slots root.0) ≡ length items
    whole = by_slot (slot_at slots root.0) tree.root_shown.len_is
      where
        by_slot : (o : Option ArenaNode) → option_map (λ (node : ArenaNode). node.len) o ≡ Some (length items) → len_in o ≡ length items
        by_slot None e = absurd (cc)
        by_slot (Some node) e = cc

    from_here : (room : ℕ) → room < suc (len_in (slot_at slots root.0) - node.len) → room < room_round slots root.0 n.0
    from_here room lt =
        subst (λ o. room < room_in (len_in (slot_at slots root.0)) o) (sym here) (subst (λ l. room < room_by l (len_in (slot_at slots root.0) - node.len)) (sym up) lt)

    by_link : (above : ArenaNode) → slot_at slots p.0 ≡ Some above → (o : Option NodeId) → above.parent ≡ o → room_by o (len_in (slot_at slots root.0) - above.len) < suc (len_in (slot_at slots root.0) - node.len)
    by_link above there None top = omega arith
    by_link above there (Some q) higher = let s = shorter tree y n p node above c number here up there q higher in omega (arith, s.0, s.1, whole)

    by_above : (o : Option ArenaNode) → slot_at slots p.0 ≡ o → room_in (len_in (slot_at slots root.0)) o < room_round slots root.0 n.0
    by_above None there = from_here 0 (omega arith)
    by_above (Some above) there = from_here _ (by_link above there above.parent refl)

-- where the links lead from a node that others stand in: up from all but the root
up_from : {slots : Slots} {root : NodeId} {items : List PlainItem} (tree : IsTree slots root items) (n : NodeId) (node : ArenaNode) (r : Round) (rs : List Round) (x : Named) → slot_at slots n.0 ≡ Some node →
    tree.named ≡ within (r ∷ rs) x → n.0 ≡ r.number → option_map number_of node.parent ≡ Some (parent_in root.0 rs)
up_from {slots = slots} {root = root} tree n node r rs x here whole number =
    let row = NamedBranch r.number r.kind x r.after in
    let f = framed_at tree rs (beside r.before row) whole in
    sym (ap (link_in (λ node. node.parent)) here) ∙ ap (links_of slots).parent number ∙ (siblings_at slots root.0 rs r.before row r.number (heads r.after) f refl).0

no_way_up : {slots : Slots} {root : NodeId} {items : List PlainItem} (tree : IsTree slots root items) (n : NodeId) (node : ArenaNode) → slot_at slots n.0 ≡ Some node → n.0 ≡ root.0 → option_map number_of node.parent ≡ None
no_way_up {slots = slots} tree n node here number = sym (ap (link_in (λ node. node.parent)) here) ∙ ap (links_of slots).parent number ∙ tree.root_alone.no_parent

-- what was found of a node is so of its position
from_of : {slots : Slots} {root : NodeId} {items : List PlainItem} (tree : IsTree slots root items) (n : NodeId) (range : ℕ × ℕ) (y : NodePlace) → OfItsPlace slots root n (λ place. ◌≡◌ {A = ℕ × ℕ} range (place.from, place.to)) →
    Contains (tree_places tree) y → y.number ≡ n.0 → range.0 ≡ y.from
from_of {items = items} tree n range y found c number = ap (λ (q : ℕ × ℕ). q.0) (found items tree y c number)

-- the node is begun where nothing is open, or inside those round it
pub begun_root : {slots : Slots} {root : NodeId} (n : NodeId) (last : Option NodeId) (node : ArenaNode) (range : ℕ × ℕ) (s0 s1 : Stacks) (z0 z1 : Sizing) → slot_at slots n.0 ≡ Some node → node.parent ≡ None →
    OfItsPlace slots root n (λ place. ◌≡◌ {A = ℕ × ℕ} range (place.from, place.to)) → s0.old ≡ [] → s0.new ≡ [] → z0.old_open ≡ [] → z0.new_open ≡ [] →
    s1 ≡ begun_stacks (record { node = n; last = last }) s0 → z1 ≡ with_level (record { node = n; from = range.0 }) z0 → OpensRound slots root n last s1 z1
begun_root {slots = slots} {root = root} n last node range s0 s1 z0 z1 here none found old new old_open new_open stacks sizes items tree rs x whole number = by_round rs whole number
  where
    by_round : (rs : List Round) → tree.named ≡ within rs x → n.0 ≡ parent_in root.0 rs → AreOpen root.0 rs (option_map number_of last) s1 z1
    by_round [] whole number =
        let from : range.0 ≡ 0 = from_of tree n range _ found (contains-here _ _) (sym number) in record {
          old = subst (OldRound root.0 []) (sym (ap (λ (s : Stacks). s.old) stacks ∙ ap (λ l. n ∷ l) old)) number;
          new = subst (NewRound root.0 [] (option_map number_of last)) (sym (ap (λ (s : Stacks). s.new) stacks ∙ ap (λ l. record { node = n; last = last } ∷ l) new)) (number, refl);
          old_open = ap (λ (z : Sizing). map begun_of z.old_open) sizes ∙ (λ i. record { node = number i; from = from i } ∷ map begun_of (old_open i));
          new_open = ap (λ (z : Sizing). map begun_of z.new_open) sizes ∙ (λ i. record { node = number i; from = from i } ∷ map begun_of (new_open i));
        }
    by_round (r ∷ rs) whole number =
        let up = up_from tree n node r rs x here whole number in
        let bad : ◌≡◌ {A = Option ℕ} None (Some (parent_in root.0 rs)) = sym (ap (option_map number_of) none) ∙ up in absurd (cc)

pub begun_inside : {slots : Slots} {root : NodeId} (n p : NodeId) (last : Option NodeId) (node : ArenaNode) (range : ℕ × ℕ) (s1 s2 : Stacks) (z1 z2 : Sizing) → slot_at slots n.0 ≡ Some node → node.parent ≡ Some p →
    OfItsPlace slots root n (λ place. ◌≡◌ {A = ℕ × ℕ} range (place.from, place.to)) → OpensRound slots root p (Some n) s1 z1 →
    s2 ≡ begun_stacks (record { node = n; last = last }) s1 → z2 ≡ with_level (record { node = n; from = range.0 }) z1 → OpensRound slots root n last s2 z2
begun_inside {slots = slots} {root = root} n p last node range s1 s2 z1 z2 here is found outer stacks sizes items tree rs x whole number = by_round rs whole number
  where
    by_round : (rs : List Round) → tree.named ≡ within rs x → n.0 ≡ parent_in root.0 rs → AreOpen root.0 rs (option_map number_of last) s2 z2
    by_round [] whole number =
        let bad : ◌≡◌ {A = Option ℕ} (Some p.0) None = sym (ap (option_map number_of) is) ∙ no_way_up tree n node here number in absurd (cc)
    by_round (r ∷ rs) whole number =
        let both : ◌≡◌ {A = Option ℕ} (Some p.0) (Some (parent_in root.0 rs)) = sym (ap (option_map number_of) is) ∙ up_from tree n node r rs x here whole number in
        let o = outer items tree rs (beside r.before (NamedBranch r.number r.kind x r.after)) whole cc in
        let z = place_of root.0 r rs x in
        let from : range.0 ≡ z.from =
        from_of tree n range z found (listed tree z (subst (λ f. Contains (node_places root.0 0 f) z) (sym whole) (round_listed root.0 r rs x))) (sym number) in
        record {
          old = subst (OldRound root.0 (r ∷ rs)) (sym (ap (λ (s : Stacks). s.old) stacks)) (number, o.old);
          new = subst (NewRound root.0 (r ∷ rs) (option_map number_of last)) (sym (ap (λ (s : Stacks). s.new) stacks)) ((number, refl), subst (λ m. NewRound root.0 rs (Some m) s1.new) number o.new);
          old_open = ap (λ (z : Sizing). map begun_of z.old_open) sizes ∙ (λ i. record { node = number i; from = from i } ∷ o.old_open i);
          new_open = ap (λ (z : Sizing). map begun_of z.new_open) sizes ∙ (λ i. record { node = number i; from = from i } ∷ o.new_open i);
        }

-- what the calls answer, together
pub both_ok : {A : Type 0} {E : Type 0} (r : Result A E) (P Q S : Type 0) → OnOk r P → OnOk r Q → (P → Q → S) → OnOk r S
both_ok (Ok a) P Q S p q go = go p q
both_ok (Err e) P Q S p q go = tt

-- the range begins at the position, with these nodes open
pub starts : {slots : Slots} {root : NodeId} (x : ℕ) (edge : Edge) (stacks : Stacks) (z0 z1 : Sizing) → IsEdgeOf slots root x edge → OpensRound slots root edge.node edge.last stacks z0 → z1 ≡ started edge.place z0 →
    StartsRange slots root x (record { parent = edge.node; next = edge.next; place = edge.place }) stacks z1
starts {root = root} x edge stacks z0 z1 is open_ sizes items tree within_ =
    let e = is items tree in
    let b = e.between in
    let o = open_ items tree b.place.round (beside b.place.done b.place.row) b.whole b.at.parent_is in
    record {
      place = b.place;
      whole = b.whole;
      at = record { parent_is = b.at.parent_is; next_is = b.at.next_is };
      offset = b.offset;
      near = e.near;
      left_whole = e.left_whole;
      old = o.old;
      new = subst (λ last. NewRound root.0 b.place.round last stacks.new) b.last_is o.new;
      old_open = ap (λ (z : Sizing). map begun_of z.old_open) sizes ∙ o.old_open;
      new_open = ap (λ (z : Sizing). map begun_of z.new_open) sizes ∙ o.new_open;
      old_at = ap (λ (z : Sizing). z.old_at) sizes;
      new_at = ap (λ (z : Sizing). z.new_at) sizes;
    }
