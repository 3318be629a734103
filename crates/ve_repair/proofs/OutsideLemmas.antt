-- Nodes outside of what a transaction changes stand where they should.
use Rattle.std.proofs.Common.{◌≡◌, ℕ, zero, suc, ◌+◌, ◌-◌, ◌<◌, true, nat_lt, ◌&&◌, Option, Some, None, option_map, List, [], ◌∷◌, length, map, slice_get, refl, sym, ap, ◌∙◌, subst, inl, inr, arith, Contains}
use Rattle.std.proofs.lemmas.Bool.{lt-ltb, le-leb}
use Rattle.std.proofs.lemmas.List.{length-map}
use Rattle.std.proofs.lemmas.Option.{same_Some, none-some, slice_get-map}
use Rattle.ve_base.specs.declared.value.Value.{Value}
use Rattle.model_items.specs.declared.item.Item.{Item}
use Rattle.model_items.specs.declared.plain_item.PlainItem.{PlainItem}
use Rattle.model_items.specs.Plain.{plain, plain_list}
use Rattle.model_items.specs.Tree.{Shape, shape_of, shapes, HasWholeRuns}
use Rattle.model_items.proofs.TreeLemmas.{tree_spells}
use Rattle.model_items.proofs.OnlyLemmas.{tree_has_whole_runs}
use Rattle.model_change.specs.Transaction.{Transaction, edited}
use Rattle.model_change.specs.Inverse.{inverse}
use Rattle.model_change.specs.Touch.{new_place, or_next, first_retained, lies_in}
use Rattle.model_change.proofs.TouchLemmas.{retained_stays}
use Rattle.ve_arena.specs.declared.node.NodeId.{NodeId}
use Rattle.ve_arena.specs.declared.node.NodeWhat.{NodeWhat}
use Rattle.ve_arena.specs.declared.node.NodeWhat.TheVariants as what
use Rattle.ve_tree.specs.Named.{unnumbered}
use Rattle.ve_tree.specs.IsTree.{IsTree}
use Rattle.ve_tree.specs.Landmarks.{IsAt}
use Rattle.ve_tree.specs.Places.{NodePlace, node_places}
use Rattle.ve_tree.proofs.WalkLemmas.{Slots, contains-here, contains-later}
use Rattle.ve_tree.proofs.ClimbLemmas.{contains_cases}
use Rattle.ve_tree.proofs.PlaceLemmas.{none_placed}
use Rattle.ve_tree.proofs.ReadsLemmas.{one_numbering}
use Rattle.ve_tx.specs.Operation.{Operation, by_value}
use Rattle.ve_repair.specs.Change.{new_list}
use Rattle.ve_repair.specs.Kept.{Match, KeepsNumbers}
use Rattle.ve_repair.specs.Outside.{Spares, NodesStand}
use Rattle.ve_repair.proofs.BeginningLemmas.{begun, begun_at, begun_within, IsBegun, place_begins, StartsThere, node_begins}

-- an item is retained with the one before it, or both lists begin with it
abbrev Beside : Transaction → ℕ → ℕ → Type 0
Beside t zero zero = new_place t 0 ≡ Some 0
Beside t (suc at) (suc to) = (new_place t at ≡ Some to) × (new_place t (suc at) ≡ Some (suc to))
Beside t _ _ = ⊥

retained : (t : Transaction) (at to : ℕ) → Beside t at to → new_place t at ≡ Some to
retained t zero zero b = b
retained t zero (suc to) b = absurd b
retained t (suc at) zero b = absurd b
retained t (suc at) (suc to) b = b.1

beside_before : (t : Transaction) (from to len count at : ℕ) → Spares t from to len count → at < from → Beside t at at
beside_before t from to len count zero s h = s.before 0 h
beside_before t from to len count (suc at) s h = (s.before at (omega (arith, h)), s.before (suc at) h)

beside_after : (t : Transaction) (from to len count at q : ℕ) → Spares t from to len count → to < at → at < count → q + to ≡ at + (from + len) → Beside t at q
beside_after t from to len count zero q s h k e = absurd (omega (arith, h))
beside_after t from to len count (suc at) zero s h k e = absurd (omega (arith, h, e))
beside_after t from to len count (suc at) (suc q) s h k e =
    (s.after at q (omega (arith, h)) (omega (arith, k)) (omega (arith, e)), s.after (suc at) (suc q) (omega (arith, h)) k (omega (arith, e)))

-- what begins at a position, by the item there and the one before
begun_first : (ss : List Shape) (s : Shape) (before : Option Shape) → slice_get ss 0 ≡ Some s → begun_at before ss 0 ≡ begun before s
begun_first [] s before e = absurd (none-some s e)
begun_first (x ∷ ss) s before e = ap (begun before) (same_Some x s e)

begun_next : (ss : List Shape) (s s' : Shape) (before : Option Shape) (i : ℕ) → slice_get ss i ≡ Some s → slice_get ss (suc i) ≡ Some s' →
    begun_at before ss (suc i) ≡ begun (Some s) s'
begun_next [] s s' before i e e' = absurd (none-some s e)
begun_next (x ∷ ss) s s' before zero e e' = begun_first ss s' (Some x) e' ∙ ap (λ o. begun o s') e
begun_next (x ∷ ss) s s' before (suc i) e e' = begun_next ss s s' (Some x) i e e'

-- a retained item has its shape in both lists
record HasShape (t : Transaction) (items : List PlainItem) (at to : ℕ) : Type 0 where
  shape : Shape
  was : slice_get (map shape_of items) at ≡ Some shape
  is : slice_get (map shape_of (edited t items)) to ≡ Some shape
  back : new_place (inverse t) to ≡ Some at

has_shape : (t : Transaction) (items : List PlainItem) (at to : ℕ) → new_place t at ≡ Some to → at < length items → HasShape t items at to
has_shape t items at to placed within =
    let old = item_at items at within in
    let r = retained_stays t items at to old.0 placed old.1 in
    record {
      shape = shape_of old.0;
      was = slice_get-map shape_of items at ∙ ap (option_map shape_of) old.1;
      is = slice_get-map shape_of (edited t items) to ∙ ap (option_map shape_of) r.stands ∙ ap (λ (s : Shape). Some s) r.shape;
      back = r.back;
    }
  where
    item_at : (items : List PlainItem) (at : ℕ) → at < length items → (x : PlainItem) × (slice_get items at ≡ Some x)
    item_at [] at h = absurd (omega (arith, h))
    item_at (x ∷ items) zero h = (x, refl)
    item_at (x ∷ items) (suc at) h = item_at items at (omega (arith, h))

-- so what begins there is the same in both
same_begun : (t : Transaction) (items : List PlainItem) (at to : ℕ) → Beside t at to → at < length items →
    begun_at None (map shape_of (edited t items)) to ≡ begun_at None (map shape_of items) at
same_begun t items zero zero b within =
    let h = has_shape t items 0 0 b within in
    begun_first (map shape_of (edited t items)) h.shape None h.is ∙ sym (begun_first (map shape_of items) h.shape None h.was)
same_begun t items zero (suc to) b within = absurd b
same_begun t items (suc at) zero b within = absurd b
same_begun t items (suc at) (suc to) b within =
    let h = has_shape t items at to b.0 (omega (arith, within)) in
    let k = has_shape t items (suc at) (suc to) b.1 within in
    begun_next (map shape_of (edited t items)) h.shape k.shape None to h.is k.is
    ∙ sym (begun_next (map shape_of items) h.shape k.shape None at h.was k.was)

-- a retained position that both nodes begin with is the first retained of both
first_here : (t : Transaction) (at count to : ℕ) → 0 < count → new_place t at ≡ Some to → first_retained t at count ≡ Some to
first_here t at zero to some e = absurd (omega (arith, some))
first_here t at (suc count) to some e = ap (λ o. or_next o (first_retained t (suc at) count)) e

lies_here : (at count : ℕ) → 0 < count → lies_in (Some at) at count ≡ true
lies_here at count some = ap (λ b. b && nat_lt at (at + count)) (le-leb at at (omega arith)) ∙ lt-ltb at (at + count) (omega (arith, some))

-- nodes of one sort whose beginnings are retained to each other match
nodes_match : (t : Transaction) (y z : NodePlace) (a b : ℕ) → y.parent ≡ Some a → z.parent ≡ Some b → z.sort ≡ y.sort → y.from < y.to → z.from < z.to →
    new_place t y.from ≡ Some z.from → new_place (inverse t) z.from ≡ Some y.from → Match t y z
nodes_match t y z a b parent_y parent_z sorts some_y some_z there back = by_sort y.sort y.parent z.parent z.sort parent_y parent_z sorts
  where
    texts : (count count' : ℕ) → 0 < count → 0 < count' →
        (lies_in (first_retained t y.from count) z.from count' && lies_in (first_retained (inverse t) z.from count') y.from count) ≡ true
    texts count count' some some' =
        ap (λ o. lies_in o z.from count' && lies_in (first_retained (inverse t) z.from count') y.from count) (first_here t y.from count z.from some there)
        ∙ ap (λ b. b && lies_in (first_retained (inverse t) z.from count') y.from count) (lies_here z.from count' some')
        ∙ ap (λ o. lies_in o y.from count) (first_here (inverse t) z.from count' y.from some' back)
        ∙ lies_here y.from count some

    by_sort : (sort : NodeWhat) (parent parent' : Option ℕ) (sort' : NodeWhat) → parent ≡ Some a → parent' ≡ Some b → sort' ≡ sort →
        Match t (record { number = y.number; parent = parent; sort = sort; from = y.from; to = y.to })
        (record { number = z.number; parent = parent'; sort = sort'; from = z.from; to = z.to })
    by_sort sort None parent' sort' e e' s = absurd (none-some a e)
    by_sort sort (Some p) None sort' e e' s = absurd (none-some b e')
    by_sort what.Run (Some p) (Some p') what.Run e e' s = texts (y.to - y.from) (z.to - z.from) (omega (arith, some_y)) (omega (arith, some_z))
    by_sort (what.Node kind) (Some p) (Some p') (what.Node kind') e e' s = ap (λ o. lies_in o z.from 1) there ∙ lies_here z.from 1 (omega arith)
    by_sort what.Run (Some p) (Some p') (what.Node kind') e e' s = absurd (cc)
    by_sort (what.Node kind) (Some p) (Some p') what.Run e e' s = absurd (cc)

spelled : {slots : Slots} {root : NodeId} {items : List PlainItem} (tree : IsTree slots root items) → shapes (unnumbered tree.named) ≡ map shape_of items
spelled {items = items} tree = ap shapes tree.is_tree ∙ tree_spells items tree.lawful

pub whole : {slots : Slots} {root : NodeId} {items : List PlainItem} (tree : IsTree slots root items) → HasWholeRuns (unnumbered tree.named)
whole {items = items} tree = subst HasWholeRuns (sym tree.is_tree) (tree_has_whole_runs items)

-- each node but the root begins at an item of the list that begins one of its sort
pub record ListBegins (items : List PlainItem) (y : NodePlace) : Type 0 where
  pub begins : begun_at None (map shape_of items) y.from ≡ Some y.sort
  pub within : y.from < length items
  pub parent : ℕ
  pub parent_is : y.parent ≡ Some parent
  pub some_long : y.from < y.to

pub begins_in_list : {slots : Slots} {root : NodeId} {items : List PlainItem} (tree : IsTree slots root items) (y : NodePlace) →
    Contains (node_places root.0 0 tree.named) y → ListBegins items y
begins_in_list {root = root} {items = items} tree y c = record {
  begins = begins;
  within = subst (λ k. y.from < k) (length-map items shape_of) (begun_within (map shape_of items) None y.from y.sort begins);
  parent = r.parent;
  parent_is = r.parent_is;
  some_long = r.some_long;
}
  where
    r : IsBegun None (shapes (unnumbered tree.named)) 0 y
    r = place_begins tree.named root.0 0 None y (whole tree) (λ e. refl) c

    begins : begun_at None (map shape_of items) y.from ≡ Some y.sort
    begins =
        let same : y.from ≡ r.i = omega (arith, r.from_is) in
        ap (begun_at None (map shape_of items)) same ∙ ap (λ ss. begun_at None ss r.i) (sym (spelled tree)) ∙ r.begins

begins_in_tree : {slots : Slots} {root : NodeId} {items : List PlainItem} (tree : IsTree slots root items) (q : ℕ) (sort : NodeWhat) →
    begun_at None (map shape_of items) q ≡ Some sort → StartsThere (node_places root.0 0 tree.named) q sort
begins_in_tree {root = root} tree q sort e =
    subst (λ k. StartsThere (node_places root.0 0 tree.named) k sort) (omega arith)
    (node_begins tree.named root.0 0 None q sort (whole tree) (ap (λ ss. begun_at None ss q) (spelled tree) ∙ e))

-- the node of the new tree that has an old node's number
record NewStands (all : List NodePlace) (number from : ℕ) : Type 0 where
  place : NodePlace
  listed : Contains all place
  number_is : place.number ≡ number
  from_is : place.from ≡ from

new_stands : {old new : Slots} {root : NodeId} (tx : List Operation) (items : List Item) (values : List Value)
    (was : IsTree old root (plain_list values items)) (is : IsTree new root (new_list values tx items)) → KeepsNumbers old new root tx items →
    (y : NodePlace) (q : ℕ) → Contains (node_places root.0 0 was.named) y →
    Beside (by_value values tx) y.from q → NewStands (node_places root.0 0 is.named) y.number q
new_stands tx items values was is keeps y q c b =
    let r = begins_in_list was y c in
    let z = begins_in_tree is q y.sort (same_begun (by_value values tx) (plain_list values items) y.from q b r.within ∙ r.begins) in
    let there = retained (by_value values tx) y.from q b in
    let h = has_shape (by_value values tx) (plain_list values items) y.from q there r.within in
    record {
      place = z.place;
      listed = z.listed;
      number_is = keeps values was is y z.place (contains-later _ y _ c) (contains-later _ z.place _ z.listed)
          (nodes_match (by_value values tx) y z.place r.parent z.parent r.parent_is z.parent_is z.sort_is r.some_long z.some_long
          (there ∙ ap (λ (k : ℕ). Some k) (sym z.from_is)) (ap (new_place (inverse (by_value values tx))) z.from_is ∙ h.back));
      from_is = z.from_is;
    }

-- where a node of a tree begins, it begins in each tree of the arena
at_node : {slots : Slots} {root : NodeId} {items : List PlainItem} (tree : IsTree slots root items) (n : NodeId) (from : ℕ) →
    NewStands (node_places root.0 0 tree.named) n.0 from → IsAt slots root n from
at_node {slots = slots} {root = root} {items = items} tree n from s others other = record {
  place = s.place;
  listed = contains-later _ s.place _
      (subst (λ f. Contains (node_places root.0 0 f) s.place) (one_numbering slots root items others tree other).0 s.listed);
  number_is = s.number_is;
  from_is = s.from_is;
}

at_root : (slots : Slots) (root n : NodeId) → root.0 ≡ n.0 → IsAt slots root n 0
at_root slots root n e others other = record { place = _; listed = contains-here _ (node_places root.0 0 other.named); number_is = e; from_is = refl }

pub nodes_stand : NodesStand
nodes_stand old new root tx items values from to len applies was is keeps spares n start at =
    let b = at (plain_list values items) was in
    elim (contains_cases _ b.place (node_places root.0 0 was.named) b.listed) [
      | inl own ↦
          let top : 0 ≡ start = ap (λ (y : NodePlace). y.from) own ∙ b.from_is in
          let number : root.0 ≡ n.0 = ap (λ (y : NodePlace). y.number) own ∙ b.number_is in
          (λ h. subst (IsAt new root n) top (at_root new root n number), λ q past e. absurd (omega (arith, top, past)))
      | inr inside ↦ (
        λ h. elim h [
          | inl before ↦ stands b.place inside b.number_is start
              (subst (λ k. Beside (by_value values tx) k start) (sym b.from_is)
              (beside_before (by_value values tx) from to len (length items) start spares before))
          | inr same ↦ absurd (none_placed was.named root.0 0 root.0 b.place was.apart.0 inside (sym (ap (λ (m : NodeId). m.0) same) ∙ sym b.number_is))
        ],
        λ q past e. stands b.place inside b.number_is q (subst (λ k. Beside (by_value values tx) k q) (sym b.from_is)
            (beside_after (by_value values tx) from to len (length items) start q spares past (within b.place b.from_is inside) e)),
      )
    ]
  where
    stands : (y : NodePlace) → Contains (node_places root.0 0 was.named) y → y.number ≡ n.0 → (q : ℕ) → Beside (by_value values tx) y.from q → IsAt new root n q
    stands y c number q beside =
        at_node is n q (subst (λ m. NewStands (node_places root.0 0 is.named) m q) number (new_stands tx items values was is keeps y q c beside))

    within : (y : NodePlace) → y.from ≡ start → Contains (node_places root.0 0 was.named) y → start < length items
    within y e c = let r = begins_in_list was y c in subst (λ k. k < length items) e (subst (λ k. y.from < k) (length-map items (plain values)) r.within)
