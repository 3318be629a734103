-- Landmarks that are found, and one more of them.
use Rattle.std.proofs.Common.{◌≡◌, ◌≤◌, ◌<◌, ◌+◌, ◌-◌, ◌⊎◌, inl, inr, ℕ, zero, suc, Option, Some, None, List, [], ◌∷◌, ◌++◌, length, take, sum, get_or, option_map, refl, sym, ap, ◌∙◌, subst, arith, Contains}
use Rattle.std.specs.Prelude.{slice_index_or, slice_set, insert}
use Rattle.std.proofs.lemmas.List.{take_all, take-set-le, length-set, get_or-set_same}
use Rattle.std.proofs.lemmas.List.Sums.{sum_by-append}
use Rattle.std.proofs.lemmas.List.Edits.{length-insert, get_or-insert_below, get_or-insert_at, get_or-insert_above}
use Rattle.std.proofs.lemmas.Bool.{cases_lt}
use Rattle.model_items.specs.declared.plain_item.PlainItem.{PlainItem}
use Rattle.model_items.specs.Tree.{item_count}
use Rattle.ve_arena.specs.declared.node.NodeId.{NodeId}
use Rattle.ve_arena.specs.declared.node.ArenaNode.{ArenaNode}
use Rattle.ve_arena.specs.Arena.{slot_at}
use Rattle.ve_tree.specs.Links.{number_of, link_in, links_of, first_or}
use Rattle.ve_tree.specs.Named.{Named, NoNode, NamedRun, NamedBranch, unnumbered, heads, Shows}
use Rattle.ve_tree.specs.IsTree.{IsTree}
use Rattle.ve_tree.specs.Places.{NodePlace, node_places}
use Rattle.ve_tree.specs.Landmarks.{LandmarkRow, IsLandmark, IsLandmarkBefore, NodeBeginsAt, AreLandmarks, IsShortened, HasOneMore}
use Rattle.ve_tree.specs.Way.{BeginsBefore, EndsBefore}
use Rattle.ve_tree.proofs.WalkLemmas.{Slots, contains-here, contains-later}
use Rattle.ve_tree.proofs.ClimbLemmas.{contains_cases, tree_listed, len_under}
use Rattle.ve_tree.proofs.NearLemmas.{listed, under_root, not_empty, passed}
use Rattle.std.proofs.lemmas.List.Elements.{Contains-append_left, Contains-append_right, Contains-append_cases}

-- the landmark before a gap that holds the offset
pub before_gap : (row : LandmarkRow) (next past o : ℕ) (n : NodeId) → 0 < next → next - 1 < length row.nodes → slice_index_or row.nodes (next - 1) n ≡ n → sum (take next row.gaps) + past ≡ o →
    IsLandmarkBefore row o n (o - past)
before_gap row next past o n some among is e =
    let same : suc (next - 1) ≡ next = omega arith in
    record {
      landmark = record { k = next - 1; among = among; node_is = is; from_is = ap (λ k. sum (take k row.gaps)) same ∙ omega (arith, e) };
      before = omega arith;
    }

-- the last one
pub last_one : (row : LandmarkRow) (o : ℕ) (n : NodeId) → 0 < length row.nodes → length row.nodes ≡ length row.gaps → slice_index_or row.nodes (length row.nodes - 1) n ≡ n → sum row.gaps ≤ o →
    IsLandmarkBefore row o n (sum row.gaps)
last_one row o n some long is le =
    let same : suc (length row.nodes - 1) ≡ length row.gaps = omega arith in
    record {
      landmark = record {
        k = length row.nodes - 1;
        among = omega arith;
        node_is = is;
        from_is = ap (λ k. sum (take k row.gaps)) same ∙ ap sum (take_all (length row.gaps) row.gaps (omega arith));
      };
      before = le;
    }

pub sum_cons : (x : ℕ) (xs : List ℕ) → sum (x ∷ xs) ≡ x + sum xs
sum_cons x xs = let parts = sum_by-append (λ y. y) (x ∷ []) xs in omega (arith, parts)

-- what lies before a position once a length is less
pub sum_after : (xs : List ℕ) (k j by : ℕ) → k < j → k < length xs → by ≤ get_or xs k 0 → sum (take j (slice_set xs k (get_or xs k 0 - by))) + by ≡ sum (take j xs)
sum_after [] k j by after within le = absurd (omega (arith, within))
sum_after (x ∷ xs) k zero by after within le = absurd (omega (arith, after))
sum_after (x ∷ xs) zero (suc j) by after within le =
    let now : sum (take (suc j) (slice_set (x ∷ xs) 0 (x - by))) ≡ x - by + sum (take j xs) = sum_cons (x - by) (take j xs) in
    let was : sum (take (suc j) (x ∷ xs)) ≡ x + sum (take j xs) = sum_cons x (take j xs) in
    let less : by ≤ x = le in
    omega (arith, less, now, was)
sum_after (x ∷ xs) (suc k) (suc j) by after within le =
    let rest = sum_after xs k j by (omega (arith, after)) (omega (arith, within)) le in
    let now : sum (take (suc j) (slice_set (x ∷ xs) (suc k) (get_or xs k 0 - by))) ≡ x + sum (take j (slice_set xs k (get_or xs k 0 - by))) = sum_cons x (take j (slice_set xs k (get_or xs k 0 - by))) in
    let was : sum (take (suc j) (x ∷ xs)) ≡ x + sum (take j xs) = sum_cons x (take j xs) in
    omega (arith, rest, now, was)

pub sum_before : (xs : List ℕ) (k j x : ℕ) → j ≤ k → sum (take j (slice_set xs k x)) ≡ sum (take j xs)
sum_before xs k j x le = ap sum (take-set-le j xs k x le)

pub shortened : (xs : List ℕ) (k by : ℕ) → k < length xs → by ≤ get_or xs k 0 → IsShortened xs (slice_set xs k (get_or xs k 0 - by)) k by
shortened xs k by within le = record {
  count = length-set xs k (get_or xs k 0 - by);
  before = λ j before. sum_before xs k j (get_or xs k 0 - by) before;
  here = λ among. omega (arith, le, get_or-set_same xs k (get_or xs k 0 - by) 0 within);
  after = λ j after among. sum_after xs k j by after within le;
}

pub not_shortened : (xs : List ℕ) (k by : ℕ) → length xs ≤ k → IsShortened xs xs k by
not_shortened xs k by out = record {
  count = refl;
  before = λ j before. refl;
  here = λ among. absurd (omega (arith, out, among));
  after = λ j after among. absurd (omega (arith, out, among));
}

-- what lies before a position once a length is put in
sum_put_in : (xs : List ℕ) (k j x : ℕ) → k ≤ j → k ≤ length xs → sum (take (suc j) (insert xs k x)) ≡ sum (take j xs) + x
sum_put_in xs zero j x le within = let now : sum (take (suc j) (insert xs 0 x)) ≡ x + sum (take j xs) = sum_cons x (take j xs) in omega (arith, now)
sum_put_in [] (suc k) j x le within = absurd (omega (arith, within))
sum_put_in (y ∷ ys) (suc k) zero x le within = absurd (omega (arith, le))
sum_put_in (y ∷ ys) (suc k) (suc j) x le within =
    let rest = sum_put_in ys k j x (omega (arith, le)) (omega (arith, within)) in
    let now : sum (take (suc (suc j)) (insert (y ∷ ys) (suc k) x)) ≡ y + sum (take (suc j) (insert ys k x)) = sum_cons y (take (suc j) (insert ys k x)) in
    let was : sum (take (suc j) (y ∷ ys)) ≡ y + sum (take j ys) = sum_cons y (take j ys) in
    omega (arith, rest, now, was)

sum_put_before : (xs : List ℕ) (k j x : ℕ) → j ≤ k → k ≤ length xs → sum (take j (insert xs k x)) ≡ sum (take j xs)
sum_put_before xs k zero x le within = refl
sum_put_before xs zero (suc j) x le within = absurd (omega (arith, le))
sum_put_before [] (suc k) (suc j) x le within = absurd (omega (arith, within))
sum_put_before (y ∷ ys) (suc k) (suc j) x le within =
    sum_cons y (take j (insert ys k x)) ∙ ap (λ s. y + s) (sum_put_before ys k j x (omega (arith, le)) (omega (arith, within))) ∙ sym (sum_cons y (take j ys))

-- one more before a number
pub one_more : (nodes : List NodeId) (gaps short : List ℕ) (k : ℕ) (n : NodeId) (gap : ℕ) → length nodes ≡ length gaps → k ≤ length nodes → IsShortened gaps short k gap →
    HasOneMore (record { nodes = nodes; gaps = gaps }) (record { nodes = insert nodes k n; gaps = insert short k gap }) k n gap
one_more nodes gaps short k n gap long among s = record {
  count = omega (arith, length-insert short k gap within, s.count);
  as_long = omega (arith, length-insert short k gap within, s.count, length-insert nodes k n among, long);
  start_is = sum_put_in short k k gap (omega arith) within ∙ ap (λ x. x + gap) (s.before k (omega arith));
  next_is = λ lt. ap (λ x. x + gap) (ap (λ i. get_or (insert short k gap) i 0) (omega arith) ∙ get_or-insert_above short k gap 0 k (omega arith) within) ∙ s.here lt;
  others = others;
}
  where
    within : k ≤ length short
    within = omega (arith, among, long, s.count)

    others : (m : NodeId) (from : ℕ) → IsLandmark (record { nodes = insert nodes k n; gaps = insert short k gap }) m from →
        IsLandmark (record { nodes = nodes; gaps = gaps }) m from ⊎ ((m ≡ n) × (from ≡ sum (take k gaps) + gap))
    others m from mark = elim (cases_lt mark.k k) [
      | inl less ↦ inl (record {
        k = mark.k;
        among = omega (arith, less, among);
        node_is = sym (get_or-insert_below nodes k n m mark.k less among) ∙ mark.node_is;
        from_is = sym (sum_put_before short k (suc mark.k) gap (omega (arith, less)) within ∙ s.before (suc mark.k) (omega (arith, less))) ∙ mark.from_is;
      })
      | inr not_less ↦ elim (cases_lt k mark.k) [
        | inl more ↦
            let before : suc (mark.k - 1) ≡ mark.k = omega (arith, more) in
            let count = length-insert nodes k n among in
            let within_gaps : k < length gaps = omega (arith, more, mark.among, count, long) in
            inl (record {
              k = mark.k - 1;
              among = omega (arith, more, mark.among, count);
              node_is = sym (ap (λ i. get_or (insert nodes k n) i m) (omega (arith, more)) ∙ get_or-insert_above nodes k n m (mark.k - 1) (omega (arith, more)) among) ∙ mark.node_is;
              from_is = sym (s.after (suc (mark.k - 1)) (omega (arith, more)) within_gaps) ∙ sym (sum_put_in short k (suc (mark.k - 1)) gap (omega (arith, more)) within)
                  ∙ ap (λ i. sum (take (suc i) (insert short k gap))) before ∙ mark.from_is;
            })
        | inr not_more ↦
            let at : mark.k ≡ k = omega (arith, not_less, not_more) in
            inr (
              sym mark.node_is ∙ ap (λ i. get_or (insert nodes k n) i m) at ∙ get_or-insert_at nodes k n m among,
              sym mark.from_is ∙ ap (λ i. sum (take (suc i) (insert short k gap))) at ∙ sum_put_in short k k gap (omega arith) within
                  ∙ ap (λ x. x + gap) (s.before k (omega arith)),
            )
      ]
    ]

-- the root is one
pub root_landmark : (slots : Slots) (root : NodeId) (new : LandmarkRow) → HasOneMore (record { nodes = []; gaps = [] }) new 0 root 0 → AreLandmarks slots root new
root_landmark slots root new more m from mark items tree = elim (more.others m from mark) [
  | inl none ↦ absurd (omega (arith, none.among))
  | inr is ↦ record {
    place = _;
    listed = contains-here _ (node_places root.0 0 tree.named);
    number_is = ap (λ (q : NodeId). q.0) (sym is.0);
    from_is = omega (arith, is.1);
  }
]

-- a node that begins before the list's end
pub record Ahead {slots : Slots} {root : NodeId} {items : List PlainItem} (tree : IsTree slots root items) (n : NodeId) (left : ℕ) (node : ArenaNode) : Type 0 where
  pub some : 1 ≤ node.len
  pub within : node.len ≤ left
  pub ends : EndsBefore tree (length items) n (left - node.len)

pub ahead : {slots : Slots} {root : NodeId} {items : List PlainItem} (tree : IsTree slots root items) (n : NodeId) (left : ℕ) (node : ArenaNode) → BeginsBefore tree (length items) n left →
    slot_at slots n.0 ≡ Some node → Ahead tree n left node
ahead {items = items} tree n left node b here =
    let ends = len_under tree b.place n node (listed tree b.place b.listed) b.number_is here in
    let l = tree_listed tree b.place (listed tree b.place b.listed) in
    let within : node.len ≤ left = omega (arith, ends, l.below_end, b.sum) in
    record { some = not_empty tree b.place n node b.listed b.number_is here; within = within; ends = passed tree (length items) n left node b here within }

-- the first node of a forest
record FirstPlace (all : List NodePlace) (number from : ℕ) : Type 0 where
  place : NodePlace
  listed : Contains all place
  number_is : place.number ≡ number
  from_is : place.from ≡ from

first_place : (f : Named) (p at m : ℕ) → first_or (heads f) None ≡ Some m → FirstPlace (node_places p at f) m at
first_place NoNode p at m h = absurd (cc)
first_place (NamedRun h count later) p at m e = record { place = _; listed = contains-here _ (node_places p (at + count) later); number_is = cc; from_is = refl }
first_place (NamedBranch h kind inside later) p at m e =
    record { place = _; listed = contains-here _ (node_places h (suc at) inside ++ node_places p (at + (item_count (unnumbered inside) + 2)) later); number_is = cc; from_is = refl }

more_places : (all more : List NodePlace) (number from : ℕ) → ((z : NodePlace) → Contains all z → Contains more z) → FirstPlace all number from → FirstPlace more number from
more_places all more number from wider f = record { place = f.place; listed = wider f.place f.listed; number_is = f.number_is; from_is = f.from_is }

first_within : (slots : Slots) (f : Named) (p at m : ℕ) (y : NodePlace) → Shows slots f → Contains (node_places p at f) y → (links_of slots).first y.number ≡ Some m → FirstPlace (node_places p at f) m (suc y.from)
first_within slots NoNode p at m y shown c e = absurd (omega (arith, c.1))
first_within slots (NamedRun h count later) p at m y shown c e =
    elim (contains_cases _ y (node_places p (at + count) later) c) [
      | inl same ↦
          let bad : ◌≡◌ {A = Option ℕ} None (Some m) = sym shown.0.children.first ∙ ap (λ (z : NodePlace). (links_of slots).first z.number) same ∙ e in
          absurd (cc)
      | inr there ↦ more_places (node_places p (at + count) later) _ m (suc y.from) (λ z d. contains-later _ z (node_places p (at + count) later) d) (first_within slots later p (at + count) m y shown.1 there e)
    ]
first_within slots (NamedBranch h kind inside later) p at m y shown c e =
    let len = item_count (unnumbered inside) + 2 in
    let rest = node_places h (suc at) inside ++ node_places p (at + len) later in
    elim (contains_cases _ y rest c) [
      | inl same ↦
          let here : first_or (heads inside) None ≡ Some m = sym shown.0.children.first ∙ ap (λ (z : NodePlace). (links_of slots).first z.number) same ∙ e in
          subst (λ (from : ℕ). FirstPlace (node_places p at (NamedBranch h kind inside later)) m (suc from)) (ap (λ (z : NodePlace). z.from) same)
          (more_places (node_places h (suc at) inside) _ m (suc at) (λ z d. contains-later _ z rest (Contains-append_left (node_places h (suc at) inside) (node_places p (at + len) later) z d))
          (first_place inside h (suc at) m here))
      | inr there ↦ elim (Contains-append_cases (node_places h (suc at) inside) (node_places p (at + len) later) y there) [
        | inl in_ ↦ more_places (node_places h (suc at) inside) _ m (suc y.from) (λ z d. contains-later _ z rest (Contains-append_left (node_places h (suc at) inside) (node_places p (at + len) later) z d))
            (first_within slots inside h (suc at) m y shown.1 in_ e)
        | inr after_ ↦ more_places (node_places p (at + len) later) _ m (suc y.from) (λ z d. contains-later _ z rest (Contains-append_right (node_places h (suc at) inside) (node_places p (at + len) later) z d))
            (first_within slots later p (at + len) m y shown.2 after_ e)
      ]
    ]

-- the first child begins just after its parent's opening
pub first_child : {slots : Slots} {root : NodeId} {items : List PlainItem} (tree : IsTree slots root items) (o : ℕ) (n : NodeId) (left : ℕ) (node : ArenaNode) (child : NodeId) →
    BeginsBefore tree o n left → slot_at slots n.0 ≡ Some node → node.first ≡ Some child → 1 ≤ left → BeginsBefore tree o child (left - 1)
first_child {slots = slots} {root = root} tree o n left node child b here is_first some =
    let link : (links_of slots).first b.place.number ≡ Some child.0 =
    ap (λ m. link_in (λ node. node.first) (slot_at slots m)) b.number_is ∙ ap (link_in (λ node. node.first)) here ∙ ap (option_map number_of) is_first in
    let f = first_within slots tree.named root.0 0 child.0 b.place tree.shown b.listed link in
    record { place = f.place; listed = f.listed; number_is = f.number_is; sum = omega (arith, f.from_is, b.sum, some) }

pub root_first : {slots : Slots} {root : NodeId} {items : List PlainItem} (tree : IsTree slots root items) (o : ℕ) (node : ArenaNode) (child : NodeId) → slot_at slots root.0 ≡ Some node →
    node.first ≡ Some child → BeginsBefore tree o child o
root_first {slots = slots} {root = root} tree o node child here is_first =
    let link : first_or (heads tree.named) None ≡ Some child.0 =
    sym tree.root_shown.children.first ∙ ap (link_in (λ node. node.first)) here ∙ ap (option_map number_of) is_first in
    let f = first_place tree.named root.0 0 child.0 link in
    record { place = f.place; listed = f.listed; number_is = f.number_is; sum = omega (arith, f.from_is) }

-- a landmark that is not the root
pub landmark_begins : {slots : Slots} {root : NodeId} {items : List PlainItem} (tree : IsTree slots root items) (o : ℕ) (n : NodeId) (from : ℕ) → NodeBeginsAt tree n from → (n.0 ≡ root.0 → ⊥) → from ≤ o →
    BeginsBefore tree o n (o - from)
landmark_begins {root = root} tree o n from s other le = record {
  place = s.place;
  listed = under_root tree s.place s.listed (λ e. other (sym s.number_is ∙ e));
  number_is = s.number_is;
  sum = omega (arith, s.from_is, le);
}
