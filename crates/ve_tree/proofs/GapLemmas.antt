-- A gap between two landmarks, and one more put into it.
use Rattle.std.proofs.Common.{◌≡◌, ◌≤◌, ◌<◌, ◌+◌, ◌-◌, inl, inr, ℕ, suc, Option, Some, None, IfSome, List, ap, sym, ◌∙◌, ◌^◌, arith, length, take, sum}
use Rattle.model_items.specs.declared.plain_item.PlainItem.{PlainItem}
use Rattle.ve_arena.specs.declared.node.NodeId.{NodeId}
use Rattle.ve_tree.specs.declared.mark.Gap.{Gap}
use Rattle.ve_tree.specs.IsTree.{IsTree}
use Rattle.ve_tree.specs.Landmarks.{LandmarkRow, IsLandmark, IsNumbered, NodeBeginsAt, HasSpace, HasOneMore, AreLandmarks}
use Rattle.ve_tree.specs.Places.{node_places}
use Rattle.ve_tree.proofs.PlaceLemmas.{same_place}
use Rattle.ve_tree.specs.Way.{IsSomeTree, IsBeforeEnd}
use Rattle.ve_tree.specs.Gaps.{IsGap}
use Rattle.ve_tree.proofs.WalkLemmas.{Slots, contains-here}
use Rattle.std.proofs.lemmas.List.{take_all}
use Rattle.std.proofs.lemmas.List.Sums.{sum_by_more}
use Rattle.std.specs.Prelude.{slice_index}
use Rattle.ve_tree.proofs.ClimbLemmas.{tree_listed}
use Rattle.ve_tree.proofs.NearLemmas.{listed}

-- a landmark that is put into a gap
pub gap_filled : (slots : Slots) (root n : NodeId) (old new : LandmarkRow) (gap : Gap) (left : ℕ) → IsGap slots root old gap → left ≤ gap.from → gap.to < left → IsBeforeEnd slots root n left →
    HasOneMore old new gap.next n (gap.from - left) → IsGap slots root new (record { next = suc gap.next; from = left; to = gap.to })
gap_filled slots root n old new gap left g le lt begins more = record {
  are = λ m from mark items tree. elim (more.others m from mark) [
    | inl one ↦ g.are m from one items tree
    | inr is ↦
        let b = begins items tree in
        record {
          place = b.place;
          listed = listed tree b.place b.listed;
          number_is = b.number_is ∙ ap (λ (q : NodeId). q.0) (sym is.0);
          from_is = omega (arith, b.sum, is.1, g.start items tree, le);
        }
  ];
  among = omega (arith, g.among, more.count);
  as_long = more.as_long;
  start = λ items tree. omega (arith, g.start items tree, more.start_is, le);
  small = g.small;
  end = λ among. let had : gap.next < length old.gaps = omega (arith, among, more.count) in omega (arith, g.end had, more.next_is had, le);
}

-- and there is space for it
pub has_space : (slots : Slots) (root : NodeId) (row : LandmarkRow) (gap : Gap) (left : ℕ) → IsSomeTree slots root → IsGap slots root row gap → left ≤ gap.from → gap.to < left →
    HasSpace row.gaps gap.next (gap.from - left)
has_space slots root row gap left some g le lt = record {
  before_next = λ among. omega (arith, g.end among, le, lt);
  at_end = λ out.
      let all : sum (take gap.next row.gaps) ≡ sum row.gaps = ap sum (take_all gap.next row.gaps out) in
      omega (arith, all, g.start some.items some.tree, g.small some.items some.tree);
}

-- a landmark begins in the list
pub begins_within : {slots : Slots} {root : NodeId} {items : List PlainItem} (tree : IsTree slots root items) (n : NodeId) (from : ℕ) → NodeBeginsAt tree n from → from ≤ length items
begins_within tree n from s = let l = tree_listed tree s.place s.listed in omega (arith, l.ends, l.below_end, s.from_is)

pub numbered_landmark : {row : LandmarkRow} {k : ℕ} {n : NodeId} {from : ℕ} → IsNumbered row k n from → IsLandmark row n from
numbered_landmark {k = k} is = record { k = k; among = is.among; node_is = is.node_is; from_is = is.from_is }

-- the gap between two landmarks
pub gap_between : (slots : Slots) (root : NodeId) (row : LandmarkRow) (k j : ℕ) (n m : NodeId) (start end all : ℕ) → AreLandmarks slots root row →
    ((items : List PlainItem) → IsTree slots root items → all ≡ length items) → all < 2 ^ 64 → start ≤ all → end ≤ all → IsNumbered row k n start → j ≡ suc k → IsNumbered row j m end →
    IsGap slots root row (record { next = j; from = all - start; to = all - end })
gap_between slots root row k j n m start end all are whole fits le le_end this is next = record {
  small = λ items tree. omega (arith, fits, whole items tree);
  are = are;
  among = omega (arith, next.among, next.as_long);
  as_long = this.as_long;
  start = λ items tree. omega (arith, whole items tree, before, le);
  end = λ among.
      let more : sum (take (j + 1) row.gaps) ≡ sum (take j row.gaps) + slice_index row.gaps j = sum_by_more (λ x. x) row.gaps j 0 among in
      let after : j + 1 ≡ suc j = omega arith in
      let same : sum (take (j + 1) row.gaps) ≡ sum (take (suc j) row.gaps) = ap (λ i. sum (take i row.gaps)) after in
      omega (arith, more, same, before, next.from_is, le, le_end);
}
  where
    before : sum (take j row.gaps) ≡ start
    before = ap (λ i. sum (take i row.gaps)) is ∙ this.from_is

-- and the one after the last
pub gap_at_end : (slots : Slots) (root : NodeId) (row : LandmarkRow) (k j : ℕ) (n : NodeId) (start all : ℕ) → AreLandmarks slots root row →
    ((items : List PlainItem) → IsTree slots root items → all ≡ length items) → all < 2 ^ 64 → start ≤ all → IsNumbered row k n start → j ≡ suc k → length row.gaps ≤ j →
    IsGap slots root row (record { next = j; from = all - start; to = 0 })
gap_at_end slots root row k j n start all are whole fits le this is last = record {
  small = λ items tree. omega (arith, fits, whole items tree);
  are = are;
  among = omega (arith, this.among, this.as_long, is);
  as_long = this.as_long;
  start = λ items tree. omega (arith, whole items tree, ap (λ i. sum (take i row.gaps)) is, this.from_is, le);
  end = λ among. absurd (omega (arith, last, among));
}

-- the root begins where the list does
pub root_begins : {slots : Slots} {root : NodeId} {items : List PlainItem} (tree : IsTree slots root items) (n : NodeId) (from : ℕ) → n.0 ≡ root.0 → NodeBeginsAt tree n from → from ≡ 0
root_begins {root = root} tree n from is s =
    let same = same_place tree s.place _ s.listed (contains-here _ (node_places root.0 0 tree.named)) (s.number_is ∙ is) in omega (arith, same, s.from_is)

-- the first node to look at is not before the gap
pub root_order : {slots : Slots} {root : NodeId} (some : IsSomeTree slots root) (n : NodeId) (from all : ℕ) (next : Option (NodeId × ℕ)) → n.0 ≡ root.0 → NodeBeginsAt some.tree n from →
    all ≡ length some.items → IfSome next (λ next. IsBeforeEnd slots root next.0 next.1) → IfSome next (λ next. next.1 ≤ all - from)
root_order some n from all None is s whole b = b
root_order some n from all (Some next) is s whole b =
    let first = b some.items some.tree in omega (arith, root_begins some.tree n from is s, first.sum, whole)

pub starts_within : {slots : Slots} {root : NodeId} {row : LandmarkRow} {k : ℕ} {n : NodeId} {from all : ℕ} (some : IsSomeTree slots root) → AreLandmarks slots root row →
    ((items : List PlainItem) → IsTree slots root items → all ≡ length items) → IsNumbered row k n from → from ≤ all
starts_within {n = n} {from = from} some are whole is =
    omega (arith, begins_within some.tree n from (are n from (numbered_landmark is) some.items some.tree), whole some.items some.tree)
