-- A walk to the left and up that comes to a landmark.
use Rattle.std.proofs.Common.{◌≡◌, ◌≤◌, ◌+◌, ◌-◌, ℕ, Option, Some, List, sym, ap, ◌∙◌, subst, arith, Contains, length, IfSome}
use Rattle.model_items.specs.declared.plain_item.PlainItem.{PlainItem}
use Rattle.ve_arena.specs.declared.node.NodeId.{NodeId}
use Rattle.ve_arena.specs.declared.node.ArenaNode.{ArenaNode}
use Rattle.ve_arena.specs.Arena.{slot_at}
use Rattle.ve_tree.specs.IsTree.{IsTree}
use Rattle.ve_tree.specs.Places.{NodePlace, tree_places}
use Rattle.ve_tree.specs.Landmarks.{LandmarkRow, IsLandmark, NodeBeginsAt}
use Rattle.ve_tree.proofs.WalkLemmas.{Slots}
use Rattle.ve_tree.proofs.ClimbLemmas.{Left, len_under, tree_listed}
use Rattle.ve_tree.proofs.PlaceLemmas.{same_place}

-- what a look at a node's rank gave
pub mark_of : {row : LandmarkRow} {n : NodeId} {from : ℕ} {result : Option ℕ} → IfSome result (λ from. IsLandmark row n from) → result ≡ Some from → IsLandmark row n from
mark_of {row = row} {n = n} h e = subst (λ r. IfSome r (λ from. IsLandmark row n from)) e h

pub record LeftMark {slots : Slots} {root : NodeId} {items : List PlainItem} (tree : IsTree slots root items) (x : NodePlace) (from len all : ℕ) : Type 0 where
  pub range : ◌≡◌ {A = ℕ × ℕ} (from, from + len) (x.from, x.to)
  pub within : from + len ≤ all

pub left_mark : {slots : Slots} {root : NodeId} {items : List PlainItem} (tree : IsTree slots root items) (x : NodePlace) (at : NodeId) (all left start : ℕ) (own : ArenaNode) (n : NodeId) →
    Contains (tree_places tree) x → x.number ≡ n.0 → slot_at slots n.0 ≡ Some own → all ≡ length items → Left tree x at.0 all left → NodeBeginsAt tree at start →
    LeftMark tree x (start + (all - left)) own.len all
left_mark tree x at all left start own n listed number here whole l s =
    let same = same_place tree l.climb.place s.place l.climb.listed s.listed (l.climb.number ∙ sym s.number_is) in
    let from : start + (all - left) ≡ x.from = omega (arith, l.climb.sum, same, s.from_is) in
    let to : start + (all - left) + own.len ≡ x.to = ap (λ m. m + own.len) from ∙ len_under tree x n own listed number here in
    record { range = λ i. (from i, to i); within = omega (arith, to, (tree_listed tree x listed).below_end, whole) }
