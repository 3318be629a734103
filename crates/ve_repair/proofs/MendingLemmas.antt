-- Landmarks may follow where the nodes are the new list's.
use Rattle.std.proofs.Common.{◌≡◌, ℕ, ◌+◌, ◌<◌, ◌≤◌, ◌^◌, ◌⊎◌, Result, Ok, Err, List, [], ◌++◌, length, map, refl, sym, ap, ◌∙◌, subst, inl, inr, arith}
use Rattle.std.specs.Prelude.{OnErr}
use Rattle.std.proofs.lemmas.List.{length-map}
use Rattle.model_items.specs.declared.item.Item.{Item}
use Rattle.model_items.specs.declared.plain_item.PlainItem.{PlainItem}
use Rattle.model_items.specs.declared.law_fault.LawFault.{LawFault}
use Rattle.model_items.specs.declared.law_fault.LawFault.TheVariants as law
use Rattle.model_items.specs.Plain.{plain, plain_list}
use Rattle.ve_arena.specs.declared.node.NodeId.{NodeId}
use Rattle.ve_tree.specs.IsTree.{IsTree, unvalued}
use Rattle.ve_tree.specs.Landmarks.{LandmarkRow, AreLandmarks, IsAt, MayFollow}
use Rattle.ve_tree.specs.Places.{NodePlace, node_places}
use Rattle.ve_tree.specs.TreeOf.{IsTreeOf}
use Rattle.ve_tree.specs.declared.tree.Tree.{Tree}
use Rattle.ve_tree.proofs.ClimbLemmas.{contains_cases}
use Rattle.ve_tree.proofs.WalkLemmas.{Slots}
use Rattle.ve_tx.specs.Operation.{Operation, by_value, bare, IsNormal}
use Rattle.ve_tx.specs.declared.op.Op.{Op}
use Rattle.ve_tx.specs.Normal.{total_size}
use Rattle.ve_repair.specs.declared.range.ChangedRange.{ChangedRange}
use Rattle.ve_repair.specs.Change.{CanApply, FailsAfter}
use Rattle.ve_repair.specs.Kept.{KeepsNumbers}
use Rattle.ve_repair.specs.Outside.{Spares}
use Rattle.ve_repair.specs.Range.{IsChangedRange, KeepItems, all_given}
use Rattle.ve_repair.specs.Repaired.{IsTreeAfter, IsTreeOfAfter, SameNodes, IsCause, fault_of}
use Rattle.ve_repair.proofs.ChangeLemmas.{sizes_within, shapes-plain, old_is, old_in_total}
use Rattle.ve_repair.proofs.RangeLemmas.{spares, given-append, given_in_total}
use Rattle.ve_repair.proofs.SameNodesLemmas.{same_tree, same_landmarks}
use Rattle.ve_repair.proofs.ShapeLemmas.{tree_reads_shapes}
use Rattle.ve_repair.proofs.OutsideLemmas.{begins_in_list, nodes_stand}
use Rattle.ve_repair.proofs.UnchangedLemmas.{tree_stays}

-- a node begins within the list
starts_within : {slots : Slots} {root : NodeId} {items : List PlainItem} (tree : IsTree slots root items) (n : NodeId) (start : ℕ) →
    IsAt slots root n start → start ≤ length items
starts_within {root = root} {items = items} tree n start at =
    let b = at items tree in
    elim (contains_cases _ b.place (node_places root.0 0 tree.named) b.listed) [
      | inl own ↦ (let top : 0 ≡ b.place.from = ap (λ (y : NodePlace). y.from) own in omega (arith, top, b.from_is))
      | inr inside ↦ (let r = begins_in_list tree b.place inside in omega (arith, r.within, b.from_is))
    ]

-- what comes is no longer than the limit
len_within : (ops : List Op) (r : ChangedRange) → IsChangedRange ops r → r.len ≤ total_size ops
len_within ops r f =
    let all : all_given ops ≡ all_given f.before + all_given (f.changed ++ f.after) = ap all_given f.parts ∙ given-append f.before (f.changed ++ f.after) in
    let some = given-append f.changed f.after in
    let total = given_in_total ops in
    omega (arith, all, some, total, f.len_is)

module _ (old new : Slots) (root : NodeId) (tx : List Operation) (items : List Item) (r : ChangedRange) where
  pub may_follow : (row : LandmarkRow) → CanApply tx items → IsNormal tx → IsChangedRange (map bare tx) r → IsTree old root (unvalued items) →
      IsTreeAfter new root tx items → KeepsNumbers old new root tx items → AreLandmarks old root row → MayFollow new root row r.from (r.to + 1) (r.len + 1)
  may_follow row can normal range tree is keeps are n start mark = record {
    fits =
        let within = starts_within tree n start at in
        let long = length-map items (plain []) in
        let count = old_is tx items (map bare tx) refl can in
        let less = old_in_total (map bare tx) in
        let size = sizes_within tx (map bare tx) refl normal in
        let len = len_within (map bare tx) r range in
        omega (arith, within, long, count, less, size, len);
    stays = stand.0;
    moves = λ q past some e. stand.1 q (omega (arith, past)) (omega (arith, e, outside.between));
  }
    where
      at : IsAt old root n start
      at = are n start mark

      outside : Spares (by_value can.values tx) r.from r.to r.len (length items)
      outside = spares (map bare tx) r range tx items can.values refl can.applies

      was : IsTree old root (plain_list can.values items)
      was = tree_reads_shapes old root (unvalued items) (plain_list can.values items) tree (shapes-plain [] can.values items)

      stand :
          ((start < r.from) ⊎ (n ≡ root) → IsAt new root n start)
          × ((q : ℕ) → r.to < start → q + r.to ≡ start + (r.from + r.len) → IsAt new root n q)
      stand = nodes_stand old new root tx items can.values r.from r.to r.len can.applies was (is can.values) keeps outside n start at

-- numbers of positions behind it fit
pub to_fits : (tx : List Operation) (items : List Item) (r : ChangedRange) → CanApply tx items → IsNormal tx → IsChangedRange (map bare tx) r → r.to + 1 < 2 ^ 64
to_fits tx items r can normal range =
    let outside = spares (map bare tx) r range tx items can.values refl can.applies in
    let count = old_is tx items (map bare tx) refl can in
    let less = old_in_total (map bare tx) in
    let size = sizes_within tx (map bare tx) refl normal in
    omega (arith, outside.within, count, less, size)

-- it begins in the list
pub from_within : (tx : List Operation) (items : List Item) (r : ChangedRange) → CanApply tx items → IsNormal tx → IsChangedRange (map bare tx) r → r.from ≤ length (unvalued items)
from_within tx items r can normal range =
    let outside = spares (map bare tx) r range tx items can.values refl can.applies in
    let long = length-map items (plain []) in
    omega (arith, outside.between, outside.within, long)

pub len_fits : (tx : List Operation) (r : ChangedRange) → IsNormal tx → IsChangedRange (map bare tx) r → r.len + 1 < 2 ^ 64
len_fits tx r normal range =
    let size = sizes_within tx (map bare tx) refl normal in
    let len = len_within (map bare tx) r range in
    omega (arith, len, size)

-- a tree with the same nodes, root and landmarks
pub kept_tree : (old new : Tree) (items : List PlainItem) → SameNodes old.arena.slots new.arena.slots → new.root ≡ old.root → new.landmarks ≡ old.landmarks →
    IsTreeOf old items → IsTreeOf new items
kept_tree old new items same root marks tree = record {
  links = subst (λ r. IsTree new.arena.slots r items) (sym root) (same_tree old.arena.slots new.arena.slots same old.root items tree.links);
  landmarks = subst (λ r. AreLandmarks new.arena.slots r new.landmarks) (sym root)
      (subst (AreLandmarks new.arena.slots old.root) (sym marks) (same_landmarks old.arena.slots new.arena.slots old.root old.landmarks same tree.landmarks));
}

-- the tree, where nothing comes or goes
pub tree_of_after : (t : Tree) (tx : List Operation) (items : List Item) → KeepItems (map bare tx) → IsTreeOf t (unvalued items) → IsTreeOfAfter t tx items
tree_of_after t tx items keep tree values = record {
  links = tree_stays t.arena.slots t.root tx items keep tree.links values;
  landmarks = tree.landmarks;
}

pub on_err : {A E : Type 0} (r : Result A E) (P : Type 0) → P → OnErr r P
on_err (Ok x) P p = tt
on_err (Err e) P p = p

-- an offence of the new list is the cause of the refusal
pub is_cause : (tx : List Operation) (items : List Item) (fault : LawFault) → FailsAfter tx items fault → IsCause tx items (fault_of fault)
is_cause tx items (law.Unlawful at) fails = fails
is_cause tx items (law.TooDeep at) fails = fails
