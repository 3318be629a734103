-- A cursor at a position of a tree.
use Rattle.std.proofs.Common.{◌≡◌, ◌+◌, ℕ, Option, Some, None, IsSome, List, [], ◌∷◌, ◌++◌, map, option_map, refl, sym, ap, ◌∙◌, subst, append-nil}
use Rattle.model_items.specs.declared.plain_item.PlainItem.{PlainItem}
use Rattle.model_items.specs.Tree.{item_count}
use Rattle.ve_arena.specs.declared.node.NodeId.{NodeId}
use Rattle.ve_arena.specs.declared.node.NodeWhat.TheVariants as what
use Rattle.ve_arena.specs.declared.node.ArenaNode.{ArenaNode}
use Rattle.ve_arena.specs.Arena.{slot_at}
use Rattle.ve_tree.specs.Links.{number_of, link_in, links_of, first_or, last_or, AreSiblings}
use Rattle.ve_tree.specs.Named.{Named, NoNode, NamedBranch, unnumbered, heads, IsShown}
use Rattle.ve_tree.specs.IsTree.{IsTree}
use Rattle.ve_tree.specs.Rows.{beside, Round, within, parent_in}
use Rattle.ve_tree.proofs.BesideLemmas.{heads-beside, shows_right, whole_right}
use Rattle.ve_tree.proofs.FrameLemmas.{Framed}
use Rattle.ve_tree.proofs.NeighbourLemmas.{siblings_right}
use Rattle.ve_repair.specs.Spelled.{EndOf}
use Rattle.ve_repair.specs.Sizes.{signs_of}
use Rattle.ve_repair.specs.Cursor as placed
use Rattle.ve_repair.specs.Cursors.{IsRowUnder, AreRows, left_signs, outer_of, spot_of, IsAt}
use Rattle.ve_repair.specs.Cursors as cursors
use Rattle.ve_repair.specs.Scene.{open_round}
use Rattle.ve_repair.proofs.CursorLemmas.{Slots, framed_at, whole_runs, past-branch}
use Rattle.ve_repair.proofs.CursorsLemmas.{at_start}

-- the nodes round a position, as a cursor knows them
abbrev pub rounds_of : ℕ → List Round → List cursors.Round
rounds_of root [] = []
rounds_of root (r ∷ rs) = record { kind = r.kind; outer = parent_in root rs; later = r.after } ∷ rounds_of root rs

signs_left : (root : ℕ) (f : Named) (rs : List Round) → left_signs f (rounds_of root rs) ≡ signs_of f ++ placed.right_signs rs
signs_left root f [] = sym (append-nil (signs_of f))
signs_left root f (r ∷ rs) = ap (λ ss. signs_of f ++ (EndOf r.kind ∷ ss)) (signs_left root r.after rs)

open_left : (root : ℕ) (rs : List Round) → parent_in root rs ∷ map outer_of (rounds_of root rs) ≡ open_round root rs
open_left root [] = refl
open_left root (r ∷ rs) = ap (λ ns. r.number ∷ ns) (open_left root rs)

row_under : {slots : Slots} {root : NodeId} {items : List PlainItem} (tree : IsTree slots root items) (rs : List Round) (done row : Named) (next : Option NodeId) → tree.named ≡ within rs (beside done row) →
    option_map number_of next ≡ first_or (heads row) None → IsRowUnder slots (parent_in root.0 rs) next row
row_under {slots = slots} {root = root} tree rs done row next whole e =
    let f : Framed slots root.0 rs (beside done row) = framed_at tree rs (beside done row) whole in
    record {
      next_is = e;
      edge = last_or None (heads done);
      row = siblings_right (links_of slots).parent (links_of slots).before (links_of slots).after (parent_in root.0 rs) None (heads done) (heads row) None
          (subst (λ ns. AreSiblings (links_of slots).parent (links_of slots).before (links_of slots).after (parent_in root.0 rs) None ns None) (heads-beside done row) f.inner.children.row);
      shown = shows_right slots done row f.row;
      runs = whole_right done row (whole_runs tree rs (beside done row) whole);
    }

link_is : (slots : Slots) (n : ℕ) (node : ArenaNode) (link : ArenaNode → Option NodeId) (to : Option ℕ) → slot_at slots n ≡ Some node → link_in link (slot_at slots n) ≡ to → option_map number_of (link node) ≡ to
link_is slots n node link to here h = sym (ap (link_in link) here) ∙ h

some_shown : (slots : Slots) (n : ℕ) (sort : _) (len : ℕ) (kids : List ℕ) → IsShown slots n sort len kids → IsSome (slot_at slots n)
some_shown slots n sort len kids s = by_slot (slot_at slots n) s.sort_is
  where
    by_slot : (o : Option ArenaNode) → option_map (λ node. node.what) o ≡ Some sort → IsSome o
    by_slot None e = absurd (cc)
    by_slot (Some node) e = refl

pub are_rows : {slots : Slots} {root : NodeId} {items : List PlainItem} (tree : IsTree slots root items) (rs : List Round) (done row : Named) (next : Option NodeId) → tree.named ≡ within rs (beside done row) →
    option_map number_of next ≡ first_or (heads row) None → AreRows slots (parent_in root.0 rs) next row (rounds_of root.0 rs)
are_rows tree [] done row next whole e = row_under tree [] done row next whole e
are_rows {slots = slots} {root = root} tree (r ∷ rs) done row next whole e = (
  row_under tree (r ∷ rs) done row next whole e,
  some_shown slots r.number _ _ _ own,
  λ node here. (
    link_is slots r.number node (λ node. node.parent) (Some (parent_in root.0 rs)) here siblings.0,
    are_rows tree rs (beside r.before (NamedBranch r.number r.kind (beside done row) NoNode)) r.after node.after
        (whole ∙ past-branch rs r.before r.number r.kind (beside done row) r.after)
        (link_is slots r.number node (λ node. node.after) (first_or (heads r.after) None) here siblings.2),
  ),
)
  where
    f : Framed slots root.0 rs (beside r.before (NamedBranch r.number r.kind (beside done row) r.after))
    f = framed_at tree rs (beside r.before (NamedBranch r.number r.kind (beside done row) r.after)) whole

    own : IsShown slots r.number (what.Node r.kind) (item_count (unnumbered (beside done row)) + 2) (heads (beside done row))
    own = (shows_right slots r.before (NamedBranch r.number r.kind (beside done row) r.after) f.row).0

    siblings : AreSiblings (links_of slots).parent (links_of slots).before (links_of slots).after (parent_in root.0 rs) (last_or None (heads r.before)) (r.number ∷ heads r.after) None
    siblings =
        siblings_right (links_of slots).parent (links_of slots).before (links_of slots).after (parent_in root.0 rs) None (heads r.before) (r.number ∷ heads r.after) None
        (subst (λ ns. AreSiblings (links_of slots).parent (links_of slots).before (links_of slots).after (parent_in root.0 rs) None ns None)
        (heads-beside r.before (NamedBranch r.number r.kind (beside done row) r.after)) f.inner.children.row)

-- the cursor of the code is there
pub at_place : {slots : Slots} {root : NodeId} {items : List PlainItem} (tree : IsTree slots root items) (place : placed.Place) (parent : NodeId) (next : Option NodeId) → tree.named ≡ placed.whole_of place →
    placed.IsAt root.0 parent next place → IsAt slots (record { parent = parent; next = next; inside = 0 }) (spot_of (open_round root.0 place.round) (placed.coming_signs place))
at_place {slots = slots} {root = root} tree place parent next whole at =
    let rows = subst (λ p. AreRows slots p next place.row (rounds_of root.0 place.round)) (sym at.parent_is)
    (are_rows tree place.round place.done place.row next whole at.next_is) in
    subst (λ ss. IsAt slots (record { parent = parent; next = next; inside = 0 }) (spot_of (open_round root.0 place.round) ss)) (signs_left root.0 place.row place.round)
    (subst (λ os. IsAt slots (record { parent = parent; next = next; inside = 0 }) (spot_of os (left_signs place.row (rounds_of root.0 place.round))))
    (ap (λ n. n ∷ map outer_of (rounds_of root.0 place.round)) at.parent_is ∙ open_left root.0 place.round)
    (at_start slots parent next place.row (rounds_of root.0 place.round) rows))
