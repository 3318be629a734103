-- An arena with the same nodes has the same trees, and the same landmarks.
use Rattle.std.proofs.Common.{◌≡◌, ℕ, List, sym, ap, ◌∙◌, subst, option_map}
use Rattle.model_items.specs.declared.plain_item.PlainItem.{PlainItem}
use Rattle.ve_arena.specs.declared.node.NodeId.{NodeId}
use Rattle.ve_arena.specs.declared.node.NodeWhat.{NodeWhat}
use Rattle.ve_arena.specs.declared.node.ArenaNode.{ArenaNode}
use Rattle.ve_tree.specs.Links.{Links, link_in, links_of, Children}
use Rattle.ve_tree.specs.Named.{Named, NoNode, NamedRun, NamedBranch, IsShown, Shows}
use Rattle.ve_tree.specs.IsTree.{IsAlone, IsTree}
use Rattle.ve_tree.specs.Landmarks.{LandmarkRow, AreLandmarks}
use Rattle.ve_tree.proofs.WalkLemmas.{Slots}
use Rattle.ve_repair.specs.Repaired.{SameNodes}

module _ (old new : Slots) (same : SameNodes old new) where
  same_links : links_of new ≡ links_of old
  same_links = λ i. record {
    parent = λ n. link_in (λ node. node.parent) (same n i);
    first = λ n. link_in (λ node. node.first) (same n i);
    last = λ n. link_in (λ node. node.last) (same n i);
    before = λ n. link_in (λ node. node.before) (same n i);
    after = λ n. link_in (λ node. node.after) (same n i);
  }

  same_shown : (n : ℕ) (sort : NodeWhat) (len : ℕ) (kids : List ℕ) → IsShown old n sort len kids → IsShown new n sort len kids
  same_shown n sort len kids s = record {
    sort_is = ap (option_map (λ (node : ArenaNode). node.what)) (same n) ∙ s.sort_is;
    len_is = ap (option_map (λ (node : ArenaNode). node.len)) (same n) ∙ s.len_is;
    children = subst (λ (l : Links). Children l n kids) (sym same_links) s.children;
  }

  same_shows : (f : Named) → Shows old f → Shows new f
  same_shows NoNode s = tt
  same_shows (NamedRun n count later) s = (same_shown n _ _ _ s.0, same_shows later s.1)
  same_shows (NamedBranch n kind inside later) s = (same_shown n _ _ _ s.0, same_shows inside s.1, same_shows later s.2)

  same_alone : (n : ℕ) → IsAlone old n → IsAlone new n
  same_alone n a = record {
    no_parent = ap (λ (l : Links). l.parent n) same_links ∙ a.no_parent;
    no_before = ap (λ (l : Links). l.before n) same_links ∙ a.no_before;
    no_after = ap (λ (l : Links). l.after n) same_links ∙ a.no_after;
  }

  pub same_tree : (root : NodeId) (items : List PlainItem) → IsTree old root items → IsTree new root items
  same_tree root items tree = record {
    lawful = tree.lawful;
    named = tree.named;
    is_tree = tree.is_tree;
    apart = tree.apart;
    shown = same_shows tree.named tree.shown;
    root_shown = same_shown root.0 _ _ _ tree.root_shown;
    root_alone = same_alone root.0 tree.root_alone;
    only = λ q apart. same q ∙ tree.only q apart;
  }

pub same_landmarks : (old new : Slots) (root : NodeId) (row : LandmarkRow) → SameNodes old new → AreLandmarks old root row → AreLandmarks new root row
unfolding same_tree
same_landmarks old new root row same are n from mark items tree =
    let b = are n from mark items (same_tree new old (λ q. sym (same q)) root items tree) in
    record { place = b.place; listed = b.listed; number_is = b.number_is; from_is = b.from_is }
