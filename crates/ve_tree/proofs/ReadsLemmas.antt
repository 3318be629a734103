-- The tree that links are is what is read from them, and nothing else is.
use Rattle.std.proofs.Common.{◌≡◌, ℕ, Option, Some, None, List, [], ◌∷◌, option_map, refl, sym, ap, ◌∙◌, subst}
use Rattle.model_items.specs.declared.plain_item.PlainItem.{PlainItem}
use Rattle.model_items.specs.Tree.{shapes}
use Rattle.model_items.proofs.TreeLemmas.{tree_spells}
use Rattle.ve_arena.specs.declared.node.NodeId.{NodeId}
use Rattle.ve_arena.specs.declared.node.NodeWhat.{NodeWhat}
use Rattle.ve_arena.specs.Arena.{slot_at}
use Rattle.ve_tree.specs.Links.{links_of, first_or, last_or, AreSiblings}
use Rattle.ve_tree.specs.Named.{Named, NoNode, NamedRun, NamedBranch, unnumbered, heads, Shows}
use Rattle.ve_tree.specs.IsTree.{IsTree}
use Rattle.ve_tree.specs.Reads.{IsReadAs, IsRead, IsReadUnder, TreeIsRead, OneIsRead, OneNumbering}
use Rattle.ve_tree.proofs.GrownLemmas.{Slots}

pub last_or-cons : (before : Option ℕ) (n : ℕ) (ns : List ℕ) → last_or before (n ∷ ns) ≡ last_or (Some n) ns
last_or-cons before n [] = refl
last_or-cons before n (m ∷ ns) = refl

-- siblings, read from the first one on
pub row_is_read : (slots : Slots) (f : Named) (p : ℕ) (before : Option ℕ) → AreSiblings (links_of slots).parent (links_of slots).before (links_of slots).after p before (heads f) None →
    (links_of slots).last p ≡ last_or before (heads f) → Shows slots f → IsRead slots p before (first_or (heads f) None) f
row_is_read slots NoNode p before row last shown = (refl, last)
row_is_read slots (NamedRun n count later) p before row last shown = (
  refl,
  record { sort_is = shown.0.sort_is; len_is = shown.0.len_is; parent_is = row.0; before_is = row.1 },
  (shown.0.children.first, shown.0.children.last),
  subst (λ here. IsRead slots p (Some n) here later) (sym row.2)
      (row_is_read slots later p (Some n) row.3 (last ∙ last_or-cons before n (heads later)) shown.1),
)
row_is_read slots (NamedBranch n kind inside later) p before row last shown = (
  refl,
  record { sort_is = shown.0.sort_is; len_is = shown.0.len_is; parent_is = row.0; before_is = row.1 },
  subst (λ here. IsRead slots n None here inside) (sym shown.0.children.first)
      (row_is_read slots inside n None shown.0.children.row shown.0.children.last shown.1),
  subst (λ here. IsRead slots p (Some n) here later) (sym row.2)
      (row_is_read slots later p (Some n) row.3 (last ∙ last_or-cons before n (heads later)) shown.2),
)

tree_read : (slots : Slots) (root : NodeId) (items : List PlainItem) (tree : IsTree slots root items) → IsReadUnder slots root tree.named
tree_read slots root items tree =
    subst (λ here. IsRead slots root.0 None here tree.named) (sym tree.root_shown.children.first)
    (row_is_read slots tree.named root.0 None tree.root_shown.children.row tree.root_shown.children.last tree.shown)

pub tree_is_read : TreeIsRead
tree_is_read slots root items tree = record {
  lawful = tree.lawful;
  is_tree = tree.is_tree;
  root_labelled = record { sort_is = tree.root_shown.sort_is; len_is = tree.root_shown.len_is };
  root_alone = tree.root_alone;
  read = tree_read slots root items tree;
  only = tree.only;
}

pub one_number : (here : Option ℕ) (n m : ℕ) → here ≡ Some n → here ≡ Some m → n ≡ m
one_number here n m h k = let both : ◌≡◌ {A = Option ℕ} (Some n) (Some m) = sym h ∙ k in cc

one_len : (slots : Slots) (n m p : ℕ) (before : Option ℕ) (a b : NodeWhat) (k l : ℕ) → n ≡ m → IsReadAs slots n p before a k → IsReadAs slots m p before b l → (a ≡ b) × (k ≡ l)
one_len slots n m p before a b k l e x y =
    let sorts : ◌≡◌ {A = Option NodeWhat} (Some a) (Some b) = sym x.sort_is ∙ ap (λ n. option_map (λ node. node.what) (slot_at slots n)) e ∙ y.sort_is in
    let lens : ◌≡◌ {A = Option ℕ} (Some k) (Some l) = sym x.len_is ∙ ap (λ n. option_map (λ node. node.len) (slot_at slots n)) e ∙ y.len_is in
    (cc, cc)

pub one_is_read : OneIsRead
one_is_read slots p before here NoNode NoNode x y = refl
one_is_read slots p before here NoNode (NamedRun m l later) x y = let bad : ◌≡◌ {A = Option ℕ} None (Some m) = sym x.0 ∙ y.0 in absurd (cc)
one_is_read slots p before here NoNode (NamedBranch m k inside later) x y = let bad : ◌≡◌ {A = Option ℕ} None (Some m) = sym x.0 ∙ y.0 in absurd (cc)
one_is_read slots p before here (NamedRun n count later) NoNode x y = let bad : ◌≡◌ {A = Option ℕ} None (Some n) = sym y.0 ∙ x.0 in absurd (cc)
one_is_read slots p before here (NamedBranch n kind inside later) NoNode x y = let bad : ◌≡◌ {A = Option ℕ} None (Some n) = sym y.0 ∙ x.0 in absurd (cc)
one_is_read slots p before here (NamedRun n count later) (NamedBranch m k inside more) x y =
    let e = one_number here n m x.0 y.0 in
    let bad = (one_len slots n m p before _ _ _ _ e x.1 y.1).0 in absurd (cc)
one_is_read slots p before here (NamedBranch n kind inside later) (NamedRun m l more) x y =
    let e = one_number here n m x.0 y.0 in
    let bad = (one_len slots n m p before _ _ _ _ e x.1 y.1).0 in absurd (cc)
one_is_read slots p before here (NamedRun n count later) (NamedRun m l more) x y =
    let e = one_number here n m x.0 y.0 in
    let len = (one_len slots n m p before _ _ _ _ e x.1 y.1).1 in
    let rest = one_is_read slots p (Some n) ((links_of slots).after n) later more x.3 (subst (λ m. IsRead slots p (Some m) ((links_of slots).after m) more) (sym e) y.3) in
    λ i. NamedRun (e i) (len i) (rest i)
one_is_read slots p before here (NamedBranch n kind inside later) (NamedBranch m k within more) x y =
    let e = one_number here n m x.0 y.0 in
    let sort = (one_len slots n m p before _ _ _ _ e x.1 y.1).0 in
    let same : kind ≡ k = cc in
    let in_ = one_is_read slots n None ((links_of slots).first n) inside within x.2 (subst (λ m. IsRead slots m None ((links_of slots).first m) within) (sym e) y.2) in
    let rest = one_is_read slots p (Some n) ((links_of slots).after n) later more x.3 (subst (λ m. IsRead slots p (Some m) ((links_of slots).after m) more) (sym e) y.3) in
    λ i. NamedBranch (e i) (same i) (in_ i) (rest i)

pub one_numbering : OneNumbering
one_numbering slots root items others tree other =
    let same = one_is_read slots root.0 None ((links_of slots).first root.0) tree.named other.named (tree_read slots root items tree) (tree_read slots root others other) in
    (same, sym (tree_spells items tree.lawful) ∙ ap shapes (sym tree.is_tree ∙ ap unnumbered same ∙ other.is_tree) ∙ tree_spells others other.lawful)
