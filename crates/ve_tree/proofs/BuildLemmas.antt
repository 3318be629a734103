-- The root with the children that were read is the tree.
use Rattle.std.proofs.Common.{◌≡◌, ◌≤◌, ◌+◌, ◌*◌, ℕ, zero, suc, Option, Some, List, [], length, option_map, refl, sym, ap, ◌∙◌, arith, slice_get}
use Rattle.std.proofs.lemmas.List.{length-map}
use Rattle.std.proofs.Math.Seq.{drop-length}
use Rattle.ve_kinds.specs.declared.kind.Kind.TheVariants.{Root}
use Rattle.model_items.specs.declared.item.Item.{Item}
use Rattle.model_items.specs.declared.plain_item.PlainItem.{PlainItem}
use Rattle.model_items.specs.Cost.{cost_of_tree}
use Rattle.model_items.specs.Plain.{plain}
use Rattle.model_items.specs.Law.{Lawful}
use Rattle.model_items.specs.Tree.{Reading, tree_of, node_count}
use Rattle.ve_arena.specs.declared.node.NodeId.{NodeId}
use Rattle.ve_arena.specs.declared.node.NodeWhat.TheVariants as what
use Rattle.ve_arena.specs.declared.node.ArenaNode.{ArenaNode}
use Rattle.ve_arena.specs.Arena.{slot_at, new_node, with_len, Puts, Changes}
use Rattle.ve_tree.specs.Links.{link_in}
use Rattle.ve_tree.specs.Named.{heads}
use Rattle.ve_tree.specs.IsTree.{unvalued, IsTree}
use Rattle.ve_tree.specs.Grown.{with_children, reading_from, closes, closes_from, count_from, OpensNode, ReadChildren}
use Rattle.ve_tree.proofs.ReadLemmas.{item_at, opening-inside, count-whole}

root_made : (s0 s1 s2 : List (Option ArenaNode)) (root : NodeId) (len : ℕ) → Puts s0 s1 root (Some (new_node (what.Node Root))) → Changes s1 s2 root (with_len len) →
    slot_at s2 root.0 ≡ Some (with_len len (new_node (what.Node Root)))
root_made s0 s1 s2 root len made write = write.here ∙ ap (option_map (with_len len)) made.here

-- the list's first items are read
whole : (items : List Item) (from : ℕ) → Lawful (unvalued items) → from ≤ length items → closes_from items from ≡ [] →
    ((m : ℕ) (x : Item) → suc m ≡ from → slice_get items m ≡ Some x → OpensNode x) → from ≡ 0
whole items zero lawful within closed ended = refl
whole items (suc k) lawful within closed ended =
    let here = item_at items k (omega (arith, within)) in
    absurd (opening-inside items k here.0 lawful here.1 (ended k here.0 refl here.1) closed)

-- the root was made in an empty arena, and has the children that were read
pub built_is_tree : (s0 s1 s2 s3 : List (Option ArenaNode)) (root : NodeId) (items : List Item) (len to from : ℕ) → s0 ≡ [] → len ≡ length items → to ≡ length items →
    Puts s0 s1 root (Some (new_node (what.Node Root))) → Changes s1 s2 root (with_len len) → ReadChildren s2 s3 root.0 items from to → Lawful (unvalued items) →
    IsTree s3 root (unvalued items)
built_is_tree s0 s1 s2 s3 root items len to from empty len_is to_is made write read lawful = record {
  lawful = lawful;
  named = read.forest;
  is_tree = sym (ap (λ (r : Reading). r.here) (sym (ap (reading_from items) from_is) ∙ read.reads));
  apart = read.grown.apart;
  shown = read.grown.shown;
  root_shown = record {
    sort_is = ap (option_map (λ node. node.what)) root_is;
    len_is = ap (option_map (λ node. node.len)) root_is ∙ ap (λ (n : ℕ). Some n) (len_is ∙ sym (length-map items (plain [])));
    children = read.grown.children;
  };
  root_alone = record {
    no_parent = ap (link_in (λ node. node.parent)) root_is;
    no_before = ap (link_in (λ node. node.before)) root_is;
    no_after = ap (link_in (λ node. node.after)) root_is;
  };
  only = λ q a. read.grown.others q a ∙ write.others q a.0 ∙ made.others q a.0 ∙ ap (λ slots. slot_at slots q) empty;
}
  where
    at_end : closes_from items to ≡ []
    at_end = ap (closes_from items) to_is ∙ ap (λ l. closes (unvalued l)) (drop-length items)

    from_is : from ≡ 0
    from_is = whole items from lawful (omega (arith, read.count, to_is)) (read.closed ∙ at_end) read.ended

    root_is : slot_at s3 root.0 ≡ Some (with_children (heads read.forest) (with_len len (new_node (what.Node Root))))
    root_is = read.grown.own ∙ ap (option_map (with_children (heads read.forest))) (root_made s0 s1 s2 root len made write)

-- two steps for the root, six for each other node
pub steps_built : (before s1 s2 after : ℕ) (items : List Item) (to : ℕ) → Lawful (unvalued items) → s1 ≡ before + 1 → s2 ≡ s1 + 1 →
    after + 6 * count_from items to ≤ s2 + 6 * count_from items 0 → after ≤ before + (6 * node_count (tree_of (unvalued items)) + 2)
steps_built before s1 s2 after items to lawful e1 e2 h = by_counts (count_from items to) (count_from items 0) (node_count (tree_of (unvalued items))) h (count-whole items lawful)
  where
    by_counts : (e z n : ℕ) → after + 6 * e ≤ s2 + 6 * z → z ≡ n → after ≤ before + (6 * n + 2)
    by_counts e z n h k = omega (arith, h, k, e1, e2)

-- within the bound that is stated of making any list's tree
pub within_cost : (before after : ℕ) (items : List PlainItem) → after ≤ before + (6 * node_count (tree_of items) + 2) → after ≤ before + cost_of_tree items
within_cost before after items h = by_count (node_count (tree_of items)) h
  where
    by_count : (n : ℕ) → after ≤ before + (6 * n + 2) → after ≤ before + 8 * (n + 2)
    by_count n h = omega (arith, h)
