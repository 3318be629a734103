-- The writes of lengths cost no more than the new tree's nodes.
use Rattle.std.proofs.Common.{◌≡◌, ◌≤◌, ℕ, suc, ◌+◌, ◌-◌, Option, List, [], ◌∷◌, ◌++◌, map, length, Some, refl, sym, ap, ◌∙◌, subst, arith}
use Rattle.model_items.specs.Tree.{item_count}
use Rattle.model_change.specs.Touch.{NodeName, TheRoot, Opened}
use Rattle.ve_arena.specs.declared.node.ArenaNode.{ArenaNode}
use Rattle.ve_tree.specs.Named.{Named, NoNode, NamedRun, NamedBranch, unnumbered, Shows}
use Rattle.ve_tree.specs.IsTree.{IsTree}
use Rattle.ve_arena.specs.declared.node.NodeId.{NodeId}
use Rattle.model_items.specs.declared.plain_item.PlainItem.{PlainItem}
use Rattle.model_items.proofs.NodeAtLemmas.{count_all}
use Rattle.ve_tree.specs.Grown.{id_of}
use Rattle.ve_repair.specs.declared.script.Step.{Step}
use Rattle.ve_repair.specs.Spelled.{Sign, BeginOf, LettersOf, EndOf}
use Rattle.ve_repair.specs.Sizes.{Sized, Begun, sizes, open_after, place_after, signs_of, forest_sizes, HaveSizes}
use Rattle.ve_repair.specs.SizesRight.{inner_sizes, ends, closing_sizes}
use Rattle.ve_repair.specs.Sizing.{Sizing, len_under, resize_of}
use Rattle.ve_repair.specs.Writes.{weight}
use Rattle.ve_repair.specs.Lengths.{under_root, StartsAt, whole_writes, LeadsOn, HaveLengths}
use Rattle.ve_repair.specs.Numbered.{Numbered, numbered_from, numbered_of}
use Rattle.ve_repair.proofs.SizeLemmas.{sizes_append, have_front, have_behind, have_both}
use Rattle.ve_repair.proofs.SizesRightLemmas.{from_start}
use Rattle.ve_repair.proofs.WalkedLemmas.{resizes}
use Rattle.ve_repair.proofs.ScriptSignsLemmas.{lens}
use Rattle.ve_repair.proofs.LengthLemmas.{all_sizes, old_parts, of_forest, lens-some, written-is}
use Rattle.ve_repair.proofs.NestedLemmas.{place-append, place-from}
use Rattle.ve_repair.proofs.ChargeLemmas.{weight-append}
use Rattle.ve_repair.proofs.ChargedLemmas.{length_cost, lengths_cost, HaveCounts}
use Rattle.ve_repair.proofs.NumberedLemmas.{each_append, place_passed}

abbrev Slots : Type 0
Slots = List (Option ArenaNode)

abbrev sized_cost : Slots → List Sized → ℕ
sized_cost slots [] = 0
sized_cost slots (z ∷ zs) = length_cost slots z.node z.len + sized_cost slots zs

resizes_cost : (slots : Slots) (zs : List Sized) → weight (resizes slots zs) ≡ sized_cost slots zs
resizes_cost slots [] = refl
resizes_cost slots (z ∷ zs) = weight-append (resize_of slots (id_of z.node) z.len) (resizes slots zs)
    ∙ ap (λ k. length_cost slots z.node z.len + k) (resizes_cost slots zs)

sized-append : (slots : Slots) (ys zs : List Sized) → sized_cost slots (ys ++ zs) ≡ sized_cost slots ys + sized_cost slots zs
sized-append slots [] zs = omega arith
sized-append slots (y ∷ ys) zs = let r = sized-append slots ys zs in omega (arith, r)

-- right of the range: nodes that begin there, and those that are open
no_closing : (slots : Slots) (open_ : List Begun) → sized_cost slots (closing_sizes open_ []) ≡ 0
no_closing slots [] = refl
no_closing slots (b ∷ open_) = refl

right_cost : (slots : Slots) (ss : List Sign) (begun open_ : List Begun) (at : ℕ) →
    sized_cost slots (sizes ss (begun ++ open_) at) ≡ sized_cost slots (inner_sizes ss begun at) + sized_cost slots (closing_sizes open_ (ends ss begun at))
right_cost slots [] begun open_ at = let e = no_closing slots open_ in omega (arith, e)
right_cost slots (BeginOf n kind ∷ ss) begun open_ at = right_cost slots ss (record { node = n; from = at } ∷ begun) open_ (suc at)
right_cost slots (LettersOf n count ∷ ss) begun open_ at = let r = right_cost slots ss begun open_ (at + count) in omega (arith, r)
right_cost slots (EndOf kind ∷ ss) [] [] at = omega arith
right_cost slots (EndOf kind ∷ ss) [] (b ∷ open_) at = let r = right_cost slots ss [] open_ (suc at) in omega (arith, r)
right_cost slots (EndOf kind ∷ ss) (b ∷ begun) open_ at = let r = right_cost slots ss begun open_ (suc at) in omega (arith, r)

lengths-append : (slots : Slots) (ms ns : List Numbered) → lengths_cost slots (ms ++ ns) ≡ lengths_cost slots ms + lengths_cost slots ns
lengths-append slots [] ns = omega arith
lengths-append slots (m ∷ ms) ns = let r = lengths-append slots ms ns in omega (arith, r)

-- the lengths of a forest, in the order of the nodes' ends, are those of its nodes in the order of
-- their starts
forest_cost : (slots : Slots) (f : Named) (above : ℕ) (parent : NodeName) (at : ℕ) →
    sized_cost slots (forest_sizes f) ≡ lengths_cost slots (numbered_from above parent at f)
forest_cost slots NoNode above parent at = refl
forest_cost slots (NamedRun n count later) above parent at = ap (λ k. length_cost slots n count + k) (forest_cost slots later above parent (at + count))
forest_cost slots (NamedBranch n kind inside later) above parent at =
    let len = item_count (unnumbered inside) + 2 in
    let next = at + item_count (unnumbered inside) + 2 in
    let one = sized-append slots (forest_sizes inside) (record { node = n; len = len } ∷ forest_sizes later) in
    let two = lengths-append slots (numbered_from n (Opened at) (suc at) inside) (numbered_from above parent next later) in
    let in_ = forest_cost slots inside n (Opened at) (suc at) in
    let out = forest_cost slots later above parent next in
    omega (arith, one, two, in_, out)

counts_of : (slots : Slots) (f : Named) (above : ℕ) (parent : NodeName) (at : ℕ) → HaveSizes slots (forest_sizes f) →
    HaveCounts slots (numbered_from above parent at f)
counts_of slots NoNode above parent at h = tt
counts_of slots (NamedRun n count later) above parent at h = (lens-some slots n count h.0, counts_of slots later above parent (at + count) h.1)
counts_of slots (NamedBranch n kind inside later) above parent at h =
    let len = item_count (unnumbered inside) + 2 in
    let next = at + item_count (unnumbered inside) + 2 in
    let behind = have_behind slots (forest_sizes inside) (record { node = n; len = len } ∷ forest_sizes later) h in (
      lens-some slots n len behind.0,
      each_append (λ (o : Numbered). len_under slots (id_of o.number) ≡ o.node.count) (numbered_from n (Opened at) (suc at) inside) (numbered_from above parent next later)
          (counts_of slots inside n (Opened at) (suc at) (have_front slots (forest_sizes inside) (record { node = n; len = len } ∷ forest_sizes later) h))
          (counts_of slots later above parent next behind.1),
    )

-- the old nodes have their lengths
pub old_counts : (slots : Slots) (root : ℕ) (f : Named) → HaveLengths slots root f → HaveCounts slots (numbered_of root (place_after (signs_of f) 0) f)
old_counts slots root f h = (lens-some slots root (place_after (signs_of f) 0) h.all, counts_of slots f root TheRoot 0 (subst (HaveSizes slots) (of_forest f []) h.nodes))

-- and what is written for a script costs no more than the lengths of the new ones
pub written_cost : (slots : Slots) (root : ℕ) (old new : Named) (lefts ss mids rights : List Sign) (xs : List Step) (s : Sizing) →
    LeadsOn old new lefts ss mids rights xs → StartsAt root lefts s →
    HaveLengths slots root old → weight (whole_writes slots xs s) ≤ lengths_cost slots (numbered_of root (place_after (signs_of new) 0) new)
written_cost slots root old new lefts ss mids rights xs s leads starts lens_ =
    omega (arith, total, one, two, three, four, right, nodes, cut, cut2, end)
  where
    ol : List Begun
    ol = open_after lefts (under_root root) 0

    pl : ℕ
    pl = place_after lefts 0

    bs : List Begun
    bs = open_after mids ol pl

    b : ℕ
    b = place_after mids pl

    len : ℕ
    len = b + (lens slots root - place_after ss pl)

    closed : List Sized
    closed = closing_sizes bs (map (λ e. b + e) (ends rights [] 0))

    last : List Sized
    last = record { node = root; len = len } ∷ []

    total : weight (whole_writes slots xs s) ≡ sized_cost slots (all_sizes root lefts mids rights len)
    total = ap weight (written-is slots root old new lefts ss mids rights xs s leads starts (old_parts slots root old lefts ss rights leads.old_signs lens_.nodes)) ∙ resizes_cost slots (all_sizes root lefts mids rights len)

    one : sized_cost slots (all_sizes root lefts mids rights len) ≡ sized_cost slots (sizes lefts (under_root root) 0) + sized_cost slots (sizes mids ol pl ++ (inner_sizes rights [] 0 ++ (closed ++ last)))
    one = sized-append slots (sizes lefts (under_root root) 0) (sizes mids ol pl ++ (inner_sizes rights [] 0 ++ (closed ++ last)))

    two : sized_cost slots (sizes mids ol pl ++ (inner_sizes rights [] 0 ++ (closed ++ last))) ≡ sized_cost slots (sizes mids ol pl) + sized_cost slots (inner_sizes rights [] 0 ++ (closed ++ last))
    two = sized-append slots (sizes mids ol pl) (inner_sizes rights [] 0 ++ (closed ++ last))

    three : sized_cost slots (inner_sizes rights [] 0 ++ (closed ++ last)) ≡ sized_cost slots (inner_sizes rights [] 0) + sized_cost slots (closed ++ last)
    three = sized-append slots (inner_sizes rights [] 0) (closed ++ last)

    four : sized_cost slots (closed ++ last) ≡ sized_cost slots closed + (length_cost slots root len + 0)
    four = sized-append slots closed last

    right : sized_cost slots (sizes rights bs b) ≡ sized_cost slots (inner_sizes rights [] 0) + sized_cost slots closed
    right = right_cost slots rights [] bs b ∙ (λ i. sized_cost slots ((from_start b rights).0 i) + sized_cost slots (closing_sizes bs ((from_start b rights).1 i)))

    cut : sized_cost slots (sizes (lefts ++ (mids ++ rights)) (under_root root) 0) ≡ sized_cost slots (sizes lefts (under_root root) 0) + sized_cost slots (sizes (mids ++ rights) ol pl)
    cut = ap (sized_cost slots) (sizes_append lefts (mids ++ rights) (under_root root) 0)
        ∙ sized-append slots (sizes lefts (under_root root) 0) (sizes (mids ++ rights) ol pl)

    cut2 : sized_cost slots (sizes (mids ++ rights) ol pl) ≡ sized_cost slots (sizes mids ol pl) + sized_cost slots (sizes rights bs b)
    cut2 = ap (sized_cost slots) (sizes_append mids rights ol pl) ∙ sized-append slots (sizes mids ol pl) (sizes rights bs b)

    nodes : sized_cost slots (sizes (lefts ++ (mids ++ rights)) (under_root root) 0) ≡ lengths_cost slots (numbered_from root TheRoot 0 new)
    nodes = ap (λ l. sized_cost slots (sizes l (under_root root) 0)) (sym leads.new_signs_are) ∙ ap (sized_cost slots) (of_forest new (under_root root))
        ∙ forest_cost slots new root TheRoot 0

    all : len ≡ place_after (signs_of new) 0
    all =
        let root_len = lens-some slots root (place_after (signs_of old) 0) lens_.all in
        let old_is = ap (λ l. place_after l 0) leads.old_signs ∙ place-append lefts (ss ++ rights) 0 ∙ place-append ss rights pl
        ∙ place-from rights (place_after ss pl) in
        let new_is = ap (λ l. place_after l 0) leads.new_signs_are ∙ place-append lefts (mids ++ rights) 0 ∙ place-append mids rights pl
        ∙ place-from rights (place_after mids pl) in
        omega (arith, root_len, old_is, new_is)

    end : length_cost slots root len ≡ length_cost slots root (place_after (signs_of new) 0)
    end = ap (length_cost slots root) all

-- a tree's nodes have its lengths
shown_sizes : (slots : Slots) (f : Named) → Shows slots f → HaveSizes slots (forest_sizes f)
shown_sizes slots NoNode h = tt
shown_sizes slots (NamedRun n count later) h = (h.0.len_is, shown_sizes slots later h.1)
shown_sizes slots (NamedBranch n kind inside later) h =
    have_both slots (forest_sizes inside) (record { node = n; len = item_count (unnumbered inside) + 2 } ∷ forest_sizes later) (shown_sizes slots inside h.1) (h.0.len_is, shown_sizes slots later h.2)

pub tree_lengths : (slots : Slots) (root : NodeId) (items : List PlainItem) (tree : IsTree slots root items) → HaveLengths slots root.0 tree.named
tree_lengths slots root items tree = record {
  nodes = subst (HaveSizes slots) (sym (of_forest tree.named [])) (shown_sizes slots tree.named tree.shown);
  all = tree.root_shown.len_is ∙ ap Some (sym (place_passed tree.named 0 ∙ all));
}
  where
    all : 0 + item_count (unnumbered tree.named) ≡ length items
    all = let c = ap item_count tree.is_tree ∙ count_all items tree.lawful in omega (arith, c)
