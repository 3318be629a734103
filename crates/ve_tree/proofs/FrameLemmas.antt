-- The surroundings of a row of a forest: the nodes round it, from the inside out, and their
-- siblings.
use Rattle.std.proofs.Common.{◌≡◌, ◌+◌, ℕ, List, [], ◌∷◌, ◌++◌, subst}
use Rattle.ve_kinds.specs.declared.kind.Kind.TheVariants.{Root}
use Rattle.model_items.specs.Tree.{item_count}
use Rattle.ve_arena.specs.declared.node.NodeWhat.{NodeWhat}
use Rattle.ve_arena.specs.declared.node.NodeWhat.TheVariants as what
use Rattle.ve_tree.specs.Links.{AllApart}
use Rattle.ve_tree.specs.Named.{Named, NamedBranch, unnumbered, heads, node_numbers, IsShown, Shows}
use Rattle.ve_tree.specs.Rows.{beside, Round, within, parent_in}
use Rattle.ve_tree.proofs.GrownLemmas.{Slots, apart-ls, apart-rs, apart-join, all-ls, all-rs, all-join, Disjoint, disjoint-turned, disjoint-cons, disjoint-swap}
use Rattle.ve_tree.proofs.FitsLemmas.{disjoint_of}
use Rattle.ve_tree.proofs.RowLemmas.{count-beside}
use Rattle.ve_tree.proofs.BesideLemmas.{heads-beside, numbers-beside, shows_left, shows_right}

-- what the node is that a row stands in, and how long it is
abbrev pub sort_in : List Round → NodeWhat
sort_in [] = what.Node Root
sort_in (r ∷ rs) = what.Node r.kind

abbrev pub len_round : List Round → ℕ → ℕ
len_round [] count = count
len_round (r ∷ rs) count = count + 2

-- a node with its siblings: their numbers, and how many items they take where so many stand inside
abbrev pub kids_round : Round → List ℕ
kids_round r = heads r.before ++ (r.number ∷ heads r.after)

abbrev pub count_round : Round → ℕ → ℕ
count_round r count = item_count (unnumbered r.before) + (count + 2 + item_count (unnumbered r.after))

-- what stands round the node that so many items stand in
abbrev pub Outer : Slots → ℕ → List Round → ℕ → Type 0
Outer slots root [] count = Unit {0}
Outer slots root (r ∷ rs) count =
    Shows slots r.before × Shows slots r.after × IsShown slots (parent_in root rs) (sort_in rs) (len_round rs (count_round r count)) (kids_round r) × Outer slots root rs (count_round r count)

-- a forest, the node that it stands in, and what stands round that
pub record Framed (slots : Slots) (root : ℕ) (rs : List Round) (x : Named) : Type 0 where
  pub inner : IsShown slots (parent_in root rs) (sort_in rs) (len_round rs (item_count (unnumbered x))) (heads x)
  pub outer : Outer slots root rs (item_count (unnumbered x))
  pub row : Shows slots x

count-whole : (r : Round) (x : Named) → item_count (unnumbered (beside r.before (NamedBranch r.number r.kind x r.after))) ≡ count_round r (item_count (unnumbered x))
count-whole r x = count-beside r.before (NamedBranch r.number r.kind x r.after)

heads-whole : (r : Round) (x : Named) → heads (beside r.before (NamedBranch r.number r.kind x r.after)) ≡ kids_round r
heads-whole r x = heads-beside r.before (NamedBranch r.number r.kind x r.after)

pub framed_of : (slots : Slots) (root : ℕ) (rs : List Round) (x : Named) → Shows slots (within rs x) →
    IsShown slots root (what.Node Root) (item_count (unnumbered (within rs x))) (heads (within rs x)) → Framed slots root rs x
framed_of slots root [] x s h = record { inner = h; outer = tt; row = s }
framed_of slots root (r ∷ rs) x s h =
    let y = beside r.before (NamedBranch r.number r.kind x r.after) in
    let f = framed_of slots root rs y s h in
    let right = shows_right slots r.before (NamedBranch r.number r.kind x r.after) f.row in
    record {
      inner = right.0;
      outer = (
        shows_left slots r.before (NamedBranch r.number r.kind x r.after) f.row,
        right.2,
        subst (λ c. IsShown slots (parent_in root rs) (sort_in rs) (len_round rs c) (kids_round r)) (count-whole r x)
            (subst (IsShown slots (parent_in root rs) (sort_in rs) (len_round rs (item_count (unnumbered y)))) (heads-whole r x) f.inner),
        subst (Outer slots root rs) (count-whole r x) f.outer,
      );
      row = right.1;
    }

-- the numbers outside, but for that of the node the row stands in
abbrev pub rest_numbers : ℕ → List Round → List ℕ
rest_numbers root [] = []
rest_numbers root (r ∷ rs) = node_numbers r.before ++ (node_numbers r.after ++ (parent_in root rs ∷ rest_numbers root rs))

-- and those of the nodes round the row, from the inside out
abbrev pub way_round : ℕ → List Round → List ℕ
way_round root [] = root ∷ []
way_round root (r ∷ rs) = r.number ∷ way_round root rs

disjoint_first : (qs ls rs : List ℕ) → Disjoint (qs ++ ls) rs → Disjoint qs rs
disjoint_first [] ls rs d = tt
disjoint_first (q ∷ qs) ls rs d = (d.0, disjoint_first qs ls rs d.1)

disjoint_second : (qs ls rs : List ℕ) → Disjoint (qs ++ ls) rs → Disjoint ls rs
disjoint_second [] ls rs d = d
disjoint_second (q ∷ qs) ls rs d = disjoint_second qs ls rs d.1

pub disjoint_join : (qs ls rs : List ℕ) → Disjoint qs ls → Disjoint qs rs → Disjoint qs (ls ++ rs)
disjoint_join [] ls rs d e = tt
disjoint_join (q ∷ qs) ls rs d e = (apart-join q ls rs d.0 e.0, disjoint_join qs ls rs d.1 e.1)

-- all of them are distinct
turned : (bs xs cs ts : List ℕ) (n : ℕ) → AllApart ((bs ++ (n ∷ (xs ++ cs))) ++ ts) → AllApart (xs ++ (n ∷ (bs ++ (cs ++ ts))))
turned bs xs cs ts n h =
    let own = all-ls (bs ++ (n ∷ (xs ++ cs))) ts h in
    let out = disjoint_of (bs ++ (n ∷ (xs ++ cs))) ts h in
    let all = all-rs bs (n ∷ (xs ++ cs)) own in
    let front = disjoint_of bs (n ∷ (xs ++ cs)) own in
    let b_t = disjoint_first bs (n ∷ (xs ++ cs)) ts out in
    let rest = disjoint_second bs (n ∷ (xs ++ cs)) ts out in
    let x_t = disjoint_first xs cs ts rest.1 in
    let a_t = disjoint_second xs cs ts rest.1 in
    let x_a = disjoint_of xs cs all.1 in
    let swapped = disjoint-swap bs (n ∷ (xs ++ cs)) front in
    let x_b = disjoint_first xs cs bs swapped.1 in
    let a_b = disjoint_second xs cs bs swapped.1 in
    all-join xs (n ∷ (bs ++ (cs ++ ts))) (all-ls xs cs all.1) (
      apart-join n bs (cs ++ ts) swapped.0 (apart-join n cs ts (apart-rs n xs cs all.0) rest.0),
      all-join bs (cs ++ ts) (all-ls bs (n ∷ (xs ++ cs)) own) (all-join cs ts (all-rs xs cs all.1) (all-rs (bs ++ (n ∷ (xs ++ cs))) ts h) a_t)
          (disjoint_join bs cs ts (disjoint-swap cs bs a_b) b_t),
    )
    (disjoint-cons xs n (bs ++ (cs ++ ts)) (apart-ls n xs cs all.0) (disjoint_join xs bs (cs ++ ts) x_b (disjoint_join xs cs ts x_a x_t)))

pub all_outer : (root : ℕ) (rs : List Round) (x : Named) → AllApart (root ∷ node_numbers (within rs x)) → AllApart (node_numbers x ++ (parent_in root rs ∷ rest_numbers root rs))
all_outer root [] x h = all-join (node_numbers x) (root ∷ []) h.1 (tt, tt) (disjoint-turned root (node_numbers x) h.0)
all_outer root (r ∷ rs) x h =
    let y = beside r.before (NamedBranch r.number r.kind x r.after) in
    turned (node_numbers r.before) (node_numbers x) (node_numbers r.after) (parent_in root rs ∷ rest_numbers root rs) r.number
    (subst (λ l. AllApart (l ++ (parent_in root rs ∷ rest_numbers root rs))) (numbers-beside r.before (NamedBranch r.number r.kind x r.after)) (all_outer root rs y h))
