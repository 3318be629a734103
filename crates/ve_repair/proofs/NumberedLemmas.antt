-- The model's nodes of a tree, with their numbers, names and lengths.
use Rattle.std.proofs.Common.{◌≡◌, inl, inr, ℕ, suc, ◌+◌, ◌-◌, Option, List, [], ◌∷◌, ◌++◌, length, map, Contains, refl, sym, ap, ◌∙◌, subst, arith}
use Rattle.std.proofs.lemmas.List.{map-append}
use Rattle.model_items.specs.Tree.{item_count}
use Rattle.model_items.specs.declared.plain_item.PlainItem.{PlainItem}
use Rattle.ve_arena.specs.declared.node.ArenaNode.{ArenaNode}
use Rattle.model_change.specs.Touch.{NodeName, TheRoot, Opened, Text, nodes_from}
use Rattle.ve_arena.specs.declared.node.NodeId.{NodeId}
use Rattle.ve_tree.specs.Named.{Named, NoNode, NamedRun, NamedBranch, unnumbered, node_numbers}
use Rattle.ve_tree.specs.IsTree.{IsTree}
use Rattle.ve_tree.specs.Places.{NodePlace, node_places, tree_places}
use Rattle.ve_tree.proofs.ClimbLemmas.{contains_cases}
use Rattle.ve_repair.specs.Spelled.{Sign, BeginOf, LettersOf, EndOf}
use Rattle.ve_repair.specs.Sizes.{signs_of, place_after}
use Rattle.ve_repair.specs.Kept.{name_of, count_of}
use Rattle.ve_repair.specs.Traced.{Stands, IsOpening}
use Rattle.ve_repair.specs.Numbered.{Numbered, numbered_from, numbered_of, Brief, brief, place_brief, NodesAreNumbered}
use Rattle.ve_repair.proofs.MatchLemmas.{IsNamed}
use Rattle.ve_repair.proofs.NestedLemmas.{place-append}
use Rattle.ve_repair.proofs.StandLemmas.{stands_left, stands_right}

-- the nodes
pub numbered_nodes : (f : Named) (above : ℕ) (parent : NodeName) (at : ℕ) →
    map (λ (n : Numbered). n.node) (numbered_from above parent at f) ≡ nodes_from parent at (unnumbered f)
numbered_nodes NoNode above parent at = refl
numbered_nodes (NamedRun n count later) above parent at = ap (λ l. record { name = Text at; parent = parent; count = count } ∷ l) (numbered_nodes later above parent (at + count))
numbered_nodes (NamedBranch n kind inside later) above parent at =
    ap (λ l. record { name = Opened at; parent = parent; count = item_count (unnumbered inside) + 2 } ∷ l)
    (map-append (λ (n : Numbered). n.node) (numbered_from n (Opened at) (suc at) inside) (numbered_from above parent (at + item_count (unnumbered inside) + 2) later)
    ∙ (λ i. numbered_nodes inside n (Opened at) (suc at) i ++ numbered_nodes later above parent (at + item_count (unnumbered inside) + 2) i))

pub numbered_numbers : (f : Named) (above : ℕ) (parent : NodeName) (at : ℕ) →
    map (λ (n : Numbered). n.number) (numbered_from above parent at f) ≡ node_numbers f
numbered_numbers NoNode above parent at = refl
numbered_numbers (NamedRun n count later) above parent at = ap (λ (l : List ℕ). n ∷ l) (numbered_numbers later above parent (at + count))
numbered_numbers (NamedBranch n kind inside later) above parent at =
    ap (λ (l : List ℕ). n ∷ l)
    (map-append (λ (n : Numbered). n.number) (numbered_from n (Opened at) (suc at) inside) (numbered_from above parent (at + item_count (unnumbered inside) + 2) later)
    ∙ (λ i. numbered_numbers inside n (Opened at) (suc at) i ++ numbered_numbers later above parent (at + item_count (unnumbered inside) + 2) i))

one_brief : (n : ℕ) (name : NodeName) (a b : ℕ) → a ≡ b →
    ◌≡◌ {A = Brief} (record { number = n; name = name; count = a }) (record { number = n; name = name; count = b })
one_brief n name a b e = λ i. record { number = n; name = name; count = e i }

numbered_places : (f : Named) (above p : ℕ) (parent : NodeName) (at : ℕ) → map brief (numbered_from above parent at f) ≡ map place_brief (node_places p at f)
numbered_places NoNode above p parent at = refl
numbered_places (NamedRun n count later) above p parent at =
    (λ i. one_brief n (Text at) count (at + count - at) (omega arith) i ∷ numbered_places later above p parent (at + count) i)
numbered_places (NamedBranch n kind inside later) above p parent at =
    let c = item_count (unnumbered inside) + 2 in
    let there : at + item_count (unnumbered inside) + 2 ≡ at + c = omega arith in
    let rest : map brief (numbered_from n (Opened at) (suc at) inside ++ numbered_from above parent (at + item_count (unnumbered inside) + 2) later)
    ≡ map place_brief (node_places n (suc at) inside ++ node_places p (at + c) later) =
    map-append brief (numbered_from n (Opened at) (suc at) inside) (numbered_from above parent (at + item_count (unnumbered inside) + 2) later)
    ∙ (λ i. numbered_places inside n n (Opened at) (suc at) i ++ map brief (numbered_from above parent (there i) later))
    ∙ ap (λ l. map place_brief (node_places n (suc at) inside) ++ l) (numbered_places later above p parent (at + c))
    ∙ sym (map-append place_brief (node_places n (suc at) inside) (node_places p (at + c) later)) in
    (λ i. one_brief n (Opened at) c (at + c - at) (omega arith) i ∷ rest i)

pub nodes_are_numbered : NodesAreNumbered
nodes_are_numbered slots root items tree = record {
  nodes = ap (λ l. record { name = TheRoot; parent = TheRoot; count = length items } ∷ l) (numbered_nodes tree.named root.0 TheRoot 0
      ∙ ap (nodes_from TheRoot 0) tree.is_tree);
  numbers = ap (λ (l : List ℕ). root.0 ∷ l) (numbered_numbers tree.named root.0 TheRoot 0);
  places = (λ i. one_brief root.0 TheRoot (length items) (length items - 0) (omega arith) i ∷ numbered_places tree.named root.0 root.0 TheRoot 0 i);
}

-- each of a list
abbrev pub Each : {X : Type 0} → (X → Type 0) → List X → Type 0
Each P [] = Unit {0}
Each P (x ∷ xs) = P x × Each P xs

pub each_append : {X : Type 0} (P : X → Type 0) (xs ys : List X) → Each P xs → Each P ys → Each P (xs ++ ys)
each_append P [] ys h g = g
each_append P (x ∷ xs) ys h g = (h.0, each_append P xs ys h.1 g)

pub each_contained : {X : Type 0} (P : X → Type 0) (xs : List X) (x : X) → Each P xs → Contains xs x → P x
each_contained P [] x h c = let l = c.1 in absurd (omega (arith, l))
each_contained P (y ∷ xs) x h c = elim (contains_cases y x xs c) [ inl e ↦ subst P e h.0 | inr l ↦ each_contained P xs x h.1 l ]

pub each_mapped : {X Y : Type 0} (P : Y → Type 0) (f : X → Y) (xs : List X) → Each (λ x. P (f x)) xs → Each P (map f xs)
each_mapped P f [] h = tt
each_mapped P f (x ∷ xs) h = (h.0, each_mapped P f xs h.1)

pub each_unmapped : {X Y : Type 0} (P : Y → Type 0) (f : X → Y) (xs : List X) → Each P (map f xs) → Each (λ x. P (f x)) xs
each_unmapped P f [] h = tt
each_unmapped P f (x ∷ xs) h = (h.0, each_unmapped P f xs h.1)

pub place_passed : (f : Named) (at : ℕ) → place_after (signs_of f) at ≡ at + item_count (unnumbered f)
place_passed NoNode at = omega arith
place_passed (NamedRun n count later) at = let e = place_passed later (at + count) in omega (arith, e)
place_passed (NamedBranch n kind inside later) at =
    place-append (signs_of inside) (EndOf kind ∷ signs_of later) (suc at)
    ∙ ap (λ k. place_after (signs_of later) (suc k)) (place_passed inside (suc at))
    ∙ (let e = place_passed later (suc (suc at + item_count (unnumbered inside))) in e ∙ last)
  where
    last : suc (suc at + item_count (unnumbered inside)) + item_count (unnumbered later) ≡ at + (item_count (unnumbered inside) + 2 + item_count (unnumbered later))
    last = omega arith

-- a node and its parent are named by the signs
abbrev pub BothNamed : List Sign → ℕ → Numbered → Type 0
BothNamed ss root n = IsNamed ss root n.number n.node.name n.node.count × IsNamed ss root n.above n.node.parent 0

abbrev Within : List Sign → List Sign → ℕ → Type 0
Within ss part at = (s : Sign) (x : ℕ) → Stands part at s x → Stands ss 0 s x

forest_named : (ss : List Sign) (root : ℕ) (f : Named) (above : ℕ) (parent : NodeName) (at : ℕ) → Within ss (signs_of f) at → IsNamed ss root above parent 0 →
    Each (BothNamed ss root) (numbered_from above parent at f)
forest_named ss root NoNode above parent at w p = tt
forest_named ss root (NamedRun n count later) above parent at w p =
    ((w (LettersOf n count) at (inl (refl, refl)), p), forest_named ss root later above parent (at + count) (λ s x i. w s x (inr i)) p)
forest_named ss root (NamedBranch n kind inside later) above parent at w p =
    let own : IsOpening ss n at = record { kind = kind; stands = w (BeginOf n kind) at (inl (refl, refl)) } in (
      (own, p),
      each_append (BothNamed ss root) (numbered_from n (Opened at) (suc at) inside) (numbered_from above parent next later)
          (forest_named ss root inside n (Opened at) (suc at) (λ s x i. w s x (inr (stands_left (signs_of inside) (EndOf kind ∷ signs_of later) (suc at) s x i))) own)
          (forest_named ss root later above parent next (λ s x i. w s x (inr (stands_right (signs_of inside) (EndOf kind ∷ signs_of later) (suc at) s x (behind s x i)))) p),
    )
  where
    next : ℕ
    next = at + item_count (unnumbered inside) + 2

    there : next ≡ suc (place_after (signs_of inside) (suc at))
    there = let e = place_passed inside (suc at) in omega (arith, e)

    behind : (s : Sign) (x : ℕ) → Stands (signs_of later) next s x → Stands (EndOf kind ∷ signs_of later) (place_after (signs_of inside) (suc at)) s x
    behind s x i = inr (subst (λ k. Stands (signs_of later) k s x) there i)

-- so are all nodes of a tree
pub tree_named : (root count : ℕ) (f : Named) → Each (BothNamed (signs_of f) root) (numbered_of root count f)
tree_named root count f = ((refl, refl), forest_named (signs_of f) root f root TheRoot 0 (λ s x i. i) refl)

pub place_named : (slots : List (Option ArenaNode)) (root : NodeId) (items : List PlainItem) (tree : IsTree slots root items) (y : NodePlace) →
    Contains (tree_places tree) y →
    IsNamed (signs_of tree.named) root.0 y.number (name_of y) (count_of y)
place_named slots root items tree y c =
    each_contained (λ (y : NodePlace). IsBriefly (place_brief y)) (tree_places tree) y
    (each_unmapped IsBriefly place_brief (tree_places tree)
    (subst (Each IsBriefly) (nodes_are_numbered slots root items tree).places
    (each_mapped IsBriefly brief (numbered_of root.0 (length items) tree.named) (first_of (numbered_of root.0 (length items) tree.named) (tree_named root.0 (length items) tree.named))))) c
  where
    IsBriefly : Brief → Type 0
    IsBriefly b = IsNamed (signs_of tree.named) root.0 b.number b.name b.count

    first_of : (ns : List Numbered) → Each (BothNamed (signs_of tree.named) root.0) ns → Each (λ n. IsBriefly (brief n)) ns
    first_of [] h = tt
    first_of (n ∷ ns) h = (h.0.0, first_of ns h.1)
