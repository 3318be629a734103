-- The slots that have a node are those of the tree, so there are as many as its nodes.
use Rattle.std.proofs.Common.{◌≡◌, inl, inr, ◌<◌, ℕ, zero, suc, cond, Option, Some, None, is_some, IsSome, List, [], ◌∷◌, ◌++◌, length, slice_set, option_map, refl, sym, ap, ◌∙◌, subst, arith}
use Rattle.std.proofs.lemmas.List.{length-append, get_or-set_same, get_or-set_other}
use Rattle.std.proofs.lemmas.List.Sums.{sum_by-cons, sum_by-set}
use Rattle.model_items.specs.declared.plain_item.PlainItem.{PlainItem}
use Rattle.model_items.specs.Tree.{node_count, number_of_nodes}
use Rattle.ve_arena.specs.declared.node.NodeId.{NodeId}
use Rattle.ve_arena.specs.declared.node.ArenaNode.{ArenaNode}
use Rattle.ve_arena.specs.Arena.{slot_at, live_count}
use Rattle.ve_tree.specs.Links.{Apart, AllApart}
use Rattle.ve_tree.specs.Named.{Named, NoNode, NamedRun, NamedBranch, unnumbered, node_numbers, Shows}
use Rattle.ve_tree.specs.IsTree.{IsTree}
use Rattle.ve_tree.proofs.GrownLemmas.{Slots}
use Rattle.ve_tree.proofs.FitsLemmas.{same_or_not}

-- each of these numbers has a node
abbrev AllLive : Slots → List ℕ → Type 0
AllLive slots [] = Unit {0}
AllLive slots (n ∷ ns) = IsSome (slot_at slots n) × AllLive slots ns

live_join : (slots : Slots) (ls rs : List ℕ) → AllLive slots ls → AllLive slots rs → AllLive slots (ls ++ rs)
live_join slots [] rs l r = r
live_join slots (n ∷ ls) rs l r = (l.0, live_join slots ls rs l.1 r)

some_there : {A B : Type 0} (f : A → B) (o : Option A) (b : B) → option_map f o ≡ Some b → IsSome o
some_there f (Some a) b e = refl
some_there f None b e = cc

shown_live : (slots : Slots) (f : Named) → Shows slots f → AllLive slots (node_numbers f)
shown_live slots NoNode s = tt
shown_live slots (NamedRun n count later) s = (some_there _ (slot_at slots n) _ s.0.sort_is, shown_live slots later s.1)
shown_live slots (NamedBranch n kind inside later) s = (
  some_there _ (slot_at slots n) _ s.0.sort_is,
  live_join slots (node_numbers inside) (node_numbers later) (shown_live slots inside s.1) (shown_live slots later s.2),
)

-- whether a slot has a node, as a count
abbrev one_live : Option ArenaNode → ℕ
one_live slot = cond (is_some slot) 1 0

-- where no slot has a node, none is counted
none_live : (slots : Slots) → ((q : ℕ) → slot_at slots q ≡ None) → live_count slots ≡ 0
none_live [] h = refl
none_live (slot ∷ slots) h =
    let sums = sum_by-cons (λ (s : Option ArenaNode). cond (is_some s) 1 0) slot slots in
    let here = ap one_live (h 0) in
    let rest = none_live slots (λ q. h (suc q)) in
    omega (arith, sums, here, rest)

-- the slots without what one of them has
abbrev without : Slots → ℕ → Slots
without slots n = slice_set slots n None

live_within : (slots : Slots) (n : ℕ) → IsSome (slot_at slots n) → n < length slots
live_within [] n live = cc
live_within (slot ∷ slots) zero live = omega arith
live_within (slot ∷ slots) (suc n) live = let less = live_within slots n live in omega (arith, less)

live_one : (slot : Option ArenaNode) → IsSome slot → one_live slot ≡ 1
live_one (Some node) live = refl
live_one None live = cc

count_without : (slots : Slots) (n : ℕ) → IsSome (slot_at slots n) → live_count slots ≡ suc (live_count (without slots n))
count_without slots n live =
    let sums = sum_by-set (λ s. cond (is_some s) 1 0) slots n None None (live_within slots n live) in
    let one = live_one (slot_at slots n) live in
    omega (arith, sums, one)

still_live : (slots : Slots) (n : ℕ) (ns : List ℕ) → Apart n ns → AllLive slots ns → AllLive (without slots n) ns
still_live slots n [] a l = tt
still_live slots n (m ∷ ns) a l = (subst (λ s. IsSome s) (sym (get_or-set_other slots n m None None (λ e. a.0 (sym e)))) l.0, still_live slots n ns a.1 l.1)

-- as many slots have a node as there are distinct numbers with one, where no other has one
count_live : (slots : Slots) (ns : List ℕ) → AllApart ns → AllLive slots ns → ((q : ℕ) → Apart q ns → slot_at slots q ≡ None) → live_count slots ≡ length ns
count_live slots [] a l only = none_live slots (λ q. only q tt)
count_live slots (n ∷ ns) a l only =
    count_without slots n l.0 ∙ ap (λ k. suc k) (count_live (without slots n) ns a.1 (still_live slots n ns a.0 l.1) gone)
  where
    gone : (q : ℕ) → Apart q ns → slot_at (without slots n) q ≡ None
    gone q b = elim (same_or_not q n) [
      | inl same ↦ subst (λ k. slot_at (without slots n) k ≡ None) (sym same) (get_or-set_same slots n None None (live_within slots n l.0))
      | inr ne ↦ get_or-set_other slots n q None None ne ∙ only q (ne, b)
    ]

length-node_numbers : (f : Named) → length (node_numbers f) ≡ node_count (unnumbered f)
length-node_numbers NoNode = refl
length-node_numbers (NamedRun n count later) = let rest = length-node_numbers later in omega (arith, rest)
length-node_numbers (NamedBranch n kind inside later) =
    let both = length-append (node_numbers inside) (node_numbers later) in
    let first = length-node_numbers inside in
    let second = length-node_numbers later in
    omega (arith, both, first, second)

pub nodes_counted : (slots : Slots) (root : NodeId) (items : List PlainItem) → IsTree slots root items → live_count slots ≡ number_of_nodes items
nodes_counted slots root items t =
    count_live slots (root.0 ∷ node_numbers t.named) t.apart (some_there _ (slot_at slots root.0) _ t.root_shown.sort_is, shown_live slots t.named t.shown) t.only
    ∙ ap (λ k. suc k) (length-node_numbers t.named ∙ ap node_count t.is_tree)
