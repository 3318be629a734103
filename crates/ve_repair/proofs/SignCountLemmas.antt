-- The signs of a tree: no text is empty, no two are neighbours, and they take as many items as its
-- list.
use Rattle.std.proofs.Common.{◌≡◌, ◌≤◌, ◌+◌, ℕ, zero, suc, false, List, [], ◌∷◌, ◌++◌, length, sym, ap, ◌∙◌, subst, arith, append-nil, append_assoc}
use Rattle.model_items.specs.declared.plain_item.PlainItem.{PlainItem}
use Rattle.model_items.specs.Tree.{begins_with_run, item_count, HasWholeRuns}
use Rattle.model_items.proofs.NodeAtLemmas.{count_all}
use Rattle.model_items.proofs.OnlyLemmas.{tree_has_whole_runs}
use Rattle.ve_arena.specs.declared.node.NodeId.{NodeId}
use Rattle.ve_tree.specs.Named.{Named, NoNode, NamedRun, NamedBranch, unnumbered}
use Rattle.ve_tree.specs.IsTree.{IsTree}
use Rattle.ve_tree.proofs.WalkLemmas.{Slots}
use Rattle.ve_repair.specs.Cursors.{Spot, one_past, past, items_in}
use Rattle.ve_repair.specs.Sizes.{signs_of, place_after}
use Rattle.ve_repair.specs.Spelled.{Sign, BeginOf, LettersOf, EndOf, NoLetters, Proper}
use Rattle.ve_repair.proofs.NumberedLemmas.{place_passed}

no_letters : (f : Named) (ss : List Sign) → begins_with_run (unnumbered f) ≡ false → NoLetters ss → NoLetters (signs_of f ++ ss)
no_letters NoNode ss e h = h
no_letters (NamedRun n count later) ss e h = absurd (cc)
no_letters (NamedBranch n kind inside later) ss e h = tt

proper_on : (f : Named) (ss : List Sign) → HasWholeRuns (unnumbered f) → NoLetters ss → Proper ss → Proper (signs_of f ++ ss)
proper_on NoNode ss h none proper = proper
proper_on (NamedRun n zero later) ss h none proper = absurd (omega (arith, h.0))
proper_on (NamedRun n (suc count) later) ss h none proper = (no_letters later ss h.1 none, proper_on later ss h.2 none proper)
proper_on (NamedBranch n kind inside later) ss h none proper =
    subst Proper (sym (append_assoc (signs_of inside) (EndOf kind ∷ signs_of later) ss))
    (proper_on inside (EndOf kind ∷ (signs_of later ++ ss)) h.0 tt (proper_on later ss h.1 none proper))

pub tree_proper : {slots : Slots} {root : NodeId} {items : List PlainItem} (tree : IsTree slots root items) → Proper (signs_of tree.named)
tree_proper {items = items} tree =
    subst Proper (append-nil (signs_of tree.named)) (proper_on tree.named [] (subst HasWholeRuns (sym tree.is_tree) (tree_has_whole_runs items)) tt tt)

-- counts
pub items_placed : (ss : List Sign) (at : ℕ) → place_after ss at ≡ at + items_in ss
items_placed [] at = omega arith
items_placed (BeginOf n kind ∷ ss) at = let r = items_placed ss (suc at) in omega (arith, r)
items_placed (LettersOf n count ∷ ss) at = let r = items_placed ss (at + count) in omega (arith, r)
items_placed (EndOf kind ∷ ss) at = let r = items_placed ss (suc at) in omega (arith, r)

pub items_both : (xs ys : List Sign) → items_in (xs ++ ys) ≡ items_in xs + items_in ys
items_both [] ys = omega arith
items_both (BeginOf n kind ∷ xs) ys = let r = items_both xs ys in omega (arith, r)
items_both (LettersOf n count ∷ xs) ys = let r = items_both xs ys in omega (arith, r)
items_both (EndOf kind ∷ xs) ys = let r = items_both xs ys in omega (arith, r)

pub tree_items : {slots : Slots} {root : NodeId} {items : List PlainItem} (tree : IsTree slots root items) → items_in (signs_of tree.named) ≡ length items
tree_items {items = items} tree =
    let placed = items_placed (signs_of tree.named) 0 in
    let counted : item_count (unnumbered tree.named) ≡ length items = ap item_count tree.is_tree ∙ count_all items tree.lawful in
    let passed = place_passed tree.named 0 in
    omega (arith, placed, counted, passed)

-- so many items are passed
one_fewer : (os : List ℕ) (ss : List Sign) → Proper ss → 1 ≤ items_in ss → (items_in (one_past os ss).rest + 1 ≡ items_in ss) × Proper (one_past os ss).rest
one_fewer os [] p h = absurd (omega (arith, h))
one_fewer os (BeginOf n kind ∷ ss) p h = (omega arith, p)
one_fewer os (LettersOf n zero ∷ ss) p h = absurd p
one_fewer os (LettersOf n (suc zero) ∷ ss) p h = (omega arith, p.1)
one_fewer os (LettersOf n (suc (suc count)) ∷ ss) p h = (omega arith, p)
one_fewer os (EndOf kind ∷ ss) p h = (omega arith, p)

pub past_all : (k : ℕ) (s : Spot) → Proper s.rest → k ≤ items_in s.rest → (items_in (past k s).rest + k ≡ items_in s.rest) × Proper (past k s).rest
past_all zero s p h = (omega arith, p)
past_all (suc k) s p h =
    let one = one_fewer s.open_nodes s.rest p (omega (arith, h)) in
    let more = past_all k (one_past s.open_nodes s.rest) one.1 (let e = one.0 in omega (arith, h, e)) in
    (let a = one.0 in let b = more.0 in omega (arith, a, b), more.1)
