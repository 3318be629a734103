-- The signs of a tree: they spell its list, its texts are as long as can be, and no number is twice
-- among them.
use Rattle.std.proofs.Common.{false, ◌≡◌, ℕ, zero, suc, Option, List, [], ◌∷◌, ◌++◌, map, replicate, refl, sym, ap, ◌∙◌, subst, arith, append-nil, append_assoc}
use Rattle.std.proofs.lemmas.Bool.{true≢false}
use Rattle.model_items.specs.declared.plain_item.PlainItem.{PlainItem}
use Rattle.model_items.specs.Tree.{Letter, Begin, End, shape_of, shapes, HasWholeRuns, begins_with_run}
use Rattle.model_items.proofs.OnlyLemmas.{tree_has_whole_runs}
use Rattle.model_items.proofs.TreeLemmas.{tree_spells}
use Rattle.ve_arena.specs.declared.node.NodeId.{NodeId}
use Rattle.ve_arena.specs.declared.node.ArenaNode.{ArenaNode}
use Rattle.ve_tree.specs.Links.{Apart, AllApart}
use Rattle.ve_tree.specs.Named.{Named, NoNode, NamedRun, NamedBranch, unnumbered}
use Rattle.ve_tree.specs.IsTree.{IsTree}
use Rattle.ve_repair.specs.Spelled.{Sign, BeginOf, LettersOf, EndOf, token_of, sign_shapes, NoLetters, Proper, AllFrom}
use Rattle.ve_repair.specs.Ready.{nums}
use Rattle.ve_repair.specs.Sizes.{signs_of}
use Rattle.ve_repair.specs.Acts.{NewTexts}
use Rattle.ve_repair.proofs.ChangedLemmas.{shapes-append, tokens-signs}
use Rattle.ve_repair.proofs.ReadyLemmas.{nums-tokens}

-- a forest's signs spell what it spells
forest_shapes : (f : Named) → sign_shapes (signs_of f) ≡ shapes (unnumbered f)
forest_shapes NoNode = refl
forest_shapes (NamedRun n count later) = ap (λ l. replicate count Letter ++ l) (forest_shapes later)
forest_shapes (NamedBranch n kind inside later) =
    ap (λ l. Begin kind ∷ l) (shapes-append (signs_of inside) (EndOf kind ∷ signs_of later) ∙ (λ i. forest_shapes inside i ++ End kind ∷ forest_shapes later i))

pub tree_signs : (slots : List (Option ArenaNode)) (root : NodeId) (items : List PlainItem) (tree : IsTree slots root items) → sign_shapes (signs_of tree.named) ≡ map shape_of items
tree_signs slots root items tree = forest_shapes tree.named ∙ ap shapes tree.is_tree ∙ tree_spells items tree.lawful

-- each text of a tree has a character, and no two are neighbours
proper_before : (f : Named) (ss : List Sign) → HasWholeRuns (unnumbered f) → NoLetters ss → Proper ss → Proper (signs_of f ++ ss)
proper_before NoNode ss h n p = p
proper_before (NamedRun m zero later) ss h n p = let low = h.0 in absurd (omega (arith, low))
proper_before (NamedRun m (suc count) later) ss h n p = (behind later h.1, proper_before later ss h.2 n p)
  where
    behind : (f : Named) → begins_with_run (unnumbered f) ≡ false → NoLetters (signs_of f ++ ss)
    behind NoNode e = n
    behind (NamedRun m count later) e = absurd (true≢false e)
    behind (NamedBranch m kind inside later) e = tt
proper_before (NamedBranch m kind inside later) ss h n p =
    subst Proper (sym (append_assoc (signs_of inside) (EndOf kind ∷ signs_of later) ss)) (proper_before inside (EndOf kind ∷ (signs_of later ++ ss)) h.0 tt (proper_before later ss h.1 n p))

pub tree_proper : (slots : List (Option ArenaNode)) (root : NodeId) (items : List PlainItem) (tree : IsTree slots root items) → Proper (signs_of tree.named)
tree_proper slots root items tree =
    subst Proper (append-nil (signs_of tree.named)) (proper_before tree.named [] (subst HasWholeRuns (sym tree.is_tree) (tree_has_whole_runs items)) tt tt)

-- numbers without the first of those that they are none of
from_later : (n : ℕ) (past ns : List ℕ) → AllFrom past (n ∷ ns) → AllFrom past ns
from_later n [] ns h = tt
from_later n (q ∷ past) ns h = (h.0.1, from_later n past ns h.1)

from_first : (n : ℕ) (past ns : List ℕ) → AllFrom past (n ∷ ns) → Apart n past
from_first n [] ns h = tt
from_first n (q ∷ past) ns h = ((λ e. h.0.0 (sym e)), from_first n past ns h.1)

new_texts : (past : List ℕ) (ss more : List Sign) → AllFrom past (nums (map token_of (ss ++ more))) → AllApart (nums (map token_of (ss ++ more))) → NewTexts past ss
new_texts past [] more f a = tt
new_texts past (BeginOf n kind ∷ ss) more f a = new_texts past ss more (from_later n past (nums (map token_of (ss ++ more))) f) a.1
new_texts past (LettersOf n count ∷ ss) more f a =
    let ns = nums (map token_of (ss ++ more)) in
    (from_first n past ns f, new_texts (n ∷ past) ss more (a.0, from_later n past ns f) a.1)
new_texts past (EndOf kind ∷ ss) more f a = new_texts past ss more f a

apart_behind : (xs ys : List Sign) → AllApart (nums (map token_of (xs ++ ys))) → AllApart (nums (map token_of ys))
apart_behind [] ys a = a
apart_behind (BeginOf n kind ∷ xs) ys a = apart_behind xs ys a.1
apart_behind (LettersOf n count ∷ xs) ys a = apart_behind xs ys a.1
apart_behind (EndOf kind ∷ xs) ys a = apart_behind xs ys a

-- each text of a piece is none of those before it
pub tree_texts : (slots : List (Option ArenaNode)) (root : NodeId) (items : List PlainItem) (tree : IsTree slots root items) (lefts ss rights : List Sign) →
    signs_of tree.named ≡ lefts ++ (ss ++ rights) → NewTexts [] ss
tree_texts slots root items tree lefts ss rights e =
    new_texts [] ss rights tt (apart_behind lefts (ss ++ rights) (subst (λ l. AllApart (nums (map token_of l))) e
    (subst AllApart (sym (ap nums (sym (tokens-signs tree.named)) ∙ nums-tokens tree.named)) tree.apart.1)))
