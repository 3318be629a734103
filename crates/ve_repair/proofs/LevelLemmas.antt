-- The tokens kept right of the range: only the nodes side by side at an open level are linked anew,
-- and those only where the level's node is another one.
use Rattle.std.proofs.Common.{◌≡◌, ◌≢◌, ℕ, if◌then◌else◌, Option, Some, None, List, [], ◌∷◌, ◌++◌, drop, map, refl, sym, ap, ◌∙◌, subst}
use Rattle.std.proofs.lemmas.Bool.{eq-eqb}
use Rattle.ve_tree.specs.Links.{Links, last_or, Apart}
use Rattle.ve_repair.specs.Relink.{unlinked, linked}
use Rattle.ve_repair.specs.Work.{inner, kept, Keep, Step, Text, Work, placed, opened, left, stepped, stepped_links, after_script, script_links}
use Rattle.ve_repair.specs.Tokens.{Token, End, keep_of, keeps}
use Rattle.ve_repair.proofs.RelinkLemmas.{last_or-append, apart-ls, apart-rs}
use Rattle.ve_repair.proofs.WorkLemmas.{with_list-here, with_list-there}
use Rattle.ve_tree.specs.Named.{Named, NoNode, NamedRun, NamedBranch, heads, node_numbers}
use Rattle.ve_repair.specs.Tokens.{tokens}

-- the nodes in turn become the last of f's
pub keep_all : (o f : ℕ) → Option ℕ → List ℕ → Links → Links
keep_all o f last [] a = a
keep_all o f last (n ∷ ns) a = keep_all o f (Some n) ns (kept o f n last a)

keeps-append : (xs ys : List Token) → keeps (xs ++ ys) ≡ keeps xs ++ keeps ys
keeps-append [] ys = refl
keeps-append (x ∷ xs) ys = ap (λ l. keep_of x ∷ l) (keeps-append xs ys)

after-append : (ss us : List Step) (w : Work) → after_script (ss ++ us) w ≡ after_script us (after_script ss w)
after-append [] us w = refl
after-append (s ∷ ss) us w = after-append ss us (stepped s w)

pub links-append : (ss us : List Step) (w : Work) (a : Links) → script_links (ss ++ us) w a ≡ script_links us (after_script ss w) (script_links ss w a)
links-append [] us w a = refl
links-append (s ∷ ss) us w a = links-append ss us (stepped s w) (stepped_links s w a)

pub run_after : List Token → Work → Work
run_after ts w = after_script (keeps ts) w

-- what a branch does: its inside, and then what follows
branch_after : (inside later : Named) (w : Work) → run_after (tokens inside ++ End ∷ tokens later) w ≡ run_after (tokens later) (left Keep (run_after (tokens inside) w))
unfolding run_after
branch_after inside later w =
    ap (λ l. after_script l w) (keeps-append (tokens inside) (End ∷ tokens later)) ∙ after-append (keeps (tokens inside)) (keeps (End ∷ tokens later)) w

branch_links : (inside later : Named) (w : Work) (a : Links) → script_links (keeps (tokens inside ++ End ∷ tokens later)) w a
    ≡ script_links (keeps (tokens later)) (left Keep (run_after (tokens inside) w)) (script_links (keeps (tokens inside)) w a)
unfolding run_after
branch_links inside later w a =
    ap (λ l. script_links l w a) (keeps-append (tokens inside) (End ∷ tokens later)) ∙ links-append (keeps (tokens inside)) (keeps (End ∷ tokens later)) w a

-- the stacks are as before
pub stacks : (f : Named) (w : Work) → ((run_after (tokens f) w).old ≡ w.old) × ((run_after (tokens f) w).new ≡ w.new)
unfolding run_after
stacks NoNode w = (refl, refl)
stacks (NamedRun n count later) w = stacks later (placed Keep n w)
stacks (NamedBranch n kind inside later) w =
    let w1 = opened Keep n (placed Keep n w) in
    let in_ = stacks inside w1 in
    let out = stacks later (left Keep (run_after (tokens inside) w1)) in (
      ap (λ (v : Work). v.old) (branch_after inside later w1) ∙ out.0 ∙ ap (λ (l : List ℕ). drop 1 l) in_.0,
      ap (λ (v : Work). v.new) (branch_after inside later w1) ∙ out.1 ∙ ap (λ (l : List ℕ). drop 1 l) in_.1,
    )

-- what is done elsewhere is as before
pub elsewhere : (f : Named) (w : Work) (q : ℕ) → inner w.new ≢ q → Apart q (node_numbers f) → (run_after (tokens f) w).done q ≡ w.done q
unfolding run_after
elsewhere NoNode w q h a = refl
elsewhere (NamedRun n count later) w q h a =
    elsewhere later (placed Keep n w) q h a.1 ∙ with_list-there w.done (inner w.new) (w.done (inner w.new) ++ n ∷ []) q h
elsewhere (NamedBranch n kind inside later) w q h a =
    let w1 = opened Keep n (placed Keep n w) in
    let w2 = left Keep (run_after (tokens inside) w1) in
    let same : w2.new ≡ w.new = ap (λ (l : List ℕ). drop 1 l) (stacks inside w1).1 in
    ap (λ (v : Work). v.done q) (branch_after inside later w1)
    ∙ elsewhere later w2 q (subst (λ (l : List ℕ). inner l ≢ q) (sym same) h) (apart-rs q (node_numbers inside) (node_numbers later) a.1)
    ∙ elsewhere inside w1 q (λ e. a.0 (sym e)) (apart-ls q (node_numbers inside) (node_numbers later) a.1)
    ∙ with_list-there w.done (inner w.new) (w.done (inner w.new) ++ n ∷ []) q h

-- nothing is written where old and new parent are one
pub kept-same : (o f n : ℕ) (last : Option ℕ) (a : Links) → o ≡ f → kept o f n last a ≡ a
kept-same o f n last a e = ap (λ b. if b then a else linked f n last (unlinked o n a)) (eq-eqb o f e)

quiet : (f : Named) (w : Work) (a : Links) → inner w.old ≡ inner w.new → script_links (keeps (tokens f)) w a ≡ a
quiet NoNode w a e = refl
quiet (NamedRun n count later) w a e =
    ap (λ b. script_links (keeps (tokens later)) (placed Keep n w) b) (kept-same (inner w.old) (inner w.new) n (last_or None (w.done (inner w.new))) a e)
    ∙ quiet later (placed Keep n w) a e
quiet (NamedBranch n kind inside later) w a e =
    let w1 = opened Keep n (placed Keep n w) in
    let w2 = left Keep (run_after (tokens inside) w1) in
    let same = stacks inside w1 in
    let e2 : inner w2.old ≡ inner w2.new = ap (λ (l : List ℕ). inner (drop 1 l)) same.0 ∙ e ∙ sym (ap (λ (l : List ℕ). inner (drop 1 l)) same.1) in
    ap (λ b. script_links (keeps (tokens inside ++ End ∷ tokens later)) w1 b) (kept-same (inner w.old) (inner w.new) n (last_or None (w.done (inner w.new))) a e)
    ∙ branch_links inside later w1 a
    ∙ ap (λ b. script_links (keeps (tokens later)) w2 b) (quiet inside w1 a refl)
    ∙ quiet later w2 a e2

pub last-appended : (ns : List ℕ) (n : ℕ) → last_or None (ns ++ n ∷ []) ≡ Some n
last-appended ns n = last_or-append None ns (n ∷ [])

-- at a level: its nodes in turn
pub level : (f : Named) (w : Work) (a : Links) → Apart (inner w.new) (node_numbers f) →
    script_links (keeps (tokens f)) w a ≡ keep_all (inner w.old) (inner w.new) (last_or None (w.done (inner w.new))) (heads f) a
unfolding keep_all
level NoNode w a h = refl
level (NamedRun n count later) w a h =
    level later (placed Keep n w) (kept (inner w.old) (inner w.new) n (last_or None (w.done (inner w.new))) a) h.1
    ∙ ap (λ l. keep_all (inner w.old) (inner w.new) l (heads later) (kept (inner w.old) (inner w.new) n (last_or None (w.done (inner w.new))) a))
    (ap (last_or None) (with_list-here w.done (inner w.new) (w.done (inner w.new) ++ n ∷ [])) ∙ last-appended (w.done (inner w.new)) n)
level (NamedBranch n kind inside later) w a h =
    let w1 = opened Keep n (placed Keep n w) in
    let w2 = left Keep (run_after (tokens inside) w1) in
    let same = stacks inside w1 in
    let old_same : inner w2.old ≡ inner w.old = ap (λ (l : List ℕ). inner (drop 1 l)) same.0 in
    let new_same : inner w2.new ≡ inner w.new = ap (λ (l : List ℕ). inner (drop 1 l)) same.1 in
    let b = kept (inner w.old) (inner w.new) n (last_or None (w.done (inner w.new))) a in
    let done_same : w2.done (inner w.new) ≡ w.done (inner w.new) ++ n ∷ [] =
    elsewhere inside w1 (inner w.new) (λ e. h.0 (sym e)) (apart-ls (inner w.new) (node_numbers inside) (node_numbers later) h.1)
    ∙ with_list-here w.done (inner w.new) (w.done (inner w.new) ++ n ∷ []) in
    branch_links inside later w1 b
    ∙ ap (λ c. script_links (keeps (tokens later)) w2 c) (quiet inside w1 b refl)
    ∙ level later w2 b (subst (λ m. Apart m (node_numbers later)) (sym new_same) (apart-rs (inner w.new) (node_numbers inside) (node_numbers later) h.1))
    ∙ (λ i. keep_all (old_same i) (new_same i) (last_or None (w2.done (new_same i))) (heads later) b)
    ∙ ap (λ l. keep_all (inner w.old) (inner w.new) l (heads later) b) (ap (last_or None) done_same ∙ last-appended (w.done (inner w.new)) n)

-- a level is closed: its nodes in turn, and then what is right of it
pub level_closed : (f : Named) (rest : List Token) (w : Work) (a : Links) → Apart (inner w.new) (node_numbers f) →
    script_links (keeps (tokens f ++ End ∷ rest)) w a
    ≡ script_links (keeps rest) (left Keep (run_after (tokens f) w)) (keep_all (inner w.old) (inner w.new) (last_or None (w.done (inner w.new))) (heads f) a)
unfolding run_after
level_closed f rest w a h =
    ap (λ l. script_links l w a) (keeps-append (tokens f) (End ∷ rest))
    ∙ links-append (keeps (tokens f)) (keeps (End ∷ rest)) w a
    ∙ ap (λ b. script_links (keeps rest) (left Keep (after_script (keeps (tokens f)) w)) b) (level f w a h)

-- a row that stays, node by node
pub row_links : (ns : List ℕ) (w : Work) (a : Links) →
    script_links (map (λ n. Text Keep n) ns) w a ≡ keep_all (inner w.old) (inner w.new) (last_or None (w.done (inner w.new))) ns a
unfolding keep_all
row_links [] w a = refl
row_links (n ∷ ns) w a =
    row_links ns (placed Keep n w) (kept (inner w.old) (inner w.new) n (last_or None (w.done (inner w.new))) a)
    ∙ ap (λ l. keep_all (inner w.old) (inner w.new) l ns (kept (inner w.old) (inner w.new) n (last_or None (w.done (inner w.new))) a))
    (ap (last_or None) (with_list-here w.done (inner w.new) (w.done (inner w.new) ++ n ∷ [])) ∙ last-appended (w.done (inner w.new)) n)

-- nothing is written where both parents are one
pub keep_all-same : (o f : ℕ) (last : Option ℕ) (ns : List ℕ) (a : Links) → o ≡ f → keep_all o f last ns a ≡ a
unfolding keep_all
keep_all-same o f last [] a e = refl
keep_all-same o f last (n ∷ ns) a e = keep_all-same o f (Some n) ns (kept o f n last a) e ∙ kept-same o f n last a e
