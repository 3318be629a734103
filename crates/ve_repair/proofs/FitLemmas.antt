-- The tokens right of a script fit the levels that are open at its end.
use Rattle.std.proofs.Common.{◌≡◌, ◌≢◌, ℕ, List, [], ◌∷◌, ◌++◌, drop, refl, sym, ap, ◌∙◌, subst, append_assoc, append-nil}
use Rattle.ve_tree.specs.Links.{Apart, AllApart}
use Rattle.ve_tree.specs.Named.{Named, NoNode, NamedRun, NamedBranch}
use Rattle.ve_repair.specs.Work.{Keep, Drop, Put, Step, Enter, Leave, Text, Count, Work, stepped, after_script}
use Rattle.ve_repair.specs.Tokens.{Token, Begin, Letters, End, tokens, Grown, grown, grown_by, start, old_side, new_side, work_at}
use Rattle.ve_repair.specs.Spelled.{AllFrom}
use Rattle.ve_repair.specs.Ready.{nums}
use Rattle.ve_repair.specs.Ending.{right_tokens, Fit}
use Rattle.ve_repair.proofs.ReadyLemmas.{nums-append, nums-tokens}
use Rattle.ve_repair.proofs.NumberLemmas.{from_ls, from_rs, parts_from}
use Rattle.ve_repair.proofs.RelinkLemmas.{all-rs}

-- the open nodes behind tokens
abbrev stack_after : List Token → List ℕ → List ℕ
stack_after [] ns = ns
stack_after (Begin n ∷ ts) ns = stack_after ts (n ∷ ns)
stack_after (Letters n ∷ ts) ns = stack_after ts ns
stack_after (End ∷ ts) ns = stack_after ts (drop 1 ns)

grown_stack : (ts : List Token) (g : Grown) → (grown ts g).stack ≡ stack_after ts g.stack
grown_stack [] g = refl
grown_stack (Begin n ∷ ts) g = grown_stack ts (grown_by (Begin n) g)
grown_stack (Letters n ∷ ts) g = grown_stack ts (grown_by (Letters n) g)
grown_stack (End ∷ ts) g = grown_stack ts (grown_by End g)

stack-append : (xs ys : List Token) (ns : List ℕ) → stack_after (xs ++ ys) ns ≡ stack_after ys (stack_after xs ns)
stack-append [] ys ns = refl
stack-append (Begin n ∷ xs) ys ns = stack-append xs ys (n ∷ ns)
stack-append (Letters n ∷ xs) ys ns = stack-append xs ys ns
stack-append (End ∷ xs) ys ns = stack-append xs ys (drop 1 ns)

forest_after : (f : Named) (ts : List Token) (ns : List ℕ) → stack_after (tokens f ++ ts) ns ≡ stack_after ts ns
forest_after NoNode ts ns = refl
forest_after (NamedRun n count later) ts ns = forest_after later ts ns
forest_after (NamedBranch n kind inside later) ts ns =
    ap (λ l. stack_after l (n ∷ ns)) (append_assoc (tokens inside) (End ∷ tokens later) ts)
    ∙ forest_after inside (End ∷ (tokens later ++ ts)) (n ∷ ns)
    ∙ forest_after later ts ns

whole_after : (f : Named) (ns : List ℕ) → stack_after (tokens f) ns ≡ ns
whole_after f ns = ap (λ l. stack_after l ns) (sym (append-nil (tokens f))) ∙ forest_after f [] ns

-- a node is open for each row
abbrev OpenFor : List Named → List ℕ → Type 0
OpenFor [] ns = Unit {0}
OpenFor (f ∷ fs) ns = (ns ≢ []) × OpenFor fs (drop 1 ns)

some_stack : (root : ℕ) (ns : List ℕ) → ns ≡ root ∷ [] → ns ≢ []
some_stack root ns e none = absurd (cc)

rows_open : (fs : List Named) (ns : List ℕ) (root : ℕ) → stack_after (right_tokens fs) ns ≡ root ∷ [] → OpenFor fs ns
rows_open [] ns root e = tt
rows_open (f ∷ []) ns root e = (some_stack root ns (sym (whole_after f ns) ∙ e), tt)
rows_open (f ∷ (g ∷ fs)) ns root e =
    let r = rows_open (g ∷ fs) (drop 1 ns) root (sym (forest_after f (End ∷ right_tokens (g ∷ fs)) ns) ∙ e) in
    ((λ none. r.0 (ap (λ (l : List ℕ). drop 1 l) none)), r)

-- the stacks of a script are those of its two sides
after_old : (ss : List Step) (w : Work) (ts : List Token) → stack_after (old_side ss ts) w.old ≡ stack_after ts (after_script ss w).old
after_old [] w ts = refl
after_old (Enter Keep n ∷ ss) w ts = after_old ss (stepped (Enter Keep n) w) ts
after_old (Enter Drop n ∷ ss) w ts = after_old ss (stepped (Enter Drop n) w) ts
after_old (Enter Put n ∷ ss) w ts = after_old ss (stepped (Enter Put n) w) ts
after_old (Leave Keep ∷ ss) w ts = after_old ss (stepped (Leave Keep) w) ts
after_old (Leave Drop ∷ ss) w ts = after_old ss (stepped (Leave Drop) w) ts
after_old (Leave Put ∷ ss) w ts = after_old ss (stepped (Leave Put) w) ts
after_old (Text Keep n ∷ ss) w ts = after_old ss (stepped (Text Keep n) w) ts
after_old (Text Drop n ∷ ss) w ts = after_old ss (stepped (Text Drop n) w) ts
after_old (Text Put n ∷ ss) w ts = after_old ss (stepped (Text Put n) w) ts
after_old (Count n count ∷ ss) w ts = after_old ss w ts

after_new : (ss : List Step) (w : Work) (ts : List Token) → stack_after (new_side ss ts) w.new ≡ stack_after ts (after_script ss w).new
after_new [] w ts = refl
after_new (Enter Keep n ∷ ss) w ts = after_new ss (stepped (Enter Keep n) w) ts
after_new (Enter Drop n ∷ ss) w ts = after_new ss (stepped (Enter Drop n) w) ts
after_new (Enter Put n ∷ ss) w ts = after_new ss (stepped (Enter Put n) w) ts
after_new (Leave Keep ∷ ss) w ts = after_new ss (stepped (Leave Keep) w) ts
after_new (Leave Drop ∷ ss) w ts = after_new ss (stepped (Leave Drop) w) ts
after_new (Leave Put ∷ ss) w ts = after_new ss (stepped (Leave Put) w) ts
after_new (Text Keep n ∷ ss) w ts = after_new ss (stepped (Text Keep n) w) ts
after_new (Text Drop n ∷ ss) w ts = after_new ss (stepped (Text Drop n) w) ts
after_new (Text Put n ∷ ss) w ts = after_new ss (stepped (Text Put n) w) ts
after_new (Count n count ∷ ss) w ts = after_new ss w ts

-- no open node is of what follows
from_drop : (ns ms : List ℕ) → AllFrom ns ms → AllFrom (drop 1 ns) ms
from_drop [] ms h = tt
from_drop (n ∷ ns) ms h = h.1

stack_from : (ts : List Token) (ns ms : List ℕ) → AllFrom ns ms → AllFrom (nums ts) ms → AllFrom (stack_after ts ns) ms
stack_from [] ns ms h a = h
stack_from (Begin n ∷ ts) ns ms h a = stack_from ts (n ∷ ns) ms (a.0, h) a.1
stack_from (Letters n ∷ ts) ns ms h a = stack_from ts ns ms h a.1
stack_from (End ∷ ts) ns ms h a = stack_from ts (drop 1 ns) ms (from_drop ns ms h) a

pub behind : (n : ℕ) (ss : List Step) (ts : List Token) → Apart n (nums (new_side ss ts)) → Apart n (nums ts)
behind n [] ts a = a
behind n (Enter Keep m ∷ ss) ts a = behind n ss ts a.1
behind n (Enter Drop m ∷ ss) ts a = behind n ss ts a
behind n (Enter Put m ∷ ss) ts a = behind n ss ts a.1
behind n (Leave Keep ∷ ss) ts a = behind n ss ts a
behind n (Leave Drop ∷ ss) ts a = behind n ss ts a
behind n (Leave Put ∷ ss) ts a = behind n ss ts a
behind n (Text Keep m ∷ ss) ts a = behind n ss ts a.1
behind n (Text Drop m ∷ ss) ts a = behind n ss ts a
behind n (Text Put m ∷ ss) ts a = behind n ss ts a.1
behind n (Count m count ∷ ss) ts a = behind n ss ts a

all_behind : (ns : List ℕ) (ss : List Step) (ts : List Token) → AllFrom ns (nums (new_side ss ts)) → AllFrom ns (nums ts)
all_behind [] ss ts h = tt
all_behind (n ∷ ns) ss ts h = (behind n ss ts h.0, all_behind ns ss ts h.1)

new_from : (ss : List Step) (w : Work) (ts : List Token) → AllFrom w.new (nums ts) → AllApart (nums (new_side ss ts)) → AllFrom (after_script ss w).new (nums ts)
new_from [] w ts h a = h
new_from (Enter Keep n ∷ ss) w ts h a = new_from ss (stepped (Enter Keep n) w) ts (behind n ss ts a.0, h) a.1
new_from (Enter Drop n ∷ ss) w ts h a = new_from ss (stepped (Enter Drop n) w) ts h a
new_from (Enter Put n ∷ ss) w ts h a = new_from ss (stepped (Enter Put n) w) ts (behind n ss ts a.0, h) a.1
new_from (Leave Keep ∷ ss) w ts h a = new_from ss (stepped (Leave Keep) w) ts (from_drop w.new (nums ts) h) a
new_from (Leave Drop ∷ ss) w ts h a = new_from ss (stepped (Leave Drop) w) ts h a
new_from (Leave Put ∷ ss) w ts h a = new_from ss (stepped (Leave Put) w) ts (from_drop w.new (nums ts) h) a
new_from (Text Keep n ∷ ss) w ts h a = new_from ss (stepped (Text Keep n) w) ts h a.1
new_from (Text Drop n ∷ ss) w ts h a = new_from ss (stepped (Text Drop n) w) ts h a
new_from (Text Put n ∷ ss) w ts h a = new_from ss (stepped (Text Put n) w) ts h a.1
new_from (Count n count ∷ ss) w ts h a = new_from ss w ts h a

fit : (fs : List Named) (old new : List ℕ) → OpenFor fs old → OpenFor fs new → AllFrom new (nums (right_tokens fs)) → Fit fs old new
fit [] old new o n a = tt
fit (f ∷ []) old new o n a = (o.0, n.0, subst (AllFrom new) (nums-tokens f) a, tt)
fit (f ∷ (g ∷ fs)) old new o n a =
    let all = subst (AllFrom new) (nums-append (tokens f) (End ∷ right_tokens (g ∷ fs))) a in (
      o.0,
      n.0,
      subst (AllFrom new) (nums-tokens f) (from_ls new (nums (tokens f)) (nums (right_tokens (g ∷ fs))) all),
      fit (g ∷ fs) (drop 1 old) (drop 1 new) o.1 n.1 (from_drop new (nums (right_tokens (g ∷ fs))) (from_rs new (nums (tokens f)) (nums (right_tokens (g ∷ fs))) all)),
    )

-- Where a script stands in both trees, the rows right of it fit the levels that are open at its
-- end.
pub rows_fit : (root : ℕ) (lefts right : List Token) (ss : List Step) (old new : Named) (fs : List Named) → right_tokens fs ≡ right →
    tokens old ≡ lefts ++ old_side ss right → tokens new ≡ lefts ++ new_side ss right → AllApart (root ∷ nums (lefts ++ new_side ss right)) →
    Fit fs (after_script ss (work_at root lefts (old_side ss right))).old (after_script ss (work_at root lefts (old_side ss right))).new
rows_fit root lefts right ss old new fs e old_is new_is apart =
    fit fs (after_script ss w).old (after_script ss w).new
    (rows_open fs (after_script ss w).old root (ap (λ l. stack_after l (after_script ss w).old) e ∙ sym (after_old ss w right) ∙ at_end (old_side ss right) old old_is))
    (rows_open fs (after_script ss w).new root (ap (λ l. stack_after l (after_script ss w).new) e ∙ sym (after_new ss w right) ∙ at_end (new_side ss right) new new_is))
    (subst (λ l. AllFrom (after_script ss w).new (nums l)) (sym e) (new_from ss w right begun (all-rs (root ∷ nums lefts) (nums (new_side ss right)) all)))
  where
    w : Work
    w = work_at root lefts (old_side ss right)

    at_end : (ts : List Token) (f : Named) → tokens f ≡ lefts ++ ts → stack_after ts (grown lefts (start root)).stack ≡ root ∷ []
    at_end ts f is =
        ap (stack_after ts) (grown_stack lefts (start root))
        ∙ sym (stack-append lefts ts (root ∷ []))
        ∙ ap (λ l. stack_after l (root ∷ [])) (sym is)
        ∙ whole_after f (root ∷ [])

    all : AllApart ((root ∷ nums lefts) ++ nums (new_side ss right))
    all = subst (λ ns. AllApart (root ∷ ns)) (nums-append lefts (new_side ss right)) apart

    from : AllFrom (root ∷ nums lefts) (nums right)
    from = all_behind (root ∷ nums lefts) ss right (parts_from (root ∷ nums lefts) (nums (new_side ss right)) all)

    begun : AllFrom (grown lefts (start root)).stack (nums right)
    begun = subst (λ ns. AllFrom ns (nums right)) (sym (grown_stack lefts (start root))) (stack_from lefts (root ∷ []) (nums right) (from.0, tt) from.1)
