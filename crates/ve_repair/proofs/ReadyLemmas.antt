-- A script that stands in the trees of both lists is ready to be planned.
use Rattle.std.proofs.Common.{◌≡◌, ◌≢◌, ℕ, zero, suc, List, [], ◌∷◌, ◌++◌, drop, length, refl, sym, ap, ◌∙◌, subst, arith}
use Rattle.ve_tree.specs.Links.{Apart, AllApart}
use Rattle.ve_tree.specs.Named.{Named, NoNode, NamedRun, NamedBranch, node_numbers}
use Rattle.ve_repair.specs.Work.{Keep, Drop, Put, Step, Enter, Leave, Text, Count, Work, stepped}
use Rattle.ve_repair.specs.Tokens.{Token, Begin, Letters, End, tokens, Grown, grown, grown_by, start, old_side, new_side, work_at}
use Rattle.ve_repair.specs.Spelled.{AllFrom}
use Rattle.ve_repair.specs.Agree.{Ready}
use Rattle.ve_repair.specs.Ready.{nums, onto, ScriptIsReady}

-- no closing is one too many
abbrev Deep : ℕ → List Token → Type 0
Deep d [] = Unit {0}
Deep d (Begin n ∷ ts) = Deep (suc d) ts
Deep d (Letters n ∷ ts) = Deep d ts
Deep zero (End ∷ ts) = ⊥
Deep (suc d) (End ∷ ts) = Deep d ts

-- each number is none of those before it
abbrev pub NewTo : List ℕ → List ℕ → Type 0
NewTo past [] = Unit {0}
NewTo past (n ∷ ns) = Apart n past × NewTo (n ∷ past) ns

deep_forest : (f : Named) (d : ℕ) (ts : List Token) → Deep d ts → Deep d (tokens f ++ ts)
deep_forest NoNode d ts h = h
deep_forest (NamedRun n count later) d ts h = deep_forest later d ts h
deep_forest (NamedBranch n kind inside later) d ts h =
    subst (Deep (suc d)) (sym (assoc (tokens inside) (End ∷ tokens later) ts)) (deep_forest inside (suc d) (End ∷ (tokens later ++ ts)) (deep_forest later d ts h))
  where
    assoc : (xs ys zs : List Token) → (xs ++ ys) ++ zs ≡ xs ++ (ys ++ zs)
    assoc [] ys zs = refl
    assoc (x ∷ xs) ys zs = ap (λ l. x ∷ l) (assoc xs ys zs)

nil : (ts : List Token) → ts ++ [] ≡ ts
nil [] = refl
nil (t ∷ ts) = ap (λ l. t ∷ l) (nil ts)

-- what is open after the tokens of a front
record After (lefts rest : List Token) (g : Grown) : Type 0 where
  depth : ℕ
  long : length (grown lefts g).stack ≡ suc depth
  deep : Deep depth rest

deep_after : (lefts rest : List Token) (g : Grown) (d : ℕ) → length g.stack ≡ suc d → Deep d (lefts ++ rest) → After lefts rest g
deep_after [] rest g d l h = record { depth = d; long = l; deep = h }
deep_after (Begin n ∷ lefts) rest g d l h = let r = deep_after lefts rest (grown_by (Begin n) g) (suc d) (ap suc l) h in record { depth = r.depth; long = r.long; deep = r.deep }
deep_after (Letters n ∷ lefts) rest g d l h = let r = deep_after lefts rest (grown_by (Letters n) g) d l h in record { depth = r.depth; long = r.long; deep = r.deep }
deep_after (End ∷ lefts) rest g zero l h = absurd h
deep_after (End ∷ lefts) rest g (suc d) l h =
    let r = deep_after lefts rest (grown_by End g) d (one_less g.stack d l) h in record { depth = r.depth; long = r.long; deep = r.deep }
  where
    one_less : (ns : List ℕ) (d : ℕ) → length ns ≡ suc (suc d) → length (drop 1 ns) ≡ suc d
    one_less [] d l = absurd (omega (arith, l))
    one_less (n ∷ ns) d l = omega (arith, l)

-- numbers
pub nums-append : (xs ys : List Token) → nums (xs ++ ys) ≡ nums xs ++ nums ys
nums-append [] ys = refl
nums-append (Begin n ∷ xs) ys = ap (λ l. n ∷ l) (nums-append xs ys)
nums-append (Letters n ∷ xs) ys = ap (λ l. n ∷ l) (nums-append xs ys)
nums-append (End ∷ xs) ys = nums-append xs ys

pub nums-tokens : (f : Named) → nums (tokens f) ≡ node_numbers f
nums-tokens NoNode = refl
nums-tokens (NamedRun n count later) = ap (λ l. n ∷ l) (nums-tokens later)
nums-tokens (NamedBranch n kind inside later) =
    ap (λ l. n ∷ l) (nums-append (tokens inside) (End ∷ tokens later) ∙ (λ i. nums-tokens inside i ++ nums-tokens later i))

pub all_from : (n : ℕ) (past ns : List ℕ) → Apart n ns → AllFrom ns past → AllFrom ns (n ∷ past)
all_from n past [] h g = tt
all_from n past (m ∷ ns) h g = ((λ e. h.0 (sym e), g.0), all_from n past ns h.1 g.1)

pub new_to : (past ns : List ℕ) → AllApart ns → AllFrom ns past → NewTo past ns
new_to past [] h g = tt
new_to past (n ∷ ns) h g = (g.0, new_to (n ∷ past) ns h.1 (all_from n past ns h.0 g.1))

pub none_from : (ns : List ℕ) → AllFrom ns []
none_from [] = tt
none_from (n ∷ ns) = (tt, none_from ns)

new_behind : (xs ys past : List ℕ) → NewTo past (xs ++ ys) → NewTo (onto xs past) ys
new_behind [] ys past h = h
new_behind (x ∷ xs) ys past h = new_behind xs ys (x ∷ past) h.1

-- less that is known
abbrev Within : List ℕ → List ℕ → Type 0
Within past more = (q : ℕ) → Apart q more → Apart q past

new_less : (past more ns : List ℕ) → Within past more → NewTo more ns → NewTo past ns
new_less past more [] w h = tt
new_less past more (n ∷ ns) w h = (w n h.0, new_less (n ∷ past) (n ∷ more) ns (λ q a. (a.0, w q a.1)) h.1)

fewer : (past : List ℕ) (n : ℕ) (ns : List ℕ) → NewTo (n ∷ past) ns → NewTo past ns
fewer past n ns h = new_less past (n ∷ past) ns (λ q a. a.1) h

-- a node is open
some_open : (ns : List ℕ) (d : ℕ) → length ns ≡ suc d → ns ≢ []
some_open [] d l e = absurd (omega (arith, l))
some_open (n ∷ ns) d l e = cc

one_left : (ns : List ℕ) (d : ℕ) → length ns ≡ suc (suc d) → length (drop 1 ns) ≡ suc d
one_left [] d l = absurd (omega (arith, l))
one_left (n ∷ ns) d l = omega (arith, l)

-- a script of which both sides are deep enough, and the new side has new numbers
record Stands (ss : List Step) (right : List Token) (w : Work) (past : List ℕ) : Type 0 where
  old_depth : ℕ
  new_depth : ℕ
  old_long : length w.old ≡ suc old_depth
  new_long : length w.new ≡ suc new_depth
  old_deep : Deep old_depth (old_side ss right)
  new_deep : Deep new_depth (new_side ss right)
  new_nums : NewTo past (nums (new_side ss right))

leave_depth : (d : ℕ) (ns : List ℕ) (ts : List Token) → length ns ≡ suc d → Deep d (End ∷ ts) → (e : ℕ) × (length (drop 1 ns) ≡ suc e) × Deep e ts
leave_depth zero ns ts l h = absurd h
leave_depth (suc d) ns ts l h = (d, one_left ns d l, h)

ready : (ss : List Step) (right : List Token) (w : Work) (past : List ℕ) → Stands ss right w past → Ready ss w past
ready [] right w past s = tt
ready (Enter Keep n ∷ ss) right w past s = (
  (some_open w.old s.old_depth s.old_long, some_open w.new s.new_depth s.new_long),
  s.new_nums.0,
  ready ss right (stepped (Enter Keep n) w) (n ∷ past) (record {
    old_depth = suc s.old_depth;
    new_depth = suc s.new_depth;
    old_long = ap suc s.old_long;
    new_long = ap suc s.new_long;
    old_deep = s.old_deep;
    new_deep = s.new_deep;
    new_nums = s.new_nums.1;
  }),
)
ready (Enter Drop n ∷ ss) right w past s = (
  some_open w.old s.old_depth s.old_long,
  tt,
  ready ss right (stepped (Enter Drop n) w) past (record {
    old_depth = suc s.old_depth;
    new_depth = s.new_depth;
    old_long = ap suc s.old_long;
    new_long = s.new_long;
    old_deep = s.old_deep;
    new_deep = s.new_deep;
    new_nums = s.new_nums;
  }),
)
ready (Enter Put n ∷ ss) right w past s = (
  some_open w.new s.new_depth s.new_long,
  s.new_nums.0,
  ready ss right (stepped (Enter Put n) w) (n ∷ past) (record {
    old_depth = s.old_depth;
    new_depth = suc s.new_depth;
    old_long = s.old_long;
    new_long = ap suc s.new_long;
    old_deep = s.old_deep;
    new_deep = s.new_deep;
    new_nums = s.new_nums.1;
  }),
)
ready (Leave Keep ∷ ss) right w past s =
    let o = leave_depth s.old_depth w.old (old_side ss right) s.old_long s.old_deep in
    let n = leave_depth s.new_depth w.new (new_side ss right) s.new_long s.new_deep in (
      tt,
      tt,
      ready ss right (stepped (Leave Keep) w) past (record {
        old_depth = o.0;
        new_depth = n.0;
        old_long = o.1;
        new_long = n.1;
        old_deep = o.2;
        new_deep = n.2;
        new_nums = s.new_nums;
      }),
    )
ready (Leave Drop ∷ ss) right w past s =
    let o = leave_depth s.old_depth w.old (old_side ss right) s.old_long s.old_deep in (
      tt,
      tt,
      ready ss right (stepped (Leave Drop) w) past (record {
        old_depth = o.0;
        new_depth = s.new_depth;
        old_long = o.1;
        new_long = s.new_long;
        old_deep = o.2;
        new_deep = s.new_deep;
        new_nums = s.new_nums;
      }),
    )
ready (Leave Put ∷ ss) right w past s =
    let n = leave_depth s.new_depth w.new (new_side ss right) s.new_long s.new_deep in (
      tt,
      tt,
      ready ss right (stepped (Leave Put) w) past (record {
        old_depth = s.old_depth;
        new_depth = n.0;
        old_long = s.old_long;
        new_long = n.1;
        old_deep = s.old_deep;
        new_deep = n.2;
        new_nums = s.new_nums;
      }),
    )
ready (Text Keep n ∷ ss) right w past s = (
  (some_open w.old s.old_depth s.old_long, some_open w.new s.new_depth s.new_long),
  tt,
  ready ss right (stepped (Text Keep n) w) past (record {
    old_depth = s.old_depth;
    new_depth = s.new_depth;
    old_long = s.old_long;
    new_long = s.new_long;
    old_deep = s.old_deep;
    new_deep = s.new_deep;
    new_nums = fewer past n (nums (new_side ss right)) s.new_nums.1;
  }),
)
ready (Text Drop n ∷ ss) right w past s = (
  some_open w.old s.old_depth s.old_long,
  tt,
  ready ss right (stepped (Text Drop n) w) past (record {
    old_depth = s.old_depth;
    new_depth = s.new_depth;
    old_long = s.old_long;
    new_long = s.new_long;
    old_deep = s.old_deep;
    new_deep = s.new_deep;
    new_nums = s.new_nums;
  }),
)
ready (Text Put n ∷ ss) right w past s = (
  some_open w.new s.new_depth s.new_long,
  tt,
  ready ss right (stepped (Text Put n) w) past (record {
    old_depth = s.old_depth;
    new_depth = s.new_depth;
    old_long = s.old_long;
    new_long = s.new_long;
    old_deep = s.old_deep;
    new_deep = s.new_deep;
    new_nums = fewer past n (nums (new_side ss right)) s.new_nums.1;
  }),
)
ready (Count n count ∷ ss) right w past s = (
  tt,
  tt,
  ready ss right (stepped (Count n count) w) past (record {
    old_depth = s.old_depth;
    new_depth = s.new_depth;
    old_long = s.old_long;
    new_long = s.new_long;
    old_deep = s.old_deep;
    new_deep = s.new_deep;
    new_nums = s.new_nums;
  }),
)

pub script_is_ready : ScriptIsReady
script_is_ready root lefts right script old new old_is new_is apart =
    ready script right (work_at root lefts (old_side script right)) (onto (nums lefts) (root ∷ [])) (record {
      old_depth = o.depth;
      new_depth = n.depth;
      old_long = o.long;
      new_long = n.long;
      old_deep = o.deep;
      new_deep = n.deep;
      new_nums = new_behind (nums lefts) (nums (new_side script right)) (root ∷ [])
          (subst (NewTo (root ∷ [])) (sym (nums-tokens new) ∙ ap nums new_is ∙ nums-append lefts (new_side script right))
          (new_to (root ∷ []) (node_numbers new) apart.1 (all_from root [] (node_numbers new) apart.0 (none_from (node_numbers new)))));
    })
  where
    whole_deep : (f : Named) → Deep 0 (tokens f)
    whole_deep f = subst (Deep 0) (nil (tokens f)) (deep_forest f 0 [] tt)

    o : After lefts (old_side script right) (start root)
    o = deep_after lefts (old_side script right) (start root) 0 refl (subst (Deep 0) old_is (whole_deep old))

    n : After lefts (new_side script right) (start root)
    n = deep_after lefts (new_side script right) (start root) 0 refl (subst (Deep 0) new_is (whole_deep new))
