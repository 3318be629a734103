-- The code's writes for a script cost no more than the script.
use Rattle.std.proofs.Common.{◌≡◌, ◌≤◌, ℕ, ◌+◌, Bool, true, false, if◌then◌else◌, Option, Some, List, [], ◌∷◌, ◌++◌, map, drop, refl, sym, ap, ◌∙◌, subst, arith, append_assoc, append-nil}
use Rattle.ve_arena.specs.declared.node.NodeId.{NodeId}
use Rattle.ve_tree.specs.Named.{Named, NoNode, NamedRun, NamedBranch, heads}
use Rattle.ve_tree.specs.Grown.{id_of}
use Rattle.ve_repair.specs.declared.write.Write.{Write}
use Rattle.ve_repair.specs.declared.write.Write.TheVariants.{Unlink, Link}
use Rattle.std.proofs.Math.Dec.{eqb}
use Rattle.ve_repair.specs.declared.script.How.TheVariants.{Keep, Cut, Put}
use Rattle.ve_repair.specs.declared.script.Step.{Step}
use Rattle.ve_repair.specs.declared.script.Step.TheVariants.{Enter, Leave, Text, Count}
use Rattle.ve_repair.specs.declared.plan.Level.{Level}
use Rattle.ve_repair.specs.Work as W
use Rattle.ve_repair.specs.Tokens.{Token, Begin, Letters, End, tokens, keeps, grown, grown_by, Grown}
use Rattle.ve_repair.specs.Writes.{weight}
use Rattle.ve_repair.specs.Plan.{Stacks, is_same_parent, unlink_of, link_of, with_last, placed_writes, placed_stacks, opened_stacks, closed_stacks, script_writes, script_stacks}
use Rattle.ve_repair.specs.Agree.{steps_of}
use Rattle.ve_repair.specs.Closing.{row_of, row_steps, outer_stacks, level_writes, close_writes}
use Rattle.ve_repair.specs.Ending.{right_tokens}
use Rattle.ve_repair.specs.Charged.{top, moved_if, old_open, new_open, old_left, new_left, script_cost, made_count, freed_count, open_behind}

pub weight-append : (ws vs : List Write) → weight (ws ++ vs) ≡ weight ws + weight vs
weight-append [] vs = omega arith
weight-append (w ∷ ws) vs = let r = weight-append ws vs in omega (arith, r)

-- the open nodes by number
abbrev pub olds_of : Stacks → List ℕ
olds_of s = map (λ (n : NodeId). n.0) s.old

abbrev pub news_of : Stacks → List ℕ
news_of s = map (λ (f : Level). f.node.0) s.new

news-last : (n : NodeId) (fs : List Level) → map (λ (f : Level). f.node.0) (with_last n fs) ≡ map (λ (f : Level). f.node.0) fs
news-last n [] = refl
news-last n (f ∷ fs) = refl

-- one placing
keep_cost : (n : NodeId) (s : Stacks) → weight (placed_writes Keep n s) ≤ moved_if (top (olds_of s)) (top (news_of s))
keep_cost n s = go s.old s.new
  where
    go : (os : List NodeId) (fs : List Level) →
        weight (placed_writes Keep n (record { old = os; new = fs })) ≤ moved_if (top (map (λ (n : NodeId). n.0) os)) (top (map (λ (f : Level). f.node.0) fs))
    go [] [] = omega arith
    go [] (f ∷ fs) = omega arith
    go (o ∷ os) [] = omega arith
    go (o ∷ os) (f ∷ fs) = both (eqb o.0 f.node.0)
      where
        both : (b : Bool) → weight (if b then [] else (Unlink n o ∷ Link n f.node f.last ∷ [])) ≤ (if b then 0 else 7)
        both true = omega arith
        both false = omega arith

cut_cost : (n : NodeId) (s : Stacks) → weight (placed_writes Cut n s) ≤ 2
cut_cost n s = go s.old
  where
    go : (os : List NodeId) → weight (unlink_of n os) ≤ 2
    go [] = omega arith
    go (o ∷ os) = omega arith

put_cost : (n : NodeId) (s : Stacks) → weight (placed_writes Put n s) ≤ 5
put_cost n s = go s.new
  where
    go : (fs : List Level) → weight (link_of n fs) ≤ 5
    go [] = omega arith
    go (f ∷ fs) = omega arith

news-drop : (fs : List Level) → map (λ (f : Level). f.node.0) (drop 1 fs) ≡ drop 1 (map (λ (f : Level). f.node.0) fs)
news-drop [] = refl
news-drop (f ∷ fs) = refl

olds-drop : (os : List NodeId) → map (λ (n : NodeId). n.0) (drop 1 os) ≡ drop 1 (map (λ (n : NodeId). n.0) os)
olds-drop [] = refl
olds-drop (o ∷ os) = refl

-- the writes for a script, the nodes that are made for it and those that are freed
pub writes_cost : (xs : List Step) (s : Stacks) →
    weight (script_writes xs s) + made_count xs + freed_count xs ≤ script_cost (steps_of xs) (olds_of s) (news_of s)
writes_cost [] s = omega arith
writes_cost (Enter Keep n ∷ xs) s =
    let next = opened_stacks Keep n (placed_stacks Keep n s) in
    let all = weight-append (placed_writes Keep n s) (script_writes xs next) in
    let own = keep_cost n s in
    let rest = subst (λ l. weight (script_writes xs next) + made_count xs + freed_count xs ≤ script_cost (steps_of xs) (n.0 ∷ olds_of s) (n.0 ∷ l)) (news-last n s.new) (writes_cost xs next) in
    omega (arith, all, own, rest)
writes_cost (Enter Cut n ∷ xs) s =
    let next = opened_stacks Cut n (placed_stacks Cut n s) in
    let all = weight-append (placed_writes Cut n s) (script_writes xs next) in
    let own = cut_cost n s in
    let rest = writes_cost xs next in
    omega (arith, all, own, rest)
writes_cost (Enter Put n ∷ xs) s =
    let next = opened_stacks Put n (placed_stacks Put n s) in
    let all = weight-append (placed_writes Put n s) (script_writes xs next) in
    let own = put_cost n s in
    let rest = subst (λ l. weight (script_writes xs next) + made_count xs + freed_count xs ≤ script_cost (steps_of xs) (olds_of s) (n.0 ∷ l)) (news-last n s.new) (writes_cost xs next) in
    omega (arith, all, own, rest)
writes_cost (Leave Keep ∷ xs) s =
    subst (λ l. weight (script_writes xs (closed_stacks Keep s)) + made_count xs + freed_count xs ≤ script_cost (steps_of xs) l (drop 1 (news_of s))) (olds-drop s.old)
    (subst (λ l. weight (script_writes xs (closed_stacks Keep s)) + made_count xs + freed_count xs ≤ script_cost (steps_of xs) (olds_of (closed_stacks Keep s)) l) (news-drop s.new) (writes_cost xs (closed_stacks Keep s)))
writes_cost (Leave Cut ∷ xs) s =
    subst (λ l. weight (script_writes xs (closed_stacks Cut s)) + made_count xs + freed_count xs ≤ script_cost (steps_of xs) l (news_of s)) (olds-drop s.old) (writes_cost xs (closed_stacks Cut s))
writes_cost (Leave Put ∷ xs) s =
    subst (λ l. weight (script_writes xs (closed_stacks Put s)) + made_count xs + freed_count xs ≤ script_cost (steps_of xs) (olds_of s) l) (news-drop s.new) (writes_cost xs (closed_stacks Put s))
writes_cost (Text Keep n ∷ xs) s =
    let next = placed_stacks Keep n s in
    let all = weight-append (placed_writes Keep n s) (script_writes xs next) in
    let own = keep_cost n s in
    let rest = subst (λ l. weight (script_writes xs next) + made_count xs + freed_count xs ≤ script_cost (steps_of xs) (olds_of s) l) (news-last n s.new) (writes_cost xs next) in
    omega (arith, all, own, rest)
writes_cost (Text Cut n ∷ xs) s =
    let all = weight-append (placed_writes Cut n s) (script_writes xs s) in
    let own = cut_cost n s in
    let rest = writes_cost xs s in
    omega (arith, all, own, rest)
writes_cost (Text Put n ∷ xs) s =
    let next = placed_stacks Put n s in
    let all = weight-append (placed_writes Put n s) (script_writes xs next) in
    let own = put_cost n s in
    let rest = subst (λ l. weight (script_writes xs next) + made_count xs + freed_count xs ≤ script_cost (steps_of xs) (olds_of s) l) (news-last n s.new) (writes_cost xs next) in
    omega (arith, all, own, rest)
writes_cost (Count n count ∷ xs) s = writes_cost xs s

-- the open nodes behind a script
abbrev pub old_behind : List W.Step → List ℕ → List ℕ
old_behind [] old = old
old_behind (W.Enter how n ∷ xs) old = old_behind xs (old_open how n old)
old_behind (W.Leave how ∷ xs) old = old_behind xs (old_left how old)
old_behind (W.Text how n ∷ xs) old = old_behind xs old
old_behind (W.Count n count ∷ xs) old = old_behind xs old

abbrev pub new_behind : List W.Step → List ℕ → List ℕ
new_behind [] new = new
new_behind (W.Enter how n ∷ xs) new = new_behind xs (new_open how n new)
new_behind (W.Leave how ∷ xs) new = new_behind xs (new_left how new)
new_behind (W.Text how n ∷ xs) new = new_behind xs new
new_behind (W.Count n count ∷ xs) new = new_behind xs new

pub cost-append : (xs ys : List W.Step) (old new : List ℕ) →
    script_cost (xs ++ ys) old new ≡ script_cost xs old new + script_cost ys (old_behind xs old) (new_behind xs new)
cost-append [] ys old new = omega arith
cost-append (W.Enter how n ∷ xs) ys old new = let r = cost-append xs ys (old_open how n old) (new_open how n new) in omega (arith, r)
cost-append (W.Leave how ∷ xs) ys old new = cost-append xs ys (old_left how old) (new_left how new)
cost-append (W.Text how n ∷ xs) ys old new = let r = cost-append xs ys old new in omega (arith, r)
cost-append (W.Count n count ∷ xs) ys old new = cost-append xs ys old new

-- the stacks behind it are the code's
pub stacks_behind : (xs : List Step) (s : Stacks) →
    (olds_of (script_stacks xs s) ≡ old_behind (steps_of xs) (olds_of s)) × (news_of (script_stacks xs s) ≡ new_behind (steps_of xs) (news_of s))
stacks_behind [] s = (refl, refl)
stacks_behind (Enter Keep n ∷ xs) s =
    let r = stacks_behind xs (opened_stacks Keep n (placed_stacks Keep n s)) in
    (r.0, r.1 ∙ ap (λ l. new_behind (steps_of xs) (n.0 ∷ l)) (news-last n s.new))
stacks_behind (Enter Cut n ∷ xs) s = stacks_behind xs (opened_stacks Cut n (placed_stacks Cut n s))
stacks_behind (Enter Put n ∷ xs) s =
    let r = stacks_behind xs (opened_stacks Put n (placed_stacks Put n s)) in
    (r.0, r.1 ∙ ap (λ l. new_behind (steps_of xs) (n.0 ∷ l)) (news-last n s.new))
stacks_behind (Leave Keep ∷ xs) s =
    let r = stacks_behind xs (closed_stacks Keep s) in
    (r.0 ∙ ap (old_behind (steps_of xs)) (olds-drop s.old), r.1 ∙ ap (new_behind (steps_of xs)) (news-drop s.new))
stacks_behind (Leave Cut ∷ xs) s = let r = stacks_behind xs (closed_stacks Cut s) in (r.0 ∙ ap (old_behind (steps_of xs)) (olds-drop s.old), r.1)
stacks_behind (Leave Put ∷ xs) s = let r = stacks_behind xs (closed_stacks Put s) in (r.0, r.1 ∙ ap (new_behind (steps_of xs)) (news-drop s.new))
stacks_behind (Text Keep n ∷ xs) s = let r = stacks_behind xs (placed_stacks Keep n s) in (r.0, r.1 ∙ ap (new_behind (steps_of xs)) (news-last n s.new))
stacks_behind (Text Cut n ∷ xs) s = stacks_behind xs s
stacks_behind (Text Put n ∷ xs) s = let r = stacks_behind xs (placed_stacks Put n s) in (r.0, r.1 ∙ ap (new_behind (steps_of xs)) (news-last n s.new))
stacks_behind (Count n count ∷ xs) s = stacks_behind xs s

-- nodes side by side
abbrev each_moved : List ℕ → Option ℕ → Option ℕ → ℕ
each_moved [] old new = 0
each_moved (n ∷ ns) old new = moved_if old new + each_moved ns old new

row_cost : (ns : List ℕ) (s : Stacks) → weight (script_writes (row_of ns) s) ≤ each_moved ns (top (olds_of s)) (top (news_of s))
row_cost [] s = omega arith
row_cost (n ∷ ns) s =
    let next = placed_stacks Keep (id_of n) s in
    let all = weight-append (placed_writes Keep (id_of n) s) (script_writes (row_of ns) next) in
    let own = keep_cost (id_of n) s in
    let rest = subst (λ l. weight (script_writes (row_of ns) next) ≤ each_moved ns (top (olds_of s)) (top l)) (news-last (id_of n) s.new) (row_cost ns next) in
    omega (arith, all, own, rest)

level_cost : (f : Named) (s : Stacks) → weight (level_writes f s) ≤ each_moved (heads f) (top (olds_of s)) (top (news_of s))
level_cost f s = go (is_same_parent s)
  where
    go : (b : Bool) → weight (if b then [] else script_writes (row_steps f) s) ≤ each_moved (heads f) (top (olds_of s)) (top (news_of s))
    go true = omega arith
    go false = row_cost (heads f) s

-- keeping a forest costs no less than keeping its heads
forest_cost : (f : Named) (ts : List Token) (old new : List ℕ) →
    each_moved (heads f) (top old) (top new) + script_cost (keeps ts) old new ≤ script_cost (keeps (tokens f ++ ts)) old new
forest_cost NoNode ts old new = omega arith
forest_cost (NamedRun n count later) ts old new = let r = forest_cost later ts old new in omega (arith, r)
forest_cost (NamedBranch n kind inside later) ts old new =
    let r = forest_cost later ts old new in
    let q = subst (λ l. each_moved (heads inside) (Some n) (Some n) + script_cost (keeps (tokens later ++ ts)) old new ≤ script_cost (keeps l) (n ∷ old) (n ∷ new))
    (sym (append_assoc (tokens inside) (End ∷ tokens later) ts)) (forest_cost inside (End ∷ (tokens later ++ ts)) (n ∷ old) (n ∷ new)) in
    omega (arith, r, q)

pub close_cost : (fs : List Named) (s : Stacks) → weight (close_writes fs s) ≤ script_cost (keeps (right_tokens fs)) (olds_of s) (news_of s)
close_cost [] s = omega arith
close_cost (f ∷ []) s =
    let all = weight-append (level_writes f s) [] in
    let own = level_cost f s in
    let rest = subst (λ l. each_moved (heads f) (top (olds_of s)) (top (news_of s)) + 0 ≤ script_cost (keeps l) (olds_of s) (news_of s)) (append-nil (tokens f)) (forest_cost f [] (olds_of s) (news_of s)) in
    omega (arith, all, own, rest)
close_cost (f ∷ (g ∷ fs)) s =
    let later = script_cost (keeps (right_tokens (g ∷ fs))) in
    let all = weight-append (level_writes f s) (close_writes (g ∷ fs) (outer_stacks s)) in
    let own = level_cost f s in
    let outer = subst (λ l. weight (close_writes (g ∷ fs) (outer_stacks s)) ≤ later l (drop 1 (news_of s))) (olds-drop s.old)
    (subst (λ l. weight (close_writes (g ∷ fs) (outer_stacks s)) ≤ later (olds_of (outer_stacks s)) l) (news-drop s.new) (close_cost (g ∷ fs) (outer_stacks s))) in
    let rest = forest_cost f (End ∷ right_tokens (g ∷ fs)) (olds_of s) (news_of s) in
    omega (arith, all, own, outer, rest)

-- tokens that are kept lead both lists on alike
old_kept : (ts : List Token) (old : List ℕ) → old_behind (keeps ts) old ≡ open_behind ts old
old_kept [] old = refl
old_kept (Begin n ∷ ts) old = old_kept ts (n ∷ old)
old_kept (Letters n ∷ ts) old = old_kept ts old
old_kept (End ∷ ts) old = old_kept ts (drop 1 old)

new_kept : (ts : List Token) (new : List ℕ) → new_behind (keeps ts) new ≡ open_behind ts new
new_kept [] new = refl
new_kept (Begin n ∷ ts) new = new_kept ts (n ∷ new)
new_kept (Letters n ∷ ts) new = new_kept ts new
new_kept (End ∷ ts) new = new_kept ts (drop 1 new)

pub grown_open : (ts : List Token) (g : Grown) → (grown ts g).stack ≡ open_behind ts g.stack
grown_open [] g = refl
grown_open (Begin n ∷ ts) g = grown_open ts (grown_by (Begin n) g)
grown_open (Letters n ∷ ts) g = grown_open ts (grown_by (Letters n) g)
grown_open (End ∷ ts) g = grown_open ts (grown_by End g)

-- All writes of links for a script and for what is open at its end, with the nodes that are made
-- and freed. They cost no more than the script with all that stands left and right of it kept.
pub links_cost : (lefts rights : List Token) (root : ℕ) (xs : List Step) (fs : List Named) (s : Stacks) → olds_of s ≡ open_behind lefts (root ∷ []) →
    news_of s ≡ open_behind lefts (root ∷ []) →
    right_tokens fs ≡ rights →
    weight (script_writes xs s) + weight (close_writes fs (script_stacks xs s)) + made_count xs + freed_count xs ≤ script_cost (keeps lefts ++ (steps_of xs ++ keeps rights)) (root ∷ []) (root ∷ [])
links_cost lefts rights root xs fs s eo en er =
    let open_ = open_behind lefts (root ∷ []) in
    let behind = stacks_behind xs s in
    let one = cost-append (keeps lefts) (steps_of xs ++ keeps rights) (root ∷ []) (root ∷ []) in
    let two = cost-append (steps_of xs) (keeps rights) (old_behind (keeps lefts) (root ∷ [])) (new_behind (keeps lefts) (root ∷ [])) in
    let own = subst (λ l. weight (script_writes xs s) + made_count xs + freed_count xs ≤ script_cost (steps_of xs) l (new_behind (keeps lefts) (root ∷ []))) (eo
    ∙ sym (old_kept lefts (root ∷ [])))
    (subst (λ l. weight (script_writes xs s) + made_count xs + freed_count xs ≤ script_cost (steps_of xs) (olds_of s) l) (en
    ∙ sym (new_kept lefts (root ∷ []))) (writes_cost xs s)) in
    let closing = subst (λ ts. weight (close_writes fs (script_stacks xs s)) ≤ script_cost (keeps ts) (old_behind (steps_of xs) (old_behind (keeps lefts) (root ∷ []))) (new_behind (steps_of xs) (new_behind (keeps lefts) (root ∷ [])))) er
    (subst (λ l. weight (close_writes fs (script_stacks xs s)) ≤ script_cost (keeps (right_tokens fs)) l (new_behind (steps_of xs) (new_behind (keeps lefts) (root ∷ []))))
    (behind.0 ∙ ap (old_behind (steps_of xs)) (eo ∙ sym (old_kept lefts (root ∷ []))))
    (subst (λ l. weight (close_writes fs (script_stacks xs s)) ≤ script_cost (keeps (right_tokens fs)) (olds_of (script_stacks xs s)) l)
    (behind.1 ∙ ap (new_behind (steps_of xs)) (en ∙ sym (new_kept lefts (root ∷ [])))) (close_cost fs (script_stacks xs s)))) in
    omega (arith, one, two, own, closing)
