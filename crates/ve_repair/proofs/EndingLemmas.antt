-- The writes at the levels that are open at a script's end.
use Rattle.std.proofs.Common.{◌≡◌, ◌≢◌, ◌⊎◌, inl, inr, ℕ, Bool, true, false, if◌then◌else◌, None, List, [], ◌∷◌, drop, map, refl, sym, ap, ◌∙◌, subst}
use Rattle.std.proofs.lemmas.Bool.{eqb-true}
use Rattle.ve_arena.specs.declared.node.NodeId.{NodeId}
use Rattle.ve_tree.specs.Links.{Links, last_or, Apart, AllApart}
use Rattle.ve_tree.specs.Named.{Named, node_numbers, heads}
use Rattle.ve_tree.specs.Grown.{id_of}
use Rattle.ve_repair.specs.declared.script.How.TheVariants as how
use Rattle.ve_repair.specs.declared.plan.Level.{Level}
use Rattle.ve_repair.specs.Work.{inner, kept, Keep, Text, Work, placed, left, script_links, after_script}
use Rattle.ve_repair.specs.Tokens.{tokens, keeps}
use Rattle.ve_repair.specs.Spelled.{AllFrom}
use Rattle.ve_repair.specs.Writes.{write_all}
use Rattle.ve_repair.specs.Plan.{Stacks, is_same_parent, placed_writes, placed_stacks, script_writes, script_stacks}
use Rattle.ve_repair.specs.Agree.{steps_of, OldAgree, NewAgree}
use Rattle.ve_repair.specs.Closing.{row_of, row_steps, outer_stacks, level_writes, close_writes}
use Rattle.ve_repair.specs.Ending.{right_tokens, Fit, CloseIsKept, PlanIsWhole}
use Rattle.ve_repair.proofs.PlanLemmas.{write-append, keep_writes, agree_last, old_left, new_left, apart_left, plan_is_script}
use Rattle.ve_repair.proofs.LevelLemmas.{keep_all, row_links, keep_all-same, run_after, level, level_closed, stacks, elsewhere, links-append}

row_writes : (ns : List ℕ) (s : Stacks) (w : Work) (a : Links) → OldAgree s.old w.old → NewAgree s.new w.new w.done → AllApart w.new → w.old ≢ [] → w.new ≢ [] →
    write_all (script_writes (row_of ns) s) a ≡ script_links (map (λ n. Text Keep n) ns) w a
row_writes [] s w a ho hn apart o n = refl
row_writes (m ∷ ns) s w a ho hn apart o n =
    write-append (placed_writes how.Keep (id_of m) s) (script_writes (row_of ns) (placed_stacks how.Keep (id_of m) s)) a
    ∙ ap (write_all (script_writes (row_of ns) (placed_stacks how.Keep (id_of m) s))) (keep_writes (id_of m) s.old s.new w.old w.new w.done w.rest a ho hn o n)
    ∙ row_writes ns (placed_stacks how.Keep (id_of m) s) (placed Keep m w) (kept (inner w.old) (inner w.new) m (last_or None (w.done (inner w.new))) a)
    ho (agree_last (id_of m) s.new w.new w.done apart hn) apart o n

-- one level
same_inner : (os : List NodeId) (fs : List Level) (wos wns : List ℕ) (done : ℕ → List ℕ) → OldAgree os wos → NewAgree fs wns done → is_same_parent (record { old = os; new = fs }) ≡ true →
    inner wos ≡ inner wns
same_inner [] fs wos wns done ho hn e = absurd (cc)
same_inner (o ∷ os) [] wos wns done ho hn e = absurd (cc)
same_inner (o ∷ os) (f ∷ fs) [] wns done ho hn e = absurd ho
same_inner (o ∷ os) (f ∷ fs) (w ∷ wos) [] done ho hn e = absurd hn
same_inner (o ∷ os) (f ∷ fs) (w ∷ wos) (v ∷ wns) done ho hn e = sym ho.0 ∙ eqb-true o.0 f.node.0 e ∙ hn.0

level_is : (f : Named) (s : Stacks) (w : Work) (a : Links) → OldAgree s.old w.old → NewAgree s.new w.new w.done → AllApart w.new → w.old ≢ [] → w.new ≢ [] →
    write_all (level_writes f s) a ≡ keep_all (inner w.old) (inner w.new) (last_or None (w.done (inner w.new))) (heads f) a
level_is f s w a ho hn apart o n = go (is_same_parent s) refl
  where
    whole : Links
    whole = keep_all (inner w.old) (inner w.new) (last_or None (w.done (inner w.new))) (heads f) a

    go : (b : Bool) → is_same_parent s ≡ b → write_all (if b then [] else script_writes (row_steps f) s) a
        ≡ keep_all (inner w.old) (inner w.new) (last_or None (w.done (inner w.new))) (heads f) a
    go true e = sym (keep_all-same (inner w.old) (inner w.new) (last_or None (w.done (inner w.new))) (heads f) a (same_inner s.old s.new w.old w.new w.done ho hn e))
    go false e = row_writes (heads f) s w a ho hn apart o n ∙ row_links (heads f) w a

-- it is one of the list
abbrev In : ℕ → List ℕ → Type 0
In n [] = ⊥
In n (m ∷ ns) = (n ≡ m) ⊎ In n ns

-- what is done at the outer levels is as before
agree_same : (fs : List Level) (ns : List ℕ) (done done' : ℕ → List ℕ) → ((n : ℕ) → In n ns → done' n ≡ done n) → NewAgree fs ns done → NewAgree fs ns done'
agree_same [] [] done done' same h = tt
agree_same [] (n ∷ ns) done done' same h = absurd h
agree_same (f ∷ fs) [] done done' same h = absurd h
agree_same (f ∷ fs) (n ∷ ns) done done' same h = (h.0, h.1 ∙ ap (last_or None) (sym (same n (inl refl))), agree_same fs ns done done' (λ m i. same m (inr i)) h.2)

in_from : (n : ℕ) (ns ms : List ℕ) → In n ns → AllFrom ns ms → Apart n ms
in_from n [] ms i h = absurd i
in_from n (m ∷ ns) ms (inl e) h = subst (λ k. Apart k ms) (sym e) h.0
in_from n (m ∷ ns) ms (inr i) h = in_from n ns ms i h.1

outer_not : (n : ℕ) (ns : List ℕ) → AllApart ns → In n (drop 1 ns) → inner ns ≢ n
outer_not n [] h i = absurd i
outer_not n (m ∷ ns) h i = λ e. not_in n ns i (subst (λ k. Apart k ns) e h.0)
  where
    not_in : (n : ℕ) (ns : List ℕ) → In n ns → Apart n ns → ⊥
    not_in n [] i a = absurd i
    not_in n (k ∷ ns) (inl e) a = a.0 e
    not_in n (k ∷ ns) (inr i) a = not_in n ns i a.1

in_behind : (n : ℕ) (ns : List ℕ) → In n (drop 1 ns) → In n ns
in_behind n [] i = absurd i
in_behind n (m ∷ ns) i = inr i

-- the next level
record Outer (f : Named) (s : Stacks) (w : Work) : Type 0 where
  old : OldAgree (outer_stacks s).old (left Keep (run_after (tokens f) w)).old
  new : NewAgree (outer_stacks s).new (left Keep (run_after (tokens f) w)).new (left Keep (run_after (tokens f) w)).done
  apart : AllApart (left Keep (run_after (tokens f) w)).new
  old_is : (left Keep (run_after (tokens f) w)).old ≡ drop 1 w.old
  new_is : (left Keep (run_after (tokens f) w)).new ≡ drop 1 w.new

outer : (f : Named) (s : Stacks) (w : Work) → OldAgree s.old w.old → NewAgree s.new w.new w.done → AllApart w.new → AllFrom w.new (node_numbers f) → Outer f s w
outer f s w ho hn apart from =
    let both = stacks f w in
    let old_is = ap (λ (l : List ℕ). drop 1 l) both.0 in
    let new_is = ap (λ (l : List ℕ). drop 1 l) both.1 in
    let done' : ℕ → List ℕ = (run_after (tokens f) w).done in
    record {
      old = subst (OldAgree (drop 1 s.old)) (sym old_is) (old_left s.old w.old ho);
      new = subst (λ ns. NewAgree (drop 1 s.new) ns done') (sym new_is)
          (agree_same (drop 1 s.new) (drop 1 w.new) w.done done'
          (λ n i. elsewhere f w n (outer_not n w.new apart i) (in_from n w.new (node_numbers f) (in_behind n w.new i) from))
          (new_left s.new w.new w.done hn));
      apart = subst AllApart (sym new_is) (apart_left w.new apart);
      old_is = old_is;
      new_is = new_is;
    }

inner_apart : (ns ms : List ℕ) → ns ≢ [] → AllFrom ns ms → Apart (inner ns) ms
inner_apart [] ms n h = absurd (n refl)
inner_apart (m ∷ ns) ms n h = h.0

pub close_is_kept : CloseIsKept
close_is_kept [] s w a ho hn apart fit = refl
close_is_kept (f ∷ []) s w a ho hn apart fit =
    write-append (level_writes f s) [] a
    ∙ level_is f s w a ho hn apart fit.0 fit.1
    ∙ sym (level f w a (inner_apart w.new (node_numbers f) fit.1 fit.2))
close_is_kept (f ∷ (g ∷ fs)) s w a ho hn apart fit =
    let out = outer f s w ho hn apart fit.2 in
    let w1 = left Keep (run_after (tokens f) w) in
    let b = keep_all (inner w.old) (inner w.new) (last_or None (w.done (inner w.new))) (heads f) a in
    write-append (level_writes f s) (close_writes (g ∷ fs) (outer_stacks s)) a
    ∙ ap (write_all (close_writes (g ∷ fs) (outer_stacks s))) (level_is f s w a ho hn apart fit.0 fit.1)
    ∙ close_is_kept (g ∷ fs) (outer_stacks s) w1 b out.old out.new out.apart
    (subst (λ ns. Fit (g ∷ fs) ns w1.new) (sym out.old_is) (subst (λ ns. Fit (g ∷ fs) (drop 1 w.old) ns) (sym out.new_is) fit.3))
    ∙ sym (level_closed f (right_tokens (g ∷ fs)) w a (inner_apart w.new (node_numbers f) fit.1 fit.2))

pub plan_is_whole : PlanIsWhole
plan_is_whole xs fs s w past a agrees ready fit =
    let ran = plan_is_script xs s w past a agrees ready in
    let after = ran.1 in
    write-append (script_writes xs s) (close_writes fs (script_stacks xs s)) a
    ∙ ap (write_all (close_writes fs (script_stacks xs s))) ran.0
    ∙ close_is_kept fs (script_stacks xs s) (after_script (steps_of xs) w) (script_links (steps_of xs) w a) after.old after.new after.apart fit
    ∙ sym (links-append (steps_of xs) (keeps (right_tokens fs)) w a)
