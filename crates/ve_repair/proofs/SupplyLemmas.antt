-- The texts that a script makes at the ends of runs, and its steps for letters of one text.
use Rattle.std.proofs.Common.{◌≡◌, ◌≤◌, ◌<◌, ◌+◌, ℕ, zero, suc, Bool, true, false, Option, Some, None, unwrap_or, List, [], ◌∷◌, ◌++◌, replicate, option_map, refl, sym, ap, ◌∙◌, subst, arith}
use Rattle.std.proofs.lemmas.Bool.{eq-eqb}
use Rattle.ve_arena.specs.declared.node.NodeId.{NodeId}
use Rattle.ve_tree.specs.Links.{number_of}
use Rattle.ve_repair.specs.declared.script.Step.{Step}
use Rattle.ve_repair.specs.declared.read.TextRun.{TextRun}
use Rattle.ve_repair.specs.Work as W
use Rattle.ve_repair.specs.Agree.{step_of, steps_of}
use Rattle.ve_repair.specs.Spelled.{Sign, LettersOf}
use Rattle.ve_repair.specs.Script.{InRun, ChangeReader, is_seen, one_more, run_end, kept_run, keep_step, cut_step, script_for}
use Rattle.ve_repair.specs.Acts.{Act, Stay, Go, marks}
use Rattle.ve_repair.specs.Cursors.{spot_of, past}
use Rattle.ve_repair.specs.Reader.{running_of, end_of, end_steps}
use Rattle.ve_repair.specs.Courses.{Part, Ends, Makes, Passes, part_of, ends_by, ends_in, text_by, text_at, supply_of, IsFresh}

pub ends_in-append : (xs ys : List W.Step) → ends_in (xs ++ ys) ≡ ends_in xs + ends_in ys
ends_in-append [] ys = omega arith
ends_in-append (x ∷ xs) ys = ap (ends_by (part_of x)) (ends_in-append xs ys) ∙ by (part_of x) (ends_in xs) (ends_in ys)
  where
    by : (p : Part) (a b : ℕ) → ends_by p (a + b) ≡ ends_by p a + b
    by Ends a b = omega arith
    by (Makes n) a b = refl
    by Passes a b = refl

-- behind a part in which no text was made since its last end
pub text_past : (xs ys : List W.Step) (k : ℕ) → IsFresh xs → text_at (xs ++ ys) (ends_in xs + k) ≡ text_at ys k
text_past [] ys k f = let e : 0 + k ≡ k = omega arith in ap (text_at ys) e
text_past (x ∷ xs) ys k f = by (part_of x) (text_at xs) (text_at (xs ++ ys)) (ends_in xs) (text_at ys k) (text_past xs ys k) f
  where
    by : (p : Part) (old new : ℕ → Option ℕ) (e : ℕ) (t : Option ℕ) → (old e ≡ None → new (e + k) ≡ t) → text_by p old (ends_by p e) ≡ None → text_by p new (ends_by p e + k) ≡ t
    by Ends old new e t h f = let m : suc e + k ≡ suc (e + k) = omega arith in ap (text_by Ends new) m ∙ h f
    by (Makes n) old new zero t h f = absurd (cc)
    by (Makes n) old new (suc e) t h f = let m : suc e + k ≡ suc (e + k) = omega arith in ap (text_by (Makes n) new) m ∙ sym (ap new m) ∙ h f
    by Passes old new e t h f = h f

pub fresh-append : (xs ys : List W.Step) → IsFresh xs → IsFresh ys → IsFresh (xs ++ ys)
fresh-append xs ys f g = ap (text_at (xs ++ ys)) (ends_in-append xs ys) ∙ text_past xs ys (ends_in ys) f ∙ g

-- the text that comes next
pub supplied : (xs ys : List W.Step) (n : ℕ) → IsFresh xs → supply_of (xs ++ W.Text W.Put n ∷ ys) (ends_in xs) ≡ n
supplied xs ys n f =
    let e : ends_in xs ≡ ends_in xs + 0 = omega arith in
    ap (λ (o : Option ℕ). unwrap_or o 0) (ap (text_at (xs ++ W.Text W.Put n ∷ ys)) e ∙ text_past xs (W.Text W.Put n ∷ ys) 0 f)

-- a run's end by the code and by the definition
pub end_is : (done : List W.Step) (text : NodeId) (run : Option TextRun) (xs : List Step) (more ss : List W.Step) → IsFresh done →
    run_end (supply_of (done ++ (steps_of (end_steps text run ++ xs) ++ more))) (running_of run) (ends_in done) ss ≡ steps_of (end_steps text run) ++ ss
end_is done text None xs more ss f = refl
end_is done text (Some run) xs more ss f = by run.kept
  where
    one : suc run.more ≡ run.more + 1
    one = omega arith

    by : (kept : Option NodeId) →
        run_end (supply_of (done ++ (steps_of (end_of text kept (run.more + 1) ++ xs) ++ more))) (InRun run.more (option_map number_of kept) run.any) (ends_in done) ss
        ≡ steps_of (end_of text kept (run.more + 1)) ++ ss
    by (Some n) = λ i. W.Count n.0 (one i) ∷ ss
    by None =
        let s = supplied done (W.Count text.0 (run.more + 1) ∷ (steps_of xs ++ more)) text.0 f in
        λ i. W.Text W.Put (s i) ∷ W.Count (s i) (one i) ∷ ss

-- steps at a run's end, with a bracket behind them
pub end_fresh : (text : NodeId) (run : Option TextRun) (x : Step) → part_of (step_of x) ≡ Ends → IsFresh (steps_of (end_steps text run ++ x ∷ [])) × (ends_in (steps_of (end_steps text run ++ x ∷ [])) ≡ 1)
end_fresh text None x e = by (part_of (step_of x)) e
  where
    by : (p : Part) → p ≡ Ends → (text_by p (λ k. None) (ends_by p 0) ≡ None) × (ends_by p 0 ≡ 1)
    by Ends e = (refl, refl)
    by (Makes n) e = absurd (cc)
    by Passes e = absurd (cc)
end_fresh text (Some run) x e = by run.kept (part_of (step_of x)) refl e
  where
    by : (kept : Option NodeId) (p : Part) → part_of (step_of x) ≡ p → p ≡ Ends →
        IsFresh (steps_of (end_of text kept (run.more + 1) ++ x ∷ [])) × (ends_in (steps_of (end_of text kept (run.more + 1) ++ x ∷ [])) ≡ 1)
    by (Some n) Ends p e = subst (λ (q : Part). (text_by q (λ k. None) (ends_by q 0) ≡ None) × (ends_by q 0 ≡ 1)) (sym p) (refl, refl)
    by None Ends p e = subst (λ (q : Part). (text_by (Makes text.0) (text_by q (λ k. None)) (ends_by q 0) ≡ None) × (ends_by q 0 ≡ 1)) (sym p) (refl, refl)
    by kept (Makes n) p e = absurd (cc)
    by kept Passes p e = absurd (cc)

-- letters of a text of which one was retained before
pub keep_known : (supply : ℕ → ℕ) (k d t : ℕ) (os : List ℕ) (ss : List Sign) (later : List Act) (more : ℕ) (kept : Option ℕ) (made : ℕ) → k ≤ d →
    script_for supply (marks (replicate k Stay ++ later) (LettersOf t d ∷ ss)) (record { seen = Some t; run = InRun more kept true; made = made })
    ≡ script_for supply (marks later (past k (spot_of os (LettersOf t d ∷ ss))).rest) (record { seen = Some t; run = InRun (more + k) kept true; made = made })
keep_known supply zero d t os ss later more kept made h =
    let e : more ≡ more + 0 = omega arith in ap (λ m. script_for supply (marks later (LettersOf t d ∷ ss)) (record { seen = Some t; run = InRun m kept true; made = made })) e
keep_known supply (suc k) zero t os ss later more kept made h = absurd (omega (arith, h))
keep_known supply (suc (suc k)) (suc zero) t os ss later more kept made h = absurd (omega (arith, h))
keep_known supply (suc zero) (suc zero) t os ss later more kept made h =
    let e : suc more ≡ more + 1 = omega arith in
    ap (λ b. keep_step b t (InRun (suc more) kept true) (script_for supply (marks later ss) (record { seen = Some t; run = kept_run b t (InRun (suc more) kept true); made = made }))) (eq-eqb t t refl)
    ∙ ap (λ m. script_for supply (marks later ss) (record { seen = Some t; run = InRun m kept true; made = made })) e
keep_known supply (suc k) (suc (suc d)) t os ss later more kept made h =
    let e : suc more + k ≡ more + suc k = omega arith in
    ap (λ b. keep_step b t (InRun (suc more) kept true)
    (script_for supply (marks (replicate k Stay ++ later) (LettersOf t (suc d) ∷ ss)) (record { seen = Some t; run = kept_run b t (InRun (suc more) kept true); made = made }))) (eq-eqb t t refl)
    ∙ keep_known supply k (suc d) t os ss later (suc more) kept made (omega (arith, h))
    ∙ ap (λ m. script_for supply (marks later (past k (spot_of os (LettersOf t (suc d) ∷ ss))).rest) (record { seen = Some t; run = InRun m kept true; made = made })) e

-- and letters of any text: after the first one of them is retained
pub keep_letters : (supply : ℕ → ℕ) (k d t : ℕ) (os : List ℕ) (ss : List Sign) (later : List Act) (r : ChangeReader) (more : ℕ) (kept : Option ℕ) →
    kept_run (is_seen r.seen t) t (one_more r.run) ≡ InRun more kept true → suc k ≤ d →
    script_for supply (marks (replicate (suc k) Stay ++ later) (LettersOf t d ∷ ss)) r
    ≡ keep_step (is_seen r.seen t) t (one_more r.run)
    (script_for supply (marks later (past (suc k) (spot_of os (LettersOf t d ∷ ss))).rest) (record { seen = Some t; run = InRun (more + k) kept true; made = r.made }))
keep_letters supply k zero t os ss later r more kept e h = absurd (omega (arith, h))
keep_letters supply zero (suc zero) t os ss later r more kept e h =
    let z : more ≡ more + 0 = omega arith in
    ap (λ x. keep_step (is_seen r.seen t) t (one_more r.run) (script_for supply (marks later ss) (record { seen = Some t; run = x; made = r.made }))) (e ∙ ap (λ m. InRun m kept true) z)
keep_letters supply (suc k) (suc zero) t os ss later r more kept e h = absurd (omega (arith, h))
keep_letters supply k (suc (suc d)) t os ss later r more kept e h =
    ap (λ x. keep_step (is_seen r.seen t) t (one_more r.run)
    (script_for supply (marks (replicate k Stay ++ later) (LettersOf t (suc d) ∷ ss)) (record { seen = Some t; run = x; made = r.made }))) e
    ∙ ap (keep_step (is_seen r.seen t) t (one_more r.run)) (keep_known supply k (suc d) t os ss later more kept r.made (omega (arith, h)))

-- some letters of a text go, but not its last one
pub cut_some : (supply : ℕ → ℕ) (k d t : ℕ) (os : List ℕ) (ss : List Sign) (later : List Act) (r : ChangeReader) → k < d →
    script_for supply (marks (replicate k Go ++ later) (LettersOf t d ∷ ss)) r ≡ script_for supply (marks later (past k (spot_of os (LettersOf t d ∷ ss))).rest) r
cut_some supply zero d t os ss later r h = refl
cut_some supply (suc k) zero t os ss later r h = absurd (omega (arith, h))
cut_some supply (suc k) (suc zero) t os ss later r h = absurd (omega (arith, h))
cut_some supply (suc k) (suc (suc d)) t os ss later r h = part (is_seen r.seen t) _ ∙ cut_some supply k (suc d) t os ss later r (omega (arith, h))
  where
    part : (known : Bool) (xs : List W.Step) → cut_step known false t xs ≡ xs
    part known xs = refl

-- and all that are left
pub cut_all : (supply : ℕ → ℕ) (d t : ℕ) (os : List ℕ) (ss : List Sign) (later : List Act) (r : ChangeReader) → 1 ≤ d →
    script_for supply (marks (replicate d Go ++ later) (LettersOf t d ∷ ss)) r ≡ cut_step (is_seen r.seen t) true t (script_for supply (marks later (past d (spot_of os (LettersOf t d ∷ ss))).rest) r)
cut_all supply zero t os ss later r h = absurd (omega (arith, h))
cut_all supply (suc zero) t os ss later r h = refl
cut_all supply (suc (suc d)) t os ss later r h = cut_all supply (suc d) t os ss later r (omega arith)
