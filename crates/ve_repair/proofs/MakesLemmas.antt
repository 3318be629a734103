-- How many nodes a script makes, whatever numbers they get.
use Rattle.std.proofs.Common.{◌≡◌, ◌+◌, ℕ, zero, suc, Bool, true, false, Option, Some, None, List, [], ◌∷◌, ◌++◌, length, map, replicate, option_map, refl, sym, ap, ◌∙◌, arith, append_assoc}
use Rattle.std.proofs.lemmas.List.{map-append}
use Rattle.model_items.specs.declared.item.Item.{Item}
use Rattle.model_items.specs.declared.item.Item.TheVariants as item
use Rattle.ve_tree.specs.Links.{number_of}
use Rattle.ve_tx.specs.declared.op.Op.{Op}
use Rattle.ve_tx.specs.declared.op.Op.TheVariants as op
use Rattle.ve_repair.specs.declared.read.TextRun.{TextRun}
use Rattle.ve_repair.specs.declared.script.Step.{Step}
use Rattle.ve_repair.specs.declared.script.Step.TheVariants as step
use Rattle.ve_repair.specs.declared.script.How.TheVariants as how
use Rattle.ve_repair.specs.Work as W
use Rattle.ve_repair.specs.Acts.{Act, Stay, Go, ComeLetter, ComeBegin, ComeEnd, marks, come, rest_of, acts_of}
use Rattle.ve_repair.specs.Agree.{steps_of}
use Rattle.ve_repair.specs.Charged.{made_count}
use Rattle.ve_repair.specs.Partly.{unnumbered_act, makes_of, made_at_end, made_by}
use Rattle.ve_repair.specs.Reader.{running_of}
use Rattle.ve_repair.specs.Script.{ChangeReader, Running, NoRun, InRun, is_seen, one_more, run_end, ended, kept_reader, keep_step, cut_step, script_for, first_reader}
use Rattle.ve_repair.specs.Spelled.{Sign, BeginOf, LettersOf, EndOf}
use Rattle.ve_repair.specs.Tokens.{puts}

abbrev pub makes : List W.Step → ℕ
makes ss = length (puts ss)

-- a text is made where a run ends that keeps none
abbrev pub run_makes : Running → ℕ
run_makes NoRun = 0
run_makes (InRun more (Some n) any) = 0
run_makes (InRun more None any) = 1

pub makes_run : (supply : ℕ → ℕ) (run : Running) (made : ℕ) (ss : List W.Step) → makes (run_end supply run made ss) ≡ run_makes run + makes ss
makes_run supply NoRun made ss = omega arith
makes_run supply (InRun more (Some n) any) made ss = omega arith
makes_run supply (InRun more None any) made ss = omega arith

makes_keep : (known : Bool) (t : ℕ) (run : Running) (ss : List W.Step) → makes (keep_step known t run ss) ≡ makes ss
makes_keep true t run ss = refl
makes_keep false t NoRun ss = refl
makes_keep false t (InRun more kept true) ss = refl
makes_keep false t (InRun more kept false) ss = refl

makes_cut : (known ends : Bool) (t : ℕ) (ss : List W.Step) → makes (cut_step known ends t ss) ≡ makes ss
makes_cut known false t ss = refl
makes_cut true true t ss = refl
makes_cut false true t ss = refl

-- the same nodes are made for the same acts
abbrev Same : (ℕ → ℕ) → List Act → List Sign → ChangeReader → Type 0
Same supply acts ss r = makes (script_for supply (marks acts ss) r) ≡ makes (script_for (λ k. 0) (marks (map unnumbered_act acts) ss) r)

at_bracket : (supply : ℕ → ℕ) (r : ChangeReader) (xs ys : List W.Step) → makes xs ≡ makes ys → makes (run_end supply r.run r.made xs) ≡ makes (run_end (λ k. 0) r.run r.made ys)
at_bracket supply r xs ys e =
    let a = makes_run supply r.run r.made xs in
    let b = makes_run (λ k. 0) r.run r.made ys in
    omega (arith, a, b, e)

at_letter : (r : ChangeReader) (t : ℕ) (xs ys : List W.Step) → makes xs ≡ makes ys → makes (keep_step (is_seen r.seen t) t (one_more r.run) xs) ≡ makes (keep_step (is_seen r.seen t) t (one_more r.run) ys)
at_letter r t xs ys e = makes_keep (is_seen r.seen t) t (one_more r.run) xs ∙ e ∙ sym (makes_keep (is_seen r.seen t) t (one_more r.run) ys)

at_cut : (r : ChangeReader) (ends : Bool) (t : ℕ) (xs ys : List W.Step) → makes xs ≡ makes ys → makes (cut_step (is_seen r.seen t) ends t xs) ≡ makes (cut_step (is_seen r.seen t) ends t ys)
at_cut r ends t xs ys e = makes_cut (is_seen r.seen t) ends t xs ∙ e ∙ sym (makes_cut (is_seen r.seen t) ends t ys)

pub same_makes : (supply : ℕ → ℕ) (acts : List Act) (ss : List Sign) (r : ChangeReader) → Same supply acts ss r
same_makes supply [] ss r = at_bracket supply r [] [] refl
same_makes supply (ComeLetter ∷ acts) ss r = same_makes supply acts ss (record r { run = one_more r.run })
same_makes supply (ComeBegin n kind ∷ acts) ss r = at_bracket supply r _ _ (let e = same_makes supply acts ss (ended r) in omega (arith, e))
same_makes supply (ComeEnd kind ∷ acts) ss r = at_bracket supply r _ _ (same_makes supply acts ss (ended r))
same_makes supply (Stay ∷ acts) [] r = same_makes supply acts [] r
same_makes supply (Stay ∷ acts) (BeginOf n kind ∷ ss) r = at_bracket supply r _ _ (same_makes supply acts ss (ended r))
same_makes supply (Stay ∷ acts) (EndOf kind ∷ ss) r = at_bracket supply r _ _ (same_makes supply acts ss (ended r))
same_makes supply (Stay ∷ acts) (LettersOf n zero ∷ ss) r = same_makes supply acts ss r
same_makes supply (Stay ∷ acts) (LettersOf n (suc zero) ∷ ss) r = at_letter r n _ _ (same_makes supply acts ss (kept_reader n r))
same_makes supply (Stay ∷ acts) (LettersOf n (suc (suc count)) ∷ ss) r = at_letter r n _ _ (same_makes supply acts (LettersOf n (suc count) ∷ ss) (kept_reader n r))
same_makes supply (Go ∷ acts) [] r = same_makes supply acts [] r
same_makes supply (Go ∷ acts) (BeginOf n kind ∷ ss) r = same_makes supply acts ss r
same_makes supply (Go ∷ acts) (EndOf kind ∷ ss) r = same_makes supply acts ss r
same_makes supply (Go ∷ acts) (LettersOf n zero ∷ ss) r = same_makes supply acts ss r
same_makes supply (Go ∷ acts) (LettersOf n (suc zero) ∷ ss) r = at_cut r true n _ _ (same_makes supply acts ss r)
same_makes supply (Go ∷ acts) (LettersOf n (suc (suc count)) ∷ ss) r = same_makes supply acts (LettersOf n (suc count) ∷ ss) r

-- whatever supply and numbers
pub makes_are : (supply : ℕ → ℕ) (acts : List Act) (ss : List Sign) → makes (script_for supply (marks acts ss) (first_reader 0)) ≡ makes_of acts ss
makes_are supply acts ss = same_makes supply acts ss (first_reader 0)

-- the code's steps
pub makes_then : (xs : List Step) (more : List W.Step) → makes (steps_of xs ++ more) ≡ made_count xs + makes more
makes_then [] more = omega arith
makes_then (step.Enter how.Keep n ∷ xs) more = makes_then xs more
makes_then (step.Enter how.Cut n ∷ xs) more = makes_then xs more
makes_then (step.Enter how.Put n ∷ xs) more = let r = makes_then xs more in omega (arith, r)
makes_then (step.Leave how.Keep ∷ xs) more = makes_then xs more
makes_then (step.Leave how.Cut ∷ xs) more = makes_then xs more
makes_then (step.Leave how.Put ∷ xs) more = makes_then xs more
makes_then (step.Text how.Keep n ∷ xs) more = makes_then xs more
makes_then (step.Text how.Cut n ∷ xs) more = makes_then xs more
makes_then (step.Text how.Put n ∷ xs) more = let r = makes_then xs more in omega (arith, r)
makes_then (step.Count n count ∷ xs) more = makes_then xs more

pub made_running : (run : Option TextRun) → run_makes (running_of run) ≡ made_by run
made_running None = refl
made_running (Some run) = by run.kept
  where
    by : (kept : _) → run_makes (InRun run.more (option_map number_of kept) run.any) ≡ made_at_end kept
    by None = refl
    by (Some n) = refl

-- acts without their numbers
pub come_blank : (items : List Item) (ns : List ℕ) → map unnumbered_act (come items ns) ≡ map unnumbered_act (come items [])
come_blank [] ns = refl
come_blank (item.Char ch marks ∷ items) ns = ap (λ l. ComeLetter ∷ l) (come_blank items ns)
come_blank (item.Opening kind generated head marks pre origin ∷ items) [] = refl
come_blank (item.Opening kind generated head marks pre origin ∷ items) (n ∷ ns) = ap (λ l. ComeBegin 0 kind ∷ l) (come_blank items ns)
come_blank (item.Closing kind pre ∷ items) ns = ap (λ l. ComeEnd kind ∷ l) (come_blank items ns)

pub come_none : (xs ys : List Item) → come (xs ++ ys) [] ≡ come xs [] ++ come ys []
come_none [] ys = refl
come_none (item.Char ch marks ∷ xs) ys = ap (λ l. ComeLetter ∷ l) (come_none xs ys)
come_none (item.Opening kind generated head marks pre origin ∷ xs) ys = ap (λ l. ComeBegin 0 kind ∷ l) (come_none xs ys)
come_none (item.Closing kind pre ∷ xs) ys = ap (λ l. ComeEnd kind ∷ l) (come_none xs ys)

rest_none : (items : List Item) → rest_of items [] ≡ []
rest_none [] = refl
rest_none (item.Char ch marks ∷ items) = rest_none items
rest_none (item.Opening kind generated head marks pre origin ∷ items) = rest_none items
rest_none (item.Closing kind pre ∷ items) = rest_none items

pub ops_blank : (ops : List Op) (ns : List ℕ) → map unnumbered_act (acts_of ops ns) ≡ map unnumbered_act (acts_of ops [])
ops_blank [] ns = refl
ops_blank (op.Retain count ∷ ops) ns =
    map-append unnumbered_act (replicate count Stay) (acts_of ops ns) ∙ ap (λ l. map unnumbered_act (replicate count Stay) ++ l) (ops_blank ops ns)
    ∙ sym (map-append unnumbered_act (replicate count Stay) (acts_of ops []))
ops_blank (op.Replace removed inserted ∷ ops) ns =
    split (come inserted ns) (acts_of ops (rest_of inserted ns))
    ∙ (λ i. map unnumbered_act (replicate (length removed) Go) ++ (come_blank inserted ns i ++ (ops_blank ops (rest_of inserted ns) ∙ sym (ops_blank ops (rest_of inserted []))) i))
    ∙ sym (split (come inserted []) (acts_of ops (rest_of inserted [])))
  where
    split : (xs ys : List Act) → map unnumbered_act (replicate (length removed) Go ++ (xs ++ ys)) ≡ map unnumbered_act (replicate (length removed) Go) ++ (map unnumbered_act xs ++ map unnumbered_act ys)
    split xs ys =
        map-append unnumbered_act (replicate (length removed) Go) (xs ++ ys)
        ∙ ap (λ l. map unnumbered_act (replicate (length removed) Go) ++ l) (map-append unnumbered_act xs ys)
ops_blank (op.Attribute name from to ∷ ops) ns = ops_blank ops ns

pub ops_none : (xs ys : List Op) → acts_of (xs ++ ys) [] ≡ acts_of xs [] ++ acts_of ys []
ops_none [] ys = refl
ops_none (op.Retain count ∷ xs) ys = ap (λ l. replicate count Stay ++ l) (ops_none xs ys) ∙ sym (append_assoc (replicate count Stay) (acts_of xs []) (acts_of ys []))
ops_none (op.Replace removed inserted ∷ xs) ys =
    ap (λ ns. replicate (length removed) Go ++ (come inserted [] ++ acts_of (xs ++ ys) ns)) (rest_none inserted)
    ∙ ap (λ l. replicate (length removed) Go ++ (come inserted [] ++ l)) (ops_none xs ys ∙ ap (λ ns. acts_of xs ns ++ acts_of ys []) (sym (rest_none inserted)))
    ∙ ap (λ l. replicate (length removed) Go ++ l) (sym (append_assoc (come inserted []) (acts_of xs (rest_of inserted [])) (acts_of ys [])))
    ∙ sym (append_assoc (replicate (length removed) Go) (come inserted [] ++ acts_of xs (rest_of inserted [])) (acts_of ys []))
ops_none (op.Attribute name from to ∷ xs) ys = ops_none xs ys
