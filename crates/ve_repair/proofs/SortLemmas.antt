-- The sorts of the new piece's nodes: those that stay are as before, and the others were made so.
use Rattle.std.proofs.Common.{◌≡◌, ℕ, zero, suc, Bool, true, false, Option, Some, None, IsSome, List, [], ◌∷◌, ◌++◌, option_map, refl, sym, ap, ◌∙◌, subst, append_assoc}
use Rattle.ve_arena.specs.declared.node.NodeWhat.{NodeWhat}
use Rattle.ve_arena.specs.declared.node.NodeWhat.TheVariants as what
use Rattle.ve_arena.specs.declared.node.ArenaNode.{ArenaNode}
use Rattle.ve_arena.specs.Arena.{slot_at, new_node}
use Rattle.ve_tree.specs.Named.{Named, NoNode, NamedRun, NamedBranch, Shows}
use Rattle.ve_tree.proofs.WalkLemmas.{Slots}
use Rattle.ve_repair.specs.declared.script.Step.{Step}
use Rattle.ve_repair.specs.declared.script.Step.TheVariants.{Enter, Leave, Text, Count}
use Rattle.ve_repair.specs.Work as W
use Rattle.ve_repair.specs.Agree.{steps_of}
use Rattle.ve_repair.specs.Spelled.{Sign, BeginOf, LettersOf, EndOf}
use Rattle.ve_repair.specs.Sizes.{signs_of, HasSort}
use Rattle.ve_repair.specs.Sizing.{StepsAreLive}
use Rattle.ve_repair.specs.Script.{Mark, KeptLetter, CutLetter, NewLetter, KeptBegin, CutBegin, NewBegin, KeptEnd, CutEnd, NewEnd, Running, NoRun, InRun, ChangeReader, is_seen, one_more, run_end, ended, kept_run, keep_step, kept_reader, cut_step, script_for, first_reader}
use Rattle.ve_repair.specs.Acts.{Act, Stay, Go, ComeLetter, ComeBegin, ComeEnd, marks}
use Rattle.ve_repair.specs.Reader.{Keeps}
use Rattle.ve_repair.specs.Courses.{AreBegun, AreTexts}

-- the arena's nodes are what these signs are of
abbrev pub SignsSort : Slots → List Sign → Type 0
SignsSort slots [] = Unit {0}
SignsSort slots (BeginOf n kind ∷ ss) = HasSort slots n (what.Node kind) × SignsSort slots ss
SignsSort slots (LettersOf n count ∷ ss) = HasSort slots n what.Run × SignsSort slots ss
SignsSort slots (EndOf kind ∷ ss) = SignsSort slots ss

pub sorts_forth : (slots : Slots) (f : Named) (ss : List Sign) → Shows slots f → SignsSort slots ss → SignsSort slots (signs_of f ++ ss)
sorts_forth slots NoNode ss s h = h
sorts_forth slots (NamedRun n count later) ss s h = (s.0.sort_is, sorts_forth slots later ss s.1 h)
sorts_forth slots (NamedBranch n kind inside later) ss s h = (
  s.0.sort_is,
  subst (SignsSort slots) (sym (append_assoc (signs_of inside) (EndOf kind ∷ signs_of later) ss))
      (sorts_forth slots inside (EndOf kind ∷ (signs_of later ++ ss)) s.1 (sorts_forth slots later ss s.2 h)),
)

pub sorts_part : (slots : Slots) (xs ys : List Sign) → SignsSort slots (xs ++ ys) → SignsSort slots xs × SignsSort slots ys
sorts_part slots [] ys h = (tt, h)
sorts_part slots (BeginOf n kind ∷ xs) ys h = let r = sorts_part slots xs ys h.1 in ((h.0, r.0), r.1)
sorts_part slots (LettersOf n count ∷ xs) ys h = let r = sorts_part slots xs ys h.1 in ((h.0, r.0), r.1)
sorts_part slots (EndOf kind ∷ xs) ys h = sorts_part slots xs ys h

sort_live : (slots : Slots) (n : ℕ) (sort : NodeWhat) → HasSort slots n sort → IsSome (slot_at slots n)
sort_live slots n sort h = by (slot_at slots n) h
  where
    by : (o : Option ArenaNode) → option_map (λ node. node.what) o ≡ Some sort → IsSome o
    by None e = absurd (cc)
    by (Some node) e = refl

-- nodes that were there are what they were
pub sorts_still : (old new : Slots) (ss : List Sign) → Keeps old new → SignsSort old ss → SignsSort new ss
sorts_still old new [] k h = tt
sorts_still old new (BeginOf n kind ∷ ss) k h = (ap (option_map (λ node. node.what)) (k n (sort_live old n _ h.0)) ∙ h.0, sorts_still old new ss k h.1)
sorts_still old new (LettersOf n count ∷ ss) k h = (ap (option_map (λ node. node.what)) (k n (sort_live old n _ h.0)) ∙ h.0, sorts_still old new ss k h.1)
sorts_still old new (EndOf kind ∷ ss) k h = sorts_still old new ss k h

-- the same of marks
abbrev MarkSort : Slots → Mark → Type 0
MarkSort slots (KeptLetter t ends) = HasSort slots t what.Run
MarkSort slots (CutLetter t ends) = HasSort slots t what.Run
MarkSort slots NewLetter = Unit {0}
MarkSort slots (KeptBegin n kind) = HasSort slots n (what.Node kind)
MarkSort slots (CutBegin n) = IsSome (slot_at slots n)
MarkSort slots (NewBegin n kind) = HasSort slots n (what.Node kind)
MarkSort slots (KeptEnd kind) = Unit {0}
MarkSort slots CutEnd = Unit {0}
MarkSort slots (NewEnd kind) = Unit {0}

abbrev MarksSort : Slots → List Mark → Type 0
MarksSort slots [] = Unit {0}
MarksSort slots (m ∷ ms) = MarkSort slots m × MarksSort slots ms

made_sort : (slots : Slots) (n : ℕ) (sort : NodeWhat) → slot_at slots n ≡ Some (new_node sort) → HasSort slots n sort
made_sort slots n sort h = ap (option_map (λ node. node.what)) h

marks_sort : (slots : Slots) (acts : List Act) (ss : List Sign) → AreBegun slots acts → SignsSort slots ss → MarksSort slots (marks acts ss)
marks_sort slots [] ss b h = tt
marks_sort slots (ComeLetter ∷ acts) ss b h = (tt, marks_sort slots acts ss b h)
marks_sort slots (ComeBegin n kind ∷ acts) ss b h = (made_sort slots n (what.Node kind) b.0, marks_sort slots acts ss b.1 h)
marks_sort slots (ComeEnd kind ∷ acts) ss b h = (tt, marks_sort slots acts ss b h)
marks_sort slots (Stay ∷ acts) [] b h = marks_sort slots acts [] b h
marks_sort slots (Stay ∷ acts) (BeginOf n kind ∷ ss) b h = (h.0, marks_sort slots acts ss b h.1)
marks_sort slots (Stay ∷ acts) (EndOf kind ∷ ss) b h = (tt, marks_sort slots acts ss b h)
marks_sort slots (Stay ∷ acts) (LettersOf n zero ∷ ss) b h = marks_sort slots acts ss b h.1
marks_sort slots (Stay ∷ acts) (LettersOf n (suc zero) ∷ ss) b h = (h.0, marks_sort slots acts ss b h.1)
marks_sort slots (Stay ∷ acts) (LettersOf n (suc (suc count)) ∷ ss) b h = (h.0, marks_sort slots acts (LettersOf n (suc count) ∷ ss) b h)
marks_sort slots (Go ∷ acts) [] b h = marks_sort slots acts [] b h
marks_sort slots (Go ∷ acts) (BeginOf n kind ∷ ss) b h = (sort_live slots n _ h.0, marks_sort slots acts ss b h.1)
marks_sort slots (Go ∷ acts) (EndOf kind ∷ ss) b h = (tt, marks_sort slots acts ss b h)
marks_sort slots (Go ∷ acts) (LettersOf n zero ∷ ss) b h = marks_sort slots acts ss b h.1
marks_sort slots (Go ∷ acts) (LettersOf n (suc zero) ∷ ss) b h = (h.0, marks_sort slots acts ss b h.1)
marks_sort slots (Go ∷ acts) (LettersOf n (suc (suc count)) ∷ ss) b h = (h.0, marks_sort slots acts (LettersOf n (suc count) ∷ ss) b h)

-- the text that the run keeps
abbrev RunSort : Slots → Running → Type 0
RunSort slots NoRun = Unit {0}
RunSort slots (InRun more None any) = Unit {0}
RunSort slots (InRun more (Some n) any) = HasSort slots n what.Run

more_sort : (slots : Slots) (run : Running) → RunSort slots run → RunSort slots (one_more run)
more_sort slots NoRun h = tt
more_sort slots (InRun more None any) h = tt
more_sort slots (InRun more (Some n) any) h = h

kept_sort : (slots : Slots) (known : Bool) (t : ℕ) (run : Running) → HasSort slots t what.Run → RunSort slots run → RunSort slots (kept_run known t run)
kept_sort slots true t NoRun s h = tt
kept_sort slots false t NoRun s h = tt
kept_sort slots true t (InRun more None any) s h = tt
kept_sort slots true t (InRun more (Some n) any) s h = h
kept_sort slots false t (InRun more None true) s h = tt
kept_sort slots false t (InRun more (Some n) true) s h = h
kept_sort slots false t (InRun more kept false) s h = s

keep_texts : (slots : Slots) (known : Bool) (t : ℕ) (run : Running) (ss : List W.Step) → AreTexts slots (keep_step known t run ss) → AreTexts slots ss
keep_texts slots true t run ss h = h
keep_texts slots false t NoRun ss h = h
keep_texts slots false t (InRun more kept true) ss h = h.1
keep_texts slots false t (InRun more kept false) ss h = h.1

cut_texts : (slots : Slots) (known ends : Bool) (t : ℕ) (ss : List W.Step) → AreTexts slots (cut_step known ends t ss) → AreTexts slots ss
cut_texts slots known false t ss h = h
cut_texts slots true true t ss h = h
cut_texts slots false true t ss h = h.1

-- the nodes that steps name are there
abbrev StepLive : Slots → W.Step → Type 0
StepLive slots (W.Enter how n) = IsSome (slot_at slots n)
StepLive slots (W.Leave how) = Unit {0}
StepLive slots (W.Text how n) = IsSome (slot_at slots n)
StepLive slots (W.Count n count) = IsSome (slot_at slots n)

abbrev AllLive : Slots → List W.Step → Type 0
AllLive slots [] = Unit {0}
AllLive slots (s ∷ ss) = StepLive slots s × AllLive slots ss

run_live : (slots : Slots) (supply : ℕ → ℕ) (run : Running) (made : ℕ) (ss : List W.Step) → RunSort slots run → AreTexts slots (run_end supply run made ss) → (AreTexts slots ss → AllLive slots ss) →
    AllLive slots (run_end supply run made ss)
run_live slots supply NoRun made ss r t f = f t
run_live slots supply (InRun more (Some n) any) made ss r t f = (sort_live slots n _ r, f t.1)
run_live slots supply (InRun more None any) made ss r t f =
    let l = sort_live slots (supply made) _ (made_sort slots (supply made) what.Run t.0) in (l, (l, f t.1.1))

keep_live : (slots : Slots) (known : Bool) (t : ℕ) (run : Running) (ss : List W.Step) → IsSome (slot_at slots t) → AllLive slots ss → AllLive slots (keep_step known t run ss)
keep_live slots true t run ss l h = h
keep_live slots false t NoRun ss l h = h
keep_live slots false t (InRun more kept true) ss l h = (l, h)
keep_live slots false t (InRun more kept false) ss l h = (l, h)

cut_live : (slots : Slots) (known ends : Bool) (t : ℕ) (ss : List W.Step) → IsSome (slot_at slots t) → AllLive slots ss → AllLive slots (cut_step known ends t ss)
cut_live slots known false t ss l h = h
cut_live slots true true t ss l h = h
cut_live slots false true t ss l h = (l, h)

steps_live : (slots : Slots) (supply : ℕ → ℕ) (ms : List Mark) (r : ChangeReader) → MarksSort slots ms → RunSort slots r.run → AreTexts slots (script_for supply ms r) → AllLive slots (script_for supply ms r)
steps_live slots supply [] r m h t = run_live slots supply r.run r.made [] h t (λ _. tt)
steps_live slots supply (KeptLetter n ends ∷ ms) r m h t =
    keep_live slots (is_seen r.seen n) n (one_more r.run) _ (sort_live slots n _ m.0)
    (steps_live slots supply ms (kept_reader n r) m.1 (kept_sort slots (is_seen r.seen n) n (one_more r.run) m.0 (more_sort slots r.run h)) (keep_texts slots (is_seen r.seen n) n (one_more r.run) _ t))
steps_live slots supply (CutLetter n ends ∷ ms) r m h t =
    cut_live slots (is_seen r.seen n) ends n _ (sort_live slots n _ m.0) (steps_live slots supply ms r m.1 h (cut_texts slots (is_seen r.seen n) ends n _ t))
steps_live slots supply (NewLetter ∷ ms) r m h t = steps_live slots supply ms (record r { run = one_more r.run }) m.1 (more_sort slots r.run h) t
steps_live slots supply (KeptBegin n kind ∷ ms) r m h t =
    run_live slots supply r.run r.made (W.Enter W.Keep n ∷ script_for supply ms (ended r)) h t (λ u. (sort_live slots n _ m.0, steps_live slots supply ms (ended r) m.1 tt u.1))
steps_live slots supply (CutBegin n ∷ ms) r m h t = (m.0, steps_live slots supply ms r m.1 h t.1)
steps_live slots supply (NewBegin n kind ∷ ms) r m h t =
    run_live slots supply r.run r.made (W.Enter W.Put n ∷ script_for supply ms (ended r)) h t (λ u. (sort_live slots n _ m.0, steps_live slots supply ms (ended r) m.1 tt u.1))
steps_live slots supply (KeptEnd kind ∷ ms) r m h t = run_live slots supply r.run r.made (W.Leave W.Keep ∷ script_for supply ms (ended r)) h t (λ u. (tt, steps_live slots supply ms (ended r) m.1 tt u.1))
steps_live slots supply (CutEnd ∷ ms) r m h t = (tt, steps_live slots supply ms r m.1 h t.1)
steps_live slots supply (NewEnd kind ∷ ms) r m h t = run_live slots supply r.run r.made (W.Leave W.Put ∷ script_for supply ms (ended r)) h t (λ u. (tt, steps_live slots supply ms (ended r) m.1 tt u.1))

live_steps : (slots : Slots) (script : List Step) → AllLive slots (steps_of script) → StepsAreLive slots script
live_steps slots [] h = tt
live_steps slots (Enter how n ∷ xs) h = (h.0, live_steps slots xs h.1)
live_steps slots (Leave how ∷ xs) h = (tt, live_steps slots xs h.1)
live_steps slots (Text how n ∷ xs) h = (h.0, live_steps slots xs h.1)
live_steps slots (Count n count ∷ xs) h = (h.0, live_steps slots xs h.1)

pub script_live : (slots : Slots) (supply : ℕ → ℕ) (acts : List Act) (ss : List Sign) (script : List Step) → steps_of script ≡ script_for supply (marks acts ss) (first_reader 0) → AreBegun slots acts →
    SignsSort slots ss → AreTexts slots (steps_of script) → StepsAreLive slots script
script_live slots supply acts ss script e b h t =
    live_steps slots script (subst (AllLive slots) (sym e) (steps_live slots supply (marks acts ss) (first_reader 0) (marks_sort slots acts ss b h) tt (subst (AreTexts slots) e t)))
