-- Nodes that were made for a script: freed again, and of their sorts.
use Rattle.std.proofs.Common.{◌≡◌, ℕ, zero, suc, Bool, true, false, if◌then◌else◌, Option, None, Some, List, [], ◌∷◌, ◌++◌, map, refl, sym, ap, ◌∙◌, eqb}
use Rattle.std.proofs.lemmas.Bool.{eqb-true, eqb-false}
use Rattle.ve_arena.specs.declared.node.NodeId.{NodeId}
use Rattle.ve_arena.specs.declared.node.NodeWhat.TheVariants as what
use Rattle.ve_arena.specs.declared.node.ArenaNode.{ArenaNode}
use Rattle.ve_arena.specs.Arena.{slot_at}
use Rattle.ve_tree.specs.Links.{Apart, number_of}
use Rattle.ve_tree.specs.Named.{Named, NoNode, NamedRun, NamedBranch}
use Rattle.ve_tree.specs.Grown.{AllVacant}
use Rattle.ve_repair.specs.declared.script.How.TheVariants.{Put}
use Rattle.ve_repair.specs.Work as W
use Rattle.ve_repair.specs.Spelled.{Sign, BeginOf, LettersOf, EndOf}
use Rattle.ve_repair.specs.Script.{Mark, KeptLetter, CutLetter, NewLetter, KeptBegin, CutBegin, NewBegin, KeptEnd, CutEnd, NewEnd, Running, NoRun, InRun, ChangeReader, is_seen, one_more, run_end, ended, kept_run, keep_step, kept_reader, cut_step, script_for, run_sign, signs_for, first_reader}
use Rattle.ve_repair.specs.Sizes.{signs_of, HasSort, HaveSorts}
use Rattle.ve_repair.specs.Acts.{Act, Stay, Go, ComeLetter, ComeBegin, ComeEnd, marks}
use Rattle.ve_repair.specs.Frees.{nodes_of, freed_slot}
use Rattle.ve_repair.specs.Made.{MadeAreUndone, SignsHaveSorts, ComeWithSorts, TextsAreRuns, NewSideHasSorts}

abbrev Slots : Type 0
Slots = List (Option ArenaNode)

-- where no number of the list stands nothing else is freed, and under one of them there was nothing
undone_slot : (old : Slots) (q : ℕ) (ns : List NodeId) (slot : Option ArenaNode) → AllVacant old (map number_of ns) → (Apart q (map number_of ns) → slot ≡ slot_at old q) → freed_slot ns q slot ≡ slot_at old q
undone_slot old q [] slot v h = h tt
undone_slot old q (n ∷ ns) slot v h = go (eqb n.0 q) refl (λ s k. undone_slot old q ns s v.1 k)
  where
    go : (b : Bool) → eqb n.0 q ≡ b → ((s : Option ArenaNode) → (Apart q (map number_of ns) → s ≡ slot_at old q) → freed_slot ns q s ≡ slot_at old q) →
        freed_slot ns q (if b then None else slot) ≡ slot_at old q
    go true e rest = rest None (λ _. sym v.0 ∙ ap (slot_at old) (eqb-true n.0 q e))
    go false e rest = rest slot (λ a. h ((λ same. eqb-false n.0 q e (sym same)), a))

pub made_are_undone : MadeAreUndone
made_are_undone old new after script made freed q =
    freed q ∙ undone_slot old q (nodes_of Put script) (slot_at new q) made.vacant (made.others q)

-- sorts by marks
abbrev MarksHaveSorts : List (Option ArenaNode) → List Mark → Type 0
MarksHaveSorts slots [] = Unit {0}
MarksHaveSorts slots (KeptLetter t ends ∷ ms) = HasSort slots t what.Run × MarksHaveSorts slots ms
MarksHaveSorts slots (CutLetter t ends ∷ ms) = MarksHaveSorts slots ms
MarksHaveSorts slots (NewLetter ∷ ms) = MarksHaveSorts slots ms
MarksHaveSorts slots (KeptBegin n kind ∷ ms) = HasSort slots n (what.Node kind) × MarksHaveSorts slots ms
MarksHaveSorts slots (CutBegin n ∷ ms) = MarksHaveSorts slots ms
MarksHaveSorts slots (NewBegin n kind ∷ ms) = HasSort slots n (what.Node kind) × MarksHaveSorts slots ms
MarksHaveSorts slots (KeptEnd kind ∷ ms) = MarksHaveSorts slots ms
MarksHaveSorts slots (CutEnd ∷ ms) = MarksHaveSorts slots ms
MarksHaveSorts slots (NewEnd kind ∷ ms) = MarksHaveSorts slots ms

marks_sorts : (slots : Slots) (acts : List Act) (ss : List Sign) → SignsHaveSorts slots ss → ComeWithSorts slots acts → MarksHaveSorts slots (marks acts ss)
marks_sorts slots [] ss s c = tt
marks_sorts slots (ComeLetter ∷ acts) ss s c = marks_sorts slots acts ss s c
marks_sorts slots (ComeBegin n kind ∷ acts) ss s c = (c.0, marks_sorts slots acts ss s c.1)
marks_sorts slots (ComeEnd kind ∷ acts) ss s c = marks_sorts slots acts ss s c
marks_sorts slots (Stay ∷ acts) [] s c = marks_sorts slots acts [] s c
marks_sorts slots (Stay ∷ acts) (BeginOf n kind ∷ ss) s c = (s.0, marks_sorts slots acts ss s.1 c)
marks_sorts slots (Stay ∷ acts) (EndOf kind ∷ ss) s c = marks_sorts slots acts ss s c
marks_sorts slots (Stay ∷ acts) (LettersOf n zero ∷ ss) s c = marks_sorts slots acts ss s.1 c
marks_sorts slots (Stay ∷ acts) (LettersOf n (suc zero) ∷ ss) s c = (s.0, marks_sorts slots acts ss s.1 c)
marks_sorts slots (Stay ∷ acts) (LettersOf n (suc (suc count)) ∷ ss) s c = (s.0, marks_sorts slots acts (LettersOf n (suc count) ∷ ss) s c)
marks_sorts slots (Go ∷ acts) [] s c = marks_sorts slots acts [] s c
marks_sorts slots (Go ∷ acts) (BeginOf n kind ∷ ss) s c = marks_sorts slots acts ss s.1 c
marks_sorts slots (Go ∷ acts) (EndOf kind ∷ ss) s c = marks_sorts slots acts ss s c
marks_sorts slots (Go ∷ acts) (LettersOf n zero ∷ ss) s c = marks_sorts slots acts ss s.1 c
marks_sorts slots (Go ∷ acts) (LettersOf n (suc zero) ∷ ss) s c = marks_sorts slots acts ss s.1 c
marks_sorts slots (Go ∷ acts) (LettersOf n (suc (suc count)) ∷ ss) s c = marks_sorts slots acts (LettersOf n (suc count) ∷ ss) s c

-- the text that the run keeps is a text
abbrev RunHasSort : List (Option ArenaNode) → Running → Type 0
RunHasSort slots NoRun = Unit {0}
RunHasSort slots (InRun more None any) = Unit {0}
RunHasSort slots (InRun more (Some n) any) = HasSort slots n what.Run

ended_sorts : (slots : Slots) (supply : ℕ → ℕ) (run : Running) (made : ℕ) (xs : List W.Step) (ss : List Sign) → RunHasSort slots run → TextsAreRuns slots (run_end supply run made xs) →
    (TextsAreRuns slots xs → SignsHaveSorts slots ss) → SignsHaveSorts slots (run_sign supply run made ss)
ended_sorts slots supply NoRun made xs ss r t h = h t
ended_sorts slots supply (InRun more None any) made xs ss r t h = (t.0, h t.1)
ended_sorts slots supply (InRun more (Some n) any) made xs ss r t h = (r, h t)

more_sort : (slots : Slots) (run : Running) → RunHasSort slots run → RunHasSort slots (one_more run)
more_sort slots NoRun h = tt
more_sort slots (InRun more None any) h = tt
more_sort slots (InRun more (Some n) any) h = h

kept_sort : (slots : Slots) (known : Bool) (t : ℕ) (run : Running) → HasSort slots t what.Run → RunHasSort slots run → RunHasSort slots (kept_run known t run)
kept_sort slots known t NoRun s h = tt
kept_sort slots true t (InRun more None any) s h = tt
kept_sort slots true t (InRun more (Some n) any) s h = h
kept_sort slots false t (InRun more None true) s h = tt
kept_sort slots false t (InRun more (Some n) true) s h = h
kept_sort slots false t (InRun more text false) s h = s

kept_texts : (slots : Slots) (known : Bool) (t : ℕ) (run : Running) (xs : List W.Step) → TextsAreRuns slots (keep_step known t run xs) → TextsAreRuns slots xs
kept_texts slots true t run xs h = h
kept_texts slots false t NoRun xs h = h
kept_texts slots false t (InRun more text true) xs h = h
kept_texts slots false t (InRun more text false) xs h = h

cut_texts : (slots : Slots) (known ends : Bool) (t : ℕ) (xs : List W.Step) → TextsAreRuns slots (cut_step known ends t xs) → TextsAreRuns slots xs
cut_texts slots known false t xs h = h
cut_texts slots true true t xs h = h
cut_texts slots false true t xs h = h

signs_sorts : (slots : Slots) (supply : ℕ → ℕ) (ms : List Mark) (r : ChangeReader) → MarksHaveSorts slots ms → RunHasSort slots r.run → TextsAreRuns slots (script_for supply ms r) → SignsHaveSorts slots (signs_for supply ms r)
signs_sorts slots supply [] r m k t = ended_sorts slots supply r.run r.made [] [] k t (λ h. h)
signs_sorts slots supply (KeptLetter s ends ∷ ms) r m k t =
    signs_sorts slots supply ms (kept_reader s r) m.1 (kept_sort slots (is_seen r.seen s) s (one_more r.run) m.0 (more_sort slots r.run k))
    (kept_texts slots (is_seen r.seen s) s (one_more r.run) (script_for supply ms (kept_reader s r)) t)
signs_sorts slots supply (CutLetter s ends ∷ ms) r m k t = signs_sorts slots supply ms r m k (cut_texts slots (is_seen r.seen s) ends s (script_for supply ms r) t)
signs_sorts slots supply (NewLetter ∷ ms) r m k t = signs_sorts slots supply ms (record r { run = one_more r.run }) m (more_sort slots r.run k) t
signs_sorts slots supply (KeptBegin n kind ∷ ms) r m k t =
    ended_sorts slots supply r.run r.made (W.Enter W.Keep n ∷ script_for supply ms (ended r)) (BeginOf n kind ∷ signs_for supply ms (ended r)) k t
    (let h = signs_sorts slots supply ms (ended r) m.1 tt in λ texts. (m.0, h texts))
signs_sorts slots supply (CutBegin n ∷ ms) r m k t = signs_sorts slots supply ms r m k t
signs_sorts slots supply (NewBegin n kind ∷ ms) r m k t =
    ended_sorts slots supply r.run r.made (W.Enter W.Put n ∷ script_for supply ms (ended r)) (BeginOf n kind ∷ signs_for supply ms (ended r)) k t
    (let h = signs_sorts slots supply ms (ended r) m.1 tt in λ texts. (m.0, h texts))
signs_sorts slots supply (KeptEnd kind ∷ ms) r m k t =
    ended_sorts slots supply r.run r.made (W.Leave W.Keep ∷ script_for supply ms (ended r)) (EndOf kind ∷ signs_for supply ms (ended r)) k t (signs_sorts slots supply ms (ended r) m tt)
signs_sorts slots supply (CutEnd ∷ ms) r m k t = signs_sorts slots supply ms r m k t
signs_sorts slots supply (NewEnd kind ∷ ms) r m k t =
    ended_sorts slots supply r.run r.made (W.Leave W.Put ∷ script_for supply ms (ended r)) (EndOf kind ∷ signs_for supply ms (ended r)) k t (signs_sorts slots supply ms (ended r) m tt)

pub new_side_has_sorts : NewSideHasSorts
new_side_has_sorts slots supply acts ss s c t = signs_sorts slots supply (marks acts ss) (first_reader 0) (marks_sorts slots acts ss s c) tt t

-- sorts by signs and by forests are the same
pub sorts_before : (slots : Slots) (xs ys : List Sign) → SignsHaveSorts slots (xs ++ ys) → SignsHaveSorts slots xs
sorts_before slots [] ys h = tt
sorts_before slots (BeginOf n kind ∷ xs) ys h = (h.0, sorts_before slots xs ys h.1)
sorts_before slots (LettersOf n count ∷ xs) ys h = (h.0, sorts_before slots xs ys h.1)
sorts_before slots (EndOf kind ∷ xs) ys h = sorts_before slots xs ys h

pub sorts_behind : (slots : Slots) (xs ys : List Sign) → SignsHaveSorts slots (xs ++ ys) → SignsHaveSorts slots ys
sorts_behind slots [] ys h = h
sorts_behind slots (BeginOf n kind ∷ xs) ys h = sorts_behind slots xs ys h.1
sorts_behind slots (LettersOf n count ∷ xs) ys h = sorts_behind slots xs ys h.1
sorts_behind slots (EndOf kind ∷ xs) ys h = sorts_behind slots xs ys h

pub sorts_join : (slots : Slots) (xs ys : List Sign) → SignsHaveSorts slots xs → SignsHaveSorts slots ys → SignsHaveSorts slots (xs ++ ys)
sorts_join slots [] ys h k = k
sorts_join slots (BeginOf n kind ∷ xs) ys h k = (h.0, sorts_join slots xs ys h.1 k)
sorts_join slots (LettersOf n count ∷ xs) ys h k = (h.0, sorts_join slots xs ys h.1 k)
sorts_join slots (EndOf kind ∷ xs) ys h k = sorts_join slots xs ys h k

pub forest_sorts : (slots : Slots) (f : Named) → SignsHaveSorts slots (signs_of f) → HaveSorts slots f
forest_sorts slots NoNode h = tt
forest_sorts slots (NamedRun n count later) h = (h.0, forest_sorts slots later h.1)
forest_sorts slots (NamedBranch n kind inside later) h = (
  h.0,
  forest_sorts slots inside (sorts_before slots (signs_of inside) (EndOf kind ∷ signs_of later) h.1),
  forest_sorts slots later (sorts_behind slots (signs_of inside) (EndOf kind ∷ signs_of later) h.1),
)
