-- The nodes that a script puts are just made: they link to nothing, and are of their sorts.
use Rattle.std.proofs.Common.{◌≡◌, ℕ, zero, suc, Bool, true, false, Option, None, Some, List, [], ◌∷◌, map, option_map, refl, sym, ap, ◌∙◌, subst}
use Rattle.ve_arena.specs.declared.node.NodeId.{NodeId}
use Rattle.ve_arena.specs.declared.node.NodeWhat.{NodeWhat}
use Rattle.ve_arena.specs.declared.node.NodeWhat.TheVariants as what
use Rattle.ve_arena.specs.declared.node.ArenaNode.{ArenaNode}
use Rattle.ve_arena.specs.Arena.{slot_at, new_node}
use Rattle.ve_tree.specs.Links.{link_in, links_of, number_of, Apart}
use Rattle.ve_tree.specs.Grown.{AllVacant}
use Rattle.ve_repair.specs.declared.script.How.TheVariants.{Keep, Cut, Put}
use Rattle.ve_repair.specs.declared.script.Step.{Step}
use Rattle.ve_repair.specs.declared.script.Step.TheVariants.{Enter, Leave, Text, Count}
use Rattle.ve_repair.specs.Work as W
use Rattle.ve_repair.specs.Tokens.{puts}
use Rattle.ve_repair.specs.Agree.{steps_of}
use Rattle.ve_repair.specs.Frees.{nodes_of}
use Rattle.ve_repair.specs.Spelled.{Sign, BeginOf, LettersOf, EndOf}
use Rattle.ve_repair.specs.Script.{Mark, KeptLetter, CutLetter, NewLetter, KeptBegin, CutBegin, NewBegin, KeptEnd, CutEnd, NewEnd, Running, NoRun, InRun, ChangeReader, is_seen, one_more, run_end, ended, keep_step, kept_reader, cut_step, script_for, first_reader}
use Rattle.ve_repair.specs.Acts.{Act, Stay, Go, ComeLetter, ComeBegin, ComeEnd, marks}
use Rattle.ve_repair.specs.Courses.{AreBegun, AreTexts}
use Rattle.ve_repair.specs.Made.{ComeWithSorts, TextsAreRuns}
use Rattle.ve_repair.specs.Reader.{Slots, HasMade}
use Rattle.ve_repair.proofs.RelinkLemmas.{by_case}

-- the nodes under these numbers are just made
abbrev pub AreNew : Slots → List ℕ → Type 0
AreNew slots [] = Unit {0}
AreNew slots (n ∷ ns) = ((sort : NodeWhat) × (slot_at slots n ≡ Some (new_node sort))) × AreNew slots ns

-- and those that marks begin
abbrev MarksBegun : Slots → List Mark → Type 0
MarksBegun slots [] = Unit {0}
MarksBegun slots (KeptLetter t ends ∷ ms) = MarksBegun slots ms
MarksBegun slots (CutLetter t ends ∷ ms) = MarksBegun slots ms
MarksBegun slots (NewLetter ∷ ms) = MarksBegun slots ms
MarksBegun slots (KeptBegin n kind ∷ ms) = MarksBegun slots ms
MarksBegun slots (CutBegin n ∷ ms) = MarksBegun slots ms
MarksBegun slots (NewBegin n kind ∷ ms) = (slot_at slots n ≡ Some (new_node (what.Node kind))) × MarksBegun slots ms
MarksBegun slots (KeptEnd kind ∷ ms) = MarksBegun slots ms
MarksBegun slots (CutEnd ∷ ms) = MarksBegun slots ms
MarksBegun slots (NewEnd kind ∷ ms) = MarksBegun slots ms

marks_begun : (slots : Slots) (acts : List Act) (ss : List Sign) → AreBegun slots acts → MarksBegun slots (marks acts ss)
marks_begun slots [] ss b = tt
marks_begun slots (ComeLetter ∷ acts) ss b = marks_begun slots acts ss b
marks_begun slots (ComeBegin n kind ∷ acts) ss b = (b.0, marks_begun slots acts ss b.1)
marks_begun slots (ComeEnd kind ∷ acts) ss b = marks_begun slots acts ss b
marks_begun slots (Stay ∷ acts) [] b = marks_begun slots acts [] b
marks_begun slots (Stay ∷ acts) (BeginOf n kind ∷ ss) b = marks_begun slots acts ss b
marks_begun slots (Stay ∷ acts) (EndOf kind ∷ ss) b = marks_begun slots acts ss b
marks_begun slots (Stay ∷ acts) (LettersOf n zero ∷ ss) b = marks_begun slots acts ss b
marks_begun slots (Stay ∷ acts) (LettersOf n (suc zero) ∷ ss) b = marks_begun slots acts ss b
marks_begun slots (Stay ∷ acts) (LettersOf n (suc (suc count)) ∷ ss) b = marks_begun slots acts (LettersOf n (suc count) ∷ ss) b
marks_begun slots (Go ∷ acts) [] b = marks_begun slots acts [] b
marks_begun slots (Go ∷ acts) (BeginOf n kind ∷ ss) b = marks_begun slots acts ss b
marks_begun slots (Go ∷ acts) (EndOf kind ∷ ss) b = marks_begun slots acts ss b
marks_begun slots (Go ∷ acts) (LettersOf n zero ∷ ss) b = marks_begun slots acts ss b
marks_begun slots (Go ∷ acts) (LettersOf n (suc zero) ∷ ss) b = marks_begun slots acts ss b
marks_begun slots (Go ∷ acts) (LettersOf n (suc (suc count)) ∷ ss) b = marks_begun slots acts (LettersOf n (suc count) ∷ ss) b

run_new : (slots : Slots) (supply : ℕ → ℕ) (run : Running) (made : ℕ) (xs : List W.Step) → AreTexts slots (run_end supply run made xs) → (AreTexts slots xs → AreNew slots (puts xs)) →
    AreNew slots (puts (run_end supply run made xs))
run_new slots supply NoRun made xs t h = h t
run_new slots supply (InRun more None any) made xs t h = ((what.Run, t.0), h t.1.1)
run_new slots supply (InRun more (Some n) any) made xs t h = h t.1

keep_new : (slots : Slots) (known : Bool) (s : ℕ) (run : Running) (xs : List W.Step) → AreTexts slots (keep_step known s run xs) → (AreTexts slots xs → AreNew slots (puts xs)) →
    AreNew slots (puts (keep_step known s run xs))
keep_new slots true s run xs t h = h t
keep_new slots false s NoRun xs t h = h t
keep_new slots false s (InRun more text true) xs t h = h t.1
keep_new slots false s (InRun more text false) xs t h = h t.1

cut_new : (slots : Slots) (known ends : Bool) (s : ℕ) (xs : List W.Step) → AreTexts slots (cut_step known ends s xs) → (AreTexts slots xs → AreNew slots (puts xs)) →
    AreNew slots (puts (cut_step known ends s xs))
cut_new slots known false s xs t h = h t
cut_new slots true true s xs t h = h t
cut_new slots false true s xs t h = h t.1

puts_new : (slots : Slots) (supply : ℕ → ℕ) (ms : List Mark) (r : ChangeReader) → MarksBegun slots ms → AreTexts slots (script_for supply ms r) → AreNew slots (puts (script_for supply ms r))
puts_new slots supply [] r m t = run_new slots supply r.run r.made [] t (λ _. tt)
puts_new slots supply (KeptLetter s ends ∷ ms) r m t =
    keep_new slots (is_seen r.seen s) s (one_more r.run) (script_for supply ms (kept_reader s r)) t (puts_new slots supply ms (kept_reader s r) m)
puts_new slots supply (CutLetter s ends ∷ ms) r m t = cut_new slots (is_seen r.seen s) ends s (script_for supply ms r) t (puts_new slots supply ms r m)
puts_new slots supply (NewLetter ∷ ms) r m t = puts_new slots supply ms (record r { run = one_more r.run }) m t
puts_new slots supply (KeptBegin n kind ∷ ms) r m t =
    run_new slots supply r.run r.made (W.Enter W.Keep n ∷ script_for supply ms (ended r)) t (let h = puts_new slots supply ms (ended r) m in λ u. h u.1)
puts_new slots supply (CutBegin n ∷ ms) r m t = puts_new slots supply ms r m t.1
puts_new slots supply (NewBegin n kind ∷ ms) r m t =
    run_new slots supply r.run r.made (W.Enter W.Put n ∷ script_for supply ms (ended r)) t (let h = puts_new slots supply ms (ended r) m.1 in λ u. ((what.Node kind, m.0), h u.1))
puts_new slots supply (KeptEnd kind ∷ ms) r m t =
    run_new slots supply r.run r.made (W.Leave W.Keep ∷ script_for supply ms (ended r)) t (let h = puts_new slots supply ms (ended r) m in λ u. h u.1)
puts_new slots supply (CutEnd ∷ ms) r m t = puts_new slots supply ms r m t.1
puts_new slots supply (NewEnd kind ∷ ms) r m t =
    run_new slots supply r.run r.made (W.Leave W.Put ∷ script_for supply ms (ended r)) t (let h = puts_new slots supply ms (ended r) m in λ u. h u.1)

pub script_new : (slots : Slots) (supply : ℕ → ℕ) (acts : List Act) (ss : List Sign) → AreBegun slots acts → AreTexts slots (script_for supply (marks acts ss) (first_reader 0)) →
    AreNew slots (puts (script_for supply (marks acts ss) (first_reader 0)))
script_new slots supply acts ss b t = puts_new slots supply (marks acts ss) (first_reader 0) (marks_begun slots acts ss b) t

-- their sorts
pub come_sorts : (slots : Slots) (acts : List Act) → AreBegun slots acts → ComeWithSorts slots acts
come_sorts slots [] b = tt
come_sorts slots (Stay ∷ acts) b = come_sorts slots acts b
come_sorts slots (Go ∷ acts) b = come_sorts slots acts b
come_sorts slots (ComeLetter ∷ acts) b = come_sorts slots acts b
come_sorts slots (ComeBegin n kind ∷ acts) b = (ap (option_map (λ node. node.what)) b.0, come_sorts slots acts b.1)
come_sorts slots (ComeEnd kind ∷ acts) b = come_sorts slots acts b

pub text_sorts : (slots : Slots) (xs : List W.Step) → AreTexts slots xs → TextsAreRuns slots xs
text_sorts slots [] t = tt
text_sorts slots (W.Enter how n ∷ xs) t = text_sorts slots xs t.1
text_sorts slots (W.Leave how ∷ xs) t = text_sorts slots xs t.1
text_sorts slots (W.Text W.Keep n ∷ xs) t = text_sorts slots xs t.1
text_sorts slots (W.Text W.Drop n ∷ xs) t = text_sorts slots xs t.1
text_sorts slots (W.Text W.Put n ∷ xs) t = (ap (option_map (λ node. node.what)) t.0, text_sorts slots xs t.1)
text_sorts slots (W.Count n count ∷ xs) t = text_sorts slots xs t.1

-- the made nodes of a script by number
pub puts-nodes : (script : List Step) → map number_of (nodes_of Put script) ≡ puts (steps_of script)
puts-nodes [] = refl
puts-nodes (Enter Keep n ∷ xs) = puts-nodes xs
puts-nodes (Enter Cut n ∷ xs) = puts-nodes xs
puts-nodes (Enter Put n ∷ xs) = ap (λ l. n.0 ∷ l) (puts-nodes xs)
puts-nodes (Leave how ∷ xs) = puts-nodes xs
puts-nodes (Text Keep n ∷ xs) = puts-nodes xs
puts-nodes (Text Cut n ∷ xs) = puts-nodes xs
puts-nodes (Text Put n ∷ xs) = ap (λ l. n.0 ∷ l) (puts-nodes xs)
puts-nodes (Count n count ∷ xs) = puts-nodes xs

-- a new node links to nothing, as where there is none
new_link : (old mid : Slots) (link : ArenaNode → Option NodeId) → ((sort : NodeWhat) → link (new_node sort) ≡ None) → (q : ℕ) (ns : List ℕ) → AreNew mid ns → AllVacant old ns →
    (Apart q ns → slot_at mid q ≡ slot_at old q) → link_in link (slot_at mid q) ≡ link_in link (slot_at old q)
new_link old mid link e q [] new vacant h = ap (link_in link) (h tt)
new_link old mid link e q (n ∷ ns) new vacant h =
    by_case n q
    (λ same. subst (λ p. link_in link (slot_at mid p) ≡ link_in link (slot_at old p)) same
    (ap (link_in link) new.0.1 ∙ ap (option_map number_of) (e new.0.0) ∙ sym (ap (link_in link) vacant.0)))
    (λ differs. new_link old mid link e q ns new.1 vacant.1 (λ a. h ((λ same. differs (sym same)), a)))

-- so making nodes leaves all links
pub links_stay : (old mid : Slots) (ns : List NodeId) → HasMade old mid ns → AreNew mid (map number_of ns) → links_of mid ≡ links_of old
links_stay old mid ns made new = λ i. record {
  parent = λ q. new_link old mid (λ node. node.parent) (λ _. refl) q (map number_of ns) new made.vacant (made.others q) i;
  first = λ q. new_link old mid (λ node. node.first) (λ _. refl) q (map number_of ns) new made.vacant (made.others q) i;
  last = λ q. new_link old mid (λ node. node.last) (λ _. refl) q (map number_of ns) new made.vacant (made.others q) i;
  before = λ q. new_link old mid (λ node. node.before) (λ _. refl) q (map number_of ns) new made.vacant (made.others q) i;
  after = λ q. new_link old mid (λ node. node.after) (λ _. refl) q (map number_of ns) new made.vacant (made.others q) i;
}
